-- A builder's rows after one more piece.
use Rattle.std.proofs.Common.{◌≡◌, ℕ, zero, suc, pred, ◌<◌, Bool, true, false, not, cond, ◌&&◌, ◌||◌, List, [], ◌∷◌, ◌++◌, length, Some, refl, sym, ◌∙◌, ap, subst, arith, nat_eq, inl}
use Rattle.std.proofs.lemmas.Option.{none-some}
use Rattle.std.proofs.lemmas.Bool.{ne_eqb, eq-eqb}
use Rattle.std.proofs.Math.Dec.{eqb-suc-zero}
use Rattle.document_model.specs.Names.{Name}
use Rattle.document_model.specs.Items.{Attribute, Item, Piece, declaration, start_tag, empty_tag, end_tag, character, reference, cdata, comment, instruction}
use Rattle.document_model.specs.Tree.{Node, Nodes, Element, Text, Comment, Instruction, no_nodes, ◌⨾◌, joined, depth, added_by, added_at, tree_after, last_of, last_path, count}
use Rattle.document_model.specs.Documents.{is_in_text}
use Rattle.document_model.specs.Places.{path_of, begins_node}
use Rattle.document_model.proofs.Grown.{Spine, joined_none, spine_less}
use Rattle.document_model.proofs.Put.{closing}
use Rattle.doc_spans.specs.declared.rows.Kind.TheVariants as kinds
use Rattle.doc_spans.specs.declared.rows.Shape.TheVariants as shapes
use Rattle.doc_spans.specs.Marks.{size, items_of, Follow, open_path, kind_of_item, shape_of}
use Rattle.doc_spans.specs.Building as building
use Rattle.doc_spans.specs.Building.{State, step, with_end, parent_of}
use Rattle.doc_spans.specs.View.{none}
use Rattle.doc_spans.proofs.Spine.{inside, path_grown, path_of_last}
use Rattle.doc_spans.proofs.Steps.{children, child_count, ends_in_text, is_text, spine, never, text_is_last, deep, added_whole, added_comment, added_instruction, path_begun, path_of_text, stays_in_text, more, count_apart, behind, Behind, last_below, none_yet}
use Rattle.doc_spans.proofs.Builds.{Builds, Next, IsNothing, IsLeaf, IsStart}
use Rattle.doc_spans.proofs.EndedRows.{IsEnd, GoesOn}
use Rattle.doc_spans.proofs.Links.{Built, built_nothing, built_leaf, built_start, built_on, built_end}

abbrev pub one : List ℕ → Item → Piece
one text item = record { text = text; item = item }

-- Items that add nothing.

pub added_nothing : (d : ℕ) → added_at d declaration ≡ no_nodes
added_nothing zero = refl
added_nothing (suc d) = refl

pub added_flat : (d c : ℕ) → d ≡ 0 → added_at d (character c) ≡ no_nodes
added_flat zero c e = refl
added_flat (suc d) c e = cc

flat_path : (d : ℕ) (tree : Nodes) → d ≡ 0 → last_path d tree ≡ []
flat_path d tree e = ap (λ n. last_path n tree) e

count_same : (before : List Item) (item : Item) → Follow before → added_at (depth before) item ≡ no_nodes
    → count (inside (depth before) (tree_after (item ∷ before))) ≡ child_count before
count_same before item h e = ap count (stays_in_text before item h e)

pub path_same : (before : List Item) (item : Item) → Follow before → last_path (depth before) (tree_after (item ∷ before)) ≡ open_path before
path_same before item h = path_grown (depth before) (added_at (depth before) item) (tree_after before) (spine before h)

pub is_nothing_declaration : (pieces : List Piece) (text : List ℕ) → Follow (items_of ((one text declaration) ∷ pieces)) → IsNothing pieces (one text declaration)
is_nothing_declaration pieces text n =
    let before = items_of pieces in
    record {
      path = sym (flat_path (depth before) (tree_after before) n.0);
      begins = refl;
      outer = path_same before declaration n.1;
      count = count_same before declaration n.1 (added_nothing (depth before));
      level = refl;
      text = λ h. refl;
    }

pub is_nothing_outside : (pieces : List Piece) (text : List ℕ) (c : ℕ) → Follow (items_of ((one text (character c)) ∷ pieces)) → depth (items_of pieces) ≡ 0 → IsNothing pieces (one text (character c))
is_nothing_outside pieces text c n flat =
    let before = items_of pieces in
    record {
      path = ap (λ d. last_path (cond (nat_eq d 0) 0 (suc d)) (tree_after (character c ∷ before))) flat ∙ sym (flat_path (depth before) (tree_after before) flat);
      begins = ap (λ d. not (nat_eq d 0 || is_in_text before)) flat;
      outer = path_same before (character c) n.1;
      count = count_same before (character c) n.1 (added_flat (depth before) c flat);
      level = refl;
      text = λ h. absurd (omega (arith, flat, h));
    }

pub is_nothing_section : (pieces : List Piece) (text : List ℕ) → Follow (items_of ((one text (cdata [])) ∷ pieces)) → is_in_text (items_of pieces) ≡ false → IsNothing pieces (one text (cdata []))
is_nothing_section pieces text n quiet =
    let before = items_of pieces in
    record {
      path = ap (λ t. last_path (cond t (suc (depth before)) (depth before)) (tree_after (cdata [] ∷ before))) quiet ∙ path_same before (cdata []) n.1;
      begins = refl;
      outer = path_same before (cdata []) n.1;
      count = count_same before (cdata []) n.1 (deep (depth before) (cdata []) n.0);
      level = refl;
      text = λ h. quiet;
    }

-- Texts.

-- a text item adds one text, and stands inside an element
pub record IsText (before : List Item) (item : Item) : Type 0 where
  pub c : ℕ
  pub cs : List ℕ
  pub adds : added_by item ≡ Text (c ∷ cs) ⨾ no_nodes
  pub path : 0 < depth before → path_of before item ≡ Behind before (added_at (depth before) item)
  pub begins : begins_node before item ≡ not (nat_eq (depth before) 0 || is_in_text before)
  pub level : depth (item ∷ before) ≡ depth before
  pub outer : Follow before → open_path (item ∷ before) ≡ open_path before
  pub children : children (item ∷ before) ≡ inside (depth before) (tree_after (item ∷ before))
  pub text : is_in_text (item ∷ before) ≡ true
  pub kind : kind_of_item item ≡ kinds.Text

shallow : (d : ℕ) → 0 < d → cond (nat_eq d 0) 0 (suc d) ≡ suc d
shallow zero i = absurd (omega arith)
shallow (suc d) i = ap (λ b. cond b 0 (suc (suc d))) (eqb-suc-zero d)

pub text_character : (before : List Item) (c : ℕ) → IsText before (character c)
text_character before c = record {
  c = c;
  cs = [];
  adds = refl;
  path = λ h. ap (λ n. last_path n (tree_after (character c ∷ before))) (shallow (depth before) h);
  begins = refl;
  level = refl;
  outer = λ h. path_same before (character c) h;
  children = refl;
  text = refl;
  kind = refl;
}

pub text_reference : (before : List Item) (c : ℕ) → IsText before (reference c)
text_reference before c = record {
  c = c;
  cs = [];
  adds = refl;
  path = λ h. refl;
  begins = refl;
  level = refl;
  outer = λ h. path_same before (reference c) h;
  children = refl;
  text = refl;
  kind = refl;
}

pub text_section : (before : List Item) (c : ℕ) (cs : List ℕ) → IsText before (cdata (c ∷ cs))
text_section before c cs = record {
  c = c;
  cs = cs;
  adds = refl;
  path = λ h. refl;
  begins = refl;
  level = refl;
  outer = λ h. path_same before (cdata (c ∷ cs)) h;
  children = refl;
  text = refl;
  kind = refl;
}

not_either : (a b : Bool) → b ≡ true → not (a || b) ≡ false
not_either true b e = refl
not_either false b e = ap not e

pub goes_on_text : (pieces : List Piece) (text : List ℕ) (item : Item) → Follow (items_of ((one text item) ∷ pieces)) → Follow (items_of pieces) → IsText (items_of pieces) item
    → 0 < depth (items_of pieces) → is_in_text (items_of pieces) ≡ true → GoesOn pieces (one text item)
goes_on_text pieces text item n follow t inner going =
    let before = items_of pieces in
    let x = added_at (depth before) item in
    let found = path_of_text before (t.c ∷ t.cs) x follow (deep (depth before) item inner ∙ t.adds) inner going in
    record {
      path = t.path inner ∙ found.0;
      begins = t.begins ∙ not_either (nat_eq (depth before) 0) (is_in_text before) going;
      outer = t.outer follow;
      count = ap count (t.children ∙ more before x follow) ∙ found.2;
      level = t.level;
      text = t.text;
      inner = inner;
    }

pub goes_on_section : (pieces : List Piece) (text : List ℕ) → Follow (items_of ((one text (cdata [])) ∷ pieces)) → is_in_text (items_of pieces) ≡ true → GoesOn pieces (one text (cdata []))
goes_on_section pieces text n going =
    let before = items_of pieces in
    let x = added_at (depth before) (cdata []) in
    let none_added = deep (depth before) (cdata []) n.0 in
    record {
      path = ap (λ t. last_path (cond t (suc (depth before)) (depth before)) (tree_after (cdata [] ∷ before))) going
          ∙ behind before x n.1
          ∙ ap (λ ns. open_path before ++ pred (count ns) ∷ []) (ap (joined (children before)) none_added ∙ joined_none (children before));
      begins = refl;
      outer = path_same before (cdata []) n.1;
      count = count_same before (cdata []) n.1 none_added;
      level = refl;
      text = going;
      inner = n.0;
    }

-- Nodes.

count_new : (before : List Item) (item : Item) (node : Node) → Follow before → added_at (depth before) item ≡ node ⨾ no_nodes
    → (ends_in_text (children before) && is_text node) ≡ false → count (inside (depth before) (tree_after (item ∷ before))) ≡ suc (child_count before)
count_new before item node h e apart =
    ap count (more before (added_at (depth before) item) h ∙ ap (joined (children before)) e) ∙ count_apart (children before) node apart

pub leaf_text : (pieces : List Piece) (text : List ℕ) (item : Item) → Follow (items_of ((one text item) ∷ pieces)) → Follow (items_of pieces) → IsText (items_of pieces) item
    → 0 < depth (items_of pieces) → is_in_text (items_of pieces) ≡ false → IsLeaf pieces (one text item) kinds.Text true
leaf_text pieces text item n follow t inner quiet =
    let before = items_of pieces in
    let starts : begins_node before item ≡ true = t.begins ∙ starts_text (depth before) (is_in_text before) inner quiet in
    record {
      new = record { path = path_begun before item follow starts; begins = starts };
      kind_is = t.kind;
      outer = t.outer follow;
      count = ap count t.children ∙ count_new before item (Text (t.c ∷ t.cs)) follow (deep (depth before) item inner ∙ t.adds) (ap (λ b. b && true) (text_is_last before follow inner ∙ quiet));
      level = t.level;
      text = λ h. sym t.text;
      no_text = λ h. absurd (omega (arith, h, inner));
    }
  where
    starts_text : (d : ℕ) (b : Bool) → 0 < d → b ≡ false → not (nat_eq d 0 || b) ≡ true
    starts_text zero b h e = absurd (omega arith)
    starts_text (suc d) b h e = ap (λ x. not (x || b)) (eqb-suc-zero d) ∙ ap not e

pub leaf_empty : (pieces : List Piece) (text : List ℕ) (name : Name) (attributes : List Attribute) → Follow (items_of pieces)
    → IsLeaf pieces (one text (empty_tag name attributes)) kinds.Element false
leaf_empty pieces text name attributes follow = let before = items_of pieces in record {
  new = record { path = path_begun before (empty_tag name attributes) follow refl; begins = refl };
  kind_is = refl;
  outer = path_same before (empty_tag name attributes) follow;
  count = count_new before (empty_tag name attributes) (Element name attributes no_nodes) follow (added_whole (depth before) name attributes) (never (ends_in_text (children before)));
  level = refl;
  text = λ h. refl;
  no_text = λ h. refl;
}

pub leaf_comment : (pieces : List Piece) (text cs : List ℕ) → Follow (items_of pieces) → IsLeaf pieces (one text (comment cs)) kinds.Comment false
leaf_comment pieces text cs follow = let before = items_of pieces in record {
  new = record { path = path_begun before (comment cs) follow refl; begins = refl };
  kind_is = refl;
  outer = path_same before (comment cs) follow;
  count = count_new before (comment cs) (Comment cs) follow (added_comment (depth before) cs) (never (ends_in_text (children before)));
  level = refl;
  text = λ h. refl;
  no_text = λ h. refl;
}

pub leaf_instruction : (pieces : List Piece) (text target content : List ℕ) → Follow (items_of pieces) → IsLeaf pieces (one text (instruction target content)) kinds.Pi false
leaf_instruction pieces text target content follow = let before = items_of pieces in record {
  new = record { path = path_begun before (instruction target content) follow refl; begins = refl };
  kind_is = refl;
  outer = path_same before (instruction target content) follow;
  count = count_new before (instruction target content) (Instruction target content) follow (added_instruction (depth before) target content) (never (ends_in_text (children before)));
  level = refl;
  text = λ h. refl;
  no_text = λ h. refl;
}

pub starts : (pieces : List Piece) (text : List ℕ) (name : Name) (attributes : List Attribute) → Follow (items_of pieces) → IsStart pieces (one text (start_tag name attributes))
starts pieces text name attributes follow = let before = items_of pieces in record {
  new = record { path = path_begun before (start_tag name attributes) follow refl; begins = refl };
  kind_is = refl;
  outer = path_begun before (start_tag name attributes) follow refl;
  count = ap count (none_yet name attributes before follow);
  level = refl;
  text = refl;
}

-- Ends.

some_node : (nodes : Nodes) (node : Node) → last_of nodes ≡ Some node → 0 < count nodes
some_node no_nodes node e = absurd (none-some node e)
some_node (n ⨾ nodes) node e = omega arith

last_is : (d : ℕ) (tree : Nodes) → 0 < d → Spine d tree → (last_path d tree ≡ last_path (pred d) tree ++ pred (count (inside (pred d) tree)) ∷ []) × (0 < count (inside (pred d) tree))
last_is zero tree h s = absurd (omega arith)
last_is (suc d) tree h s = let found = last_below d tree s in (path_of_last d tree (spine_less d tree s), some_node (inside d tree) found.0 found.1)

some_path : (d : ℕ) (tree : Nodes) → 0 < d → last_path d tree ≡ [] → ⊥
some_path zero tree h e = absurd (omega arith)
some_path (suc d) tree h e = let n = ap length e in omega (arith, n)

one_less : (d : ℕ) → 0 < d → d ≡ suc (pred d)
one_less zero h = absurd (omega arith)
one_less (suc d) h = refl

pub ends : (pieces : List Piece) (text : List ℕ) (name : Name) → Follow (items_of ((one text (end_tag name)) ∷ pieces)) → IsEnd pieces (one text (end_tag name))
ends pieces text name n =
    let before = items_of pieces in
    let d = depth before in
    let same = closing name before in
    let found = last_is d (tree_after before) n.0 (spine before n.1) in
    let P : Nodes → Type 0 = λ tree. 0 < count (inside (pred d) tree) in
    record {
      path = path_same before (end_tag name) n.1;
      begins = refl;
      outer = found.0 ∙ ap (λ tree. last_path (pred d) tree ++ pred (count (inside (pred d) tree)) ∷ []) (sym same);
      count = subst P (sym same) found.1;
      level = one_less d n.0;
      text = refl;
      path_some = λ h e. some_path (pred d) (tree_after (end_tag name ∷ before)) h e;
      path_none = λ h. flat_path (pred d) (tree_after (end_tag name ∷ before)) h;
    }

-- All.

text_turn : (s : State) (pieces : List Piece) (text : List ℕ) (item : Item) → Built s pieces → Next pieces (one text item) → Follow (items_of pieces) → IsText (items_of pieces) item
    → (depth (items_of pieces) ≡ 0 → IsNothing pieces (one text item))
    → Built (step shapes.Characters (size (one text item ∷ pieces)) s) (one text item ∷ pieces)
text_turn s pieces text item b n follow t outside = by_text s.in_text refl
  where
    inner : (d : ℕ) → (d ≡ 0 → s.in_text ≡ false) → s.in_text ≡ true → 0 < d
    inner zero h e = (let f : false ≡ true = sym (h refl) ∙ e in (cc))
    inner (suc d) h e = omega arith

    by_depth : (d : ℕ) → depth (items_of pieces) ≡ d → s.in_text ≡ false
        → Built (cond (nat_eq s.current none) (record s { at = size (one text item ∷ pieces) })
        (record (building.begun kinds.Text (size (one text item ∷ pieces)) s) { in_text = true })) (one text item ∷ pieces)
    by_depth zero e quiet =
        let P : Bool → Type 0 = λ x. Built (cond x (record s { at = size (one text item ∷ pieces) })
        (record (building.begun kinds.Text (size (one text item ∷ pieces)) s) { in_text = true })) (one text item ∷ pieces) in
        subst P (sym (eq-eqb s.current none (b.0.flat e))) (built_nothing s pieces (one text item) b n (outside e) quiet)
    by_depth (suc d) e quiet =
        let deeper : 0 < depth (items_of pieces) = omega (arith, e) in
        let small : s.current < length s.rows = b.0.deep deeper in
        let P : Bool → Type 0 = λ x. Built (cond x (record s { at = size (one text item ∷ pieces) })
        (record (building.begun kinds.Text (size (one text item ∷ pieces)) s) { in_text = true })) (one text item ∷ pieces) in
        subst P (sym (ne_eqb s.current none (λ f. omega (arith, f, small, b.0.few, b.0.small))))
        (built_leaf s pieces (one text item) kinds.Text true b n (leaf_text pieces text item n.follow follow t deeper (sym (b.0.text deeper) ∙ quiet)))

    by_text : (x : Bool) → s.in_text ≡ x → Built (step shapes.Characters (size (one text item ∷ pieces)) s) (one text item ∷ pieces)
    by_text true e =
        let P : Bool → Type 0 = λ x. Built (cond x (building.gone_on (size (one text item ∷ pieces)) s)
        (cond (nat_eq s.current none) (record s { at = size (one text item ∷ pieces) })
        (record (building.begun kinds.Text (size (one text item ∷ pieces)) s) { in_text = true }))) (one text item ∷ pieces) in
        let deeper = inner (depth (items_of pieces)) b.0.no_text e in
        subst P (sym e) (built_on s pieces (one text item) b n (goes_on_text pieces text item n.follow follow t deeper (sym (b.0.text deeper) ∙ e)) e)
    by_text false e =
        let P : Bool → Type 0 = λ x. Built (cond x (building.gone_on (size (one text item ∷ pieces)) s)
        (cond (nat_eq s.current none) (record s { at = size (one text item ∷ pieces) })
        (record (building.begun kinds.Text (size (one text item ∷ pieces)) s) { in_text = true }))) (one text item ∷ pieces) in
        subst P (sym e) (by_depth (depth (items_of pieces)) refl e)

section_turn : (s : State) (pieces : List Piece) (text : List ℕ) → Built s pieces → Next pieces (one text (cdata []))
    → Built (step shapes.EmptySection (size (one text (cdata []) ∷ pieces)) s) (one text (cdata []) ∷ pieces)
section_turn s pieces text b n = by_text s.in_text refl
  where
    by_text : (x : Bool) → s.in_text ≡ x → Built (step shapes.EmptySection (size (one text (cdata []) ∷ pieces)) s) (one text (cdata []) ∷ pieces)
    by_text true e =
        let P : Bool → Type 0 = λ x. Built (cond x (building.gone_on (size (one text (cdata []) ∷ pieces)) s) (record s { at = size (one text (cdata []) ∷ pieces) })) (one text (cdata []) ∷ pieces) in
        subst P (sym e) (built_on s pieces (one text (cdata [])) b n (goes_on_section pieces text n.follow (sym (b.0.text n.follow.0) ∙ e)) e)
    by_text false e =
        let P : Bool → Type 0 = λ x. Built (cond x (building.gone_on (size (one text (cdata []) ∷ pieces)) s) (record s { at = size (one text (cdata []) ∷ pieces) })) (one text (cdata []) ∷ pieces) in
        subst P (sym e) (built_nothing s pieces (one text (cdata [])) b n (is_nothing_section pieces text n.follow (sym (b.0.text n.follow.0) ∙ e)) e)

turn : (s : State) (pieces : List Piece) (text : List ℕ) (item : Item) → Built s pieces → Next pieces (one text item)
    → Built (step (shape_of item) (size (one text item ∷ pieces)) s) (one text item ∷ pieces)
turn s pieces text declaration b n = built_nothing s pieces (one text declaration) b n (is_nothing_declaration pieces text n.follow) (b.0.no_text n.follow.0)
turn s pieces text (start_tag name attributes) b n = built_start s pieces (one text (start_tag name attributes)) b n (starts pieces text name attributes n.follow.1)
turn s pieces text (empty_tag name attributes) b n =
    built_leaf s pieces (one text (empty_tag name attributes)) kinds.Element false b n (leaf_empty pieces text name attributes n.follow.1)
turn s pieces text (end_tag name) b n = built_end s pieces (one text (end_tag name)) b n (ends pieces text name n.follow)
turn s pieces text (character c) b n =
    text_turn s pieces text (character c) b n n.follow.1 (text_character (items_of pieces) c) (λ flat. is_nothing_outside pieces text c n.follow flat)
turn s pieces text (reference c) b n =
    text_turn s pieces text (reference c) b n n.follow.1 (text_reference (items_of pieces) c) (λ flat. let h = n.follow.0 in absurd (omega (arith, h, flat)))
turn s pieces text (cdata []) b n = section_turn s pieces text b n
turn s pieces text (cdata (c ∷ cs)) b n =
    text_turn s pieces text (cdata (c ∷ cs)) b n n.follow.1 (text_section (items_of pieces) c cs) (λ flat. let h = n.follow.0 in absurd (omega (arith, h, flat)))
turn s pieces text (comment cs) b n = built_leaf s pieces (one text (comment cs)) kinds.Comment false b n (leaf_comment pieces text cs n.follow.1)
turn s pieces text (instruction target content) b n =
    built_leaf s pieces (one text (instruction target content)) kinds.Pi false b n (leaf_instruction pieces text target content n.follow.1)

-- One more piece.
pub built_more : (s : State) (pieces : List Piece) (piece : Piece) → Built s pieces → Next pieces piece
    → Built (step (shape_of piece.item) (size (piece ∷ pieces)) s) (piece ∷ pieces)
built_more s pieces piece b n = turn s pieces piece.text piece.item b n

-- Before the first.
pub builds_none : Builds (record { rows = []; current = none; previous = none; in_text = false; at = 0 }) []
builds_none = record {
  follow = tt;
  at = refl;
  few = omega arith;
  small = omega arith;
  shown = refl;
  kinds = refl;
  before = λ k p e. absurd (none-some p e);
  outer = refl;
  deep = λ h. absurd (omega arith);
  flat = λ h. refl;
  count = refl;
  last = λ k p path e. absurd (none-some p e);
  text = λ h. refl;
  no_text = λ h. refl;
  text_row = λ h. (cc);
}

pub built_none : Built (record { rows = []; current = none; previous = none; in_text = false; at = 0 }) []
built_none = (builds_none, record { linked = λ k row e. absurd (none-some row e); first = λ k n e. absurd (none-some n e); last = inl (refl, refl); opened = λ e h. absurd (omega arith) })
