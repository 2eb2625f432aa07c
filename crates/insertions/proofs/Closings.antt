-- Where an element is closed: once, by its end tag or as an empty tag.
use Rattle.std.proofs.Common.{◌≡◌, ℕ, zero, suc, pred, ◌<◌, ◌≤◌, true, List, [], ◌∷◌, ◌++◌, Option, Some, refl, sym, ◌∙◌, ap, subst, arith, ◌⊎◌, inl, inr}
use Rattle.std.proofs.lemmas.Option.{none-some, same_Some}
use Rattle.std.specs.Option.{option_map_or}
use Rattle.std.specs.Prelude.{option_map}
use Rattle.document_model.specs.Names.{Name}
use Rattle.document_model.specs.Items.{Attribute, Item, Piece, declaration, start_tag, empty_tag, end_tag, character, reference, cdata, comment, instruction}
use Rattle.document_model.specs.Tree.{Node, Nodes, Path, Element, Text, Comment, Instruction, no_nodes, ◌⨾◌, below, node_at, IsElement, IsElementAt, in_nodes_of, in_last, grown, depth, added_at, tree_after, last_of, last_path, count}
use Rattle.document_model.specs.Places.{path_of}
use Rattle.document_model.specs.Insertion.{may_close}
use Rattle.document_model.proofs.Grown.{Spine, added_start, last_in_last}
use Rattle.document_model.proofs.Put.{closing}
use Rattle.doc_spans.specs.Marks.{items_of, Follow}
use Rattle.doc_spans.proofs.Named.{head_of, named_begun}
use Rattle.doc_spans.proofs.Stays.{head, stays}
use Rattle.doc_spans.proofs.Steps.{spine, path_begun}
use Rattle.doc_spans.proofs.AllNamed.{new_or_old}

-- The element that is open at a depth.

count_in_last : (f : Node → Node) (nodes : Nodes) → count (in_last f nodes) ≡ count nodes
count_in_last f no_nodes = refl
count_in_last f (node ⨾ no_nodes) = refl
count_in_last f (node ⨾ next ⨾ nodes) = ap suc (count_in_last f (next ⨾ nodes))

abbrev below_path : ℕ → Option Node → Path
below_path d o = option_map_or (λ node. last_path d (below node)) o []

pub below_changed : (f : Nodes → Nodes) (node : Node) → IsElement node → below (in_nodes_of f node) ≡ f (below node)
below_changed f (Element name attributes nodes) h = refl
below_changed f (Text cs) h = absurd h
below_changed f (Comment cs) h = absurd h
below_changed f (Instruction target content) h = absurd h

pub level_kept : (j d : ℕ) → j ≤ d → (x nodes : Nodes) → Spine d nodes → last_path j (grown d x nodes) ≡ last_path j nodes
level_kept zero d h x nodes s = refl
level_kept (suc j) zero h x nodes s = absurd (omega (arith, h))
level_kept (suc j) (suc d) h x nodes s =
    ap (λ n. pred n ∷ below_path j (last_of (grown (suc d) x nodes))) (count_in_last (in_nodes_of (grown d x)) nodes)
    ∙ ap (λ p. pred (count nodes) ∷ p)
    (ap (below_path j) (last_in_last (in_nodes_of (grown d x)) nodes ∙ ap (option_map (in_nodes_of (grown d x))) s.1)
    ∙ ap (last_path j) (below_changed (grown d x) s.0 s.2)
    ∙ level_kept j d (omega (arith, h)) x (below s.0) s.3
    ∙ sym (ap (below_path j) s.1))

-- a path names an element that is open
pub record IsOpen (host : Path) (before : List Item) : Type 0 where
  pub level : ℕ
  pub inside : level < depth before
  pub at : host ≡ last_path (suc level) (tree_after before)

pub still_open : (host : Path) (item : Item) (before : List Item) → Follow before → (o : IsOpen host before) → o.level < depth (item ∷ before) → IsOpen host (item ∷ before)
still_open host item before h o l = record {
  level = o.level;
  inside = l;
  at = o.at ∙ sym (level_kept (suc o.level) (depth before) (let lt : o.level < depth before = o.inside in omega arith) (added_at (depth before) item) (tree_after before) (spine before h));
}

pub end_path : (before : List Item) (name : Name) → path_of before (end_tag name) ≡ last_path (depth before) (tree_after before)
end_path before name = ap (last_path (depth before)) (closing name before)

added_empty : (d : ℕ) (name : Name) (attributes : List Attribute) → added_at d (empty_tag name attributes) ≡ Element name attributes no_nodes ⨾ no_nodes
added_empty zero name attributes = refl
added_empty (suc d) name attributes = refl

pub same_tree : (before : List Item) (name : Name) (attributes : List Attribute) → tree_after (empty_tag name attributes ∷ before) ≡ tree_after (start_tag name attributes ∷ before)
same_tree before name attributes =
    ap (λ x. grown (depth before) x (tree_after before)) (added_empty (depth before) name attributes ∙ sym (added_start (depth before) name attributes))

pub empty_path : (before : List Item) (name : Name) (attributes : List Attribute)
    → path_of before (empty_tag name attributes) ≡ last_path (suc (depth before)) (tree_after (start_tag name attributes ∷ before))
empty_path before name attributes = ap (last_path (suc (depth before))) (same_tree before name attributes)

-- a path names an element that is closed; the last piece stands first
pub record IsClosed (host : Path) (pieces : List Piece) : Type 0 where
  pub behind : List Piece
  pub piece : Piece
  pub front : List Piece
  pub parts : pieces ≡ behind ++ (piece ∷ front)
  pub may : may_close piece.item ≡ true
  pub at : path_of (items_of front) piece.item ≡ host

still_closed : (host : Path) (piece : Piece) (pieces : List Piece) → IsClosed host pieces → IsClosed host (piece ∷ pieces)
still_closed host piece pieces c =
    record { behind = piece ∷ c.behind; piece = c.piece; front = c.front; parts = ap (λ ps. piece ∷ ps) c.parts; may = c.may; at = c.at }

pub innermost : (k d : ℕ) → k < d → (suc k ≡ d) ⊎ (k < pred d)
innermost k zero h = absurd (omega (arith, h))
innermost zero (suc zero) h = inl refl
innermost zero (suc (suc d)) h = inr (omega arith)
innermost (suc k) (suc zero) h = absurd (omega (arith, h))
innermost (suc k) (suc (suc d)) h = elim (innermost k (suc d) (omega (arith, h))) [ inl e ↦ inl (ap suc e) | inr l ↦ inr (omega (arith, l)) ]

more_open : (host : Path) (piece : Piece) (pieces : List Piece) → Follow (items_of pieces) → (item : Item) → piece.item ≡ item → IsOpen host (items_of pieces)
    → IsClosed host (piece ∷ pieces) ⊎ IsOpen host (piece.item ∷ items_of pieces)
more_open host piece pieces h (end_tag name) e o = elim (innermost o.level (depth (items_of pieces)) o.inside) [
  | inl last ↦ inl (record {
    behind = [];
    piece = piece;
    front = pieces;
    parts = refl;
    may = ap may_close e;
    at = ap (path_of (items_of pieces)) e ∙ end_path (items_of pieces) name ∙ ap (λ d. last_path d (tree_after (items_of pieces))) (sym last) ∙ sym o.at;
  })
  | inr l ↦ inr (still_open host piece.item (items_of pieces) h o (subst (λ i. o.level < depth (i ∷ items_of pieces)) (sym e) l))
]
more_open host piece pieces h (start_tag name attributes) e o =
    inr (still_open host piece.item (items_of pieces) h o (subst (λ i. o.level < depth (i ∷ items_of pieces)) (sym e) (let l = o.inside in omega (arith, l))))
more_open host piece pieces h declaration e o = inr (still_open host piece.item (items_of pieces) h o (subst (λ i. o.level < depth (i ∷ items_of pieces)) (sym e) o.inside))
more_open host piece pieces h (empty_tag name attributes) e o = inr (still_open host piece.item (items_of pieces) h o (subst (λ i. o.level < depth (i ∷ items_of pieces)) (sym e) o.inside))
more_open host piece pieces h (character c) e o = inr (still_open host piece.item (items_of pieces) h o (subst (λ i. o.level < depth (i ∷ items_of pieces)) (sym e) o.inside))
more_open host piece pieces h (reference c) e o = inr (still_open host piece.item (items_of pieces) h o (subst (λ i. o.level < depth (i ∷ items_of pieces)) (sym e) o.inside))
more_open host piece pieces h (cdata cs) e o = inr (still_open host piece.item (items_of pieces) h o (subst (λ i. o.level < depth (i ∷ items_of pieces)) (sym e) o.inside))
more_open host piece pieces h (comment cs) e o = inr (still_open host piece.item (items_of pieces) h o (subst (λ i. o.level < depth (i ∷ items_of pieces)) (sym e) o.inside))
more_open host piece pieces h (instruction target content) e o = inr (still_open host piece.item (items_of pieces) h o (subst (λ i. o.level < depth (i ∷ items_of pieces)) (sym e) o.inside))

pub same_head : (a b : Node) → head a ≡ head b → IsElement a → IsElement b
same_head (Element name attributes nodes) (Element other others inner) e h = tt
same_head (Element name attributes nodes) (Text cs) e h = cc
same_head (Element name attributes nodes) (Comment cs) e h = cc
same_head (Element name attributes nodes) (Instruction target content) e h = cc
same_head (Text cs) b e h = absurd h
same_head (Comment cs) b e h = absurd h
same_head (Instruction target content) b e h = absurd h

pub no_text : (node : Node) (m : Node) → Some (head node) ≡ Some m → IsElement node → IsElement m
no_text (Element name attributes nodes) (Element other others inner) e h = tt
no_text (Element name attributes nodes) (Text cs) e h = cc
no_text (Element name attributes nodes) (Comment cs) e h = cc
no_text (Element name attributes nodes) (Instruction target content) e h = cc
no_text (Text cs) m e h = absurd h
no_text (Comment cs) m e h = absurd h
no_text (Instruction target content) m e h = absurd h

begins_element : (host : Path) (piece : Piece) (pieces : List Piece) (node : Node) → IsElement node → (item : Item) → piece.item ≡ item → Some (head node) ≡ head_of item
    → host ≡ path_of (items_of pieces) piece.item → IsClosed host (piece ∷ pieces) ⊎ IsOpen host (piece.item ∷ items_of pieces)
begins_element host piece pieces node is (start_tag name attributes) e same at = inr (subst (λ i. host ≡ path_of (items_of pieces) i → IsOpen host (i ∷ items_of pieces)) (sym e)
    (λ a. record { level = depth (items_of pieces); inside = omega arith; at = a }) at)
begins_element host piece pieces node is (empty_tag name attributes) e same at = inl (record { behind = []; piece = piece; front = pieces; parts = refl; may = ap may_close e; at = sym at })
begins_element host piece pieces node is declaration e same at = absurd (none-some (head node) (sym same))
begins_element host piece pieces node is (end_tag name) e same at = absurd (none-some (head node) (sym same))
begins_element host piece pieces node is (character c) e same at = absurd (no_text node (Text []) same is)
begins_element host piece pieces node is (reference c) e same at = absurd (no_text node (Text []) same is)
begins_element host piece pieces node is (cdata cs) e same at = absurd (no_text node (Text []) same is)
begins_element host piece pieces node is (comment cs) e same at = absurd (no_text node (Comment cs) same is)
begins_element host piece pieces node is (instruction target content) e same at = absurd (no_text node (Instruction target content) same is)

-- Each element of the tree is open or closed.
pub closed_or_open : (pieces : List Piece) → Follow (items_of pieces) → (host : Path) → IsElementAt (tree_after (items_of pieces)) host → IsClosed host pieces ⊎ IsOpen host (items_of pieces)
closed_or_open [] h [] e = absurd (none-some e.0 e.1)
closed_or_open [] h (k ∷ path) e = absurd (none-some e.0 e.1)
closed_or_open (piece ∷ pieces) h host e = elim (new_or_old (items_of pieces) piece.item host h.1 h.0 (e.0, e.1)) [
  | inl old ↦
      let before = items_of pieces in
      let kept = stays (depth before) (added_at (depth before) piece.item) (tree_after before) host old.0 old.1 in
      let same : head e.0 ≡ head old.0 = same_Some (head e.0) (head old.0) (sym (ap (option_map head) e.1) ∙ kept) in
      elim (closed_or_open pieces h.1 host (old.0, old.1, same_head e.0 old.0 same e.2)) [
        | inl c ↦ inl (still_closed host piece pieces c)
        | inr o ↦ more_open host piece pieces h.1 piece.item refl o
      ]
  | inr new ↦
      let named = named_begun (items_of pieces) piece.item h.1 new.1 in
      let there = new.0 ∙ path_begun (items_of pieces) piece.item h.1 new.1 in
      let node : named.0 ≡ e.0 = same_Some named.0 e.0 (sym named.1 ∙ ap (node_at (tree_after (items_of (piece ∷ pieces)))) (sym there) ∙ e.1) in
      begins_element host piece pieces e.0 e.2 piece.item refl (sym (ap (λ n. Some (head n)) node) ∙ named.2) new.0
]
