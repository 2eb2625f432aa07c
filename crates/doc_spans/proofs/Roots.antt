-- A whole document has a document element.
use Rattle.std.proofs.Common.{◌≡◌, ℕ, zero, suc, pred, ◌<◌, Bool, true, false, ◌&&◌, List, [], ◌∷◌, ◌++◌, length, Option, Some, None, refl, sym, ◌∙◌, ap, subst, arith, inl, inr}
use Rattle.std.proofs.Math.Logic.{∥∥₁_elim}
use Rattle.std.proofs.lemmas.Bool.{cases_eq}
use Rattle.std.proofs.lemmas.Option.{none-some, same_Some}
use Rattle.std.specs.Prelude.{option_map}
use Rattle.document_model.specs.Characters.{is_empty}
use Rattle.document_model.specs.Names.{Name}
use Rattle.document_model.specs.Items.{Attribute, Item, declaration, start_tag, empty_tag, end_tag, character, reference, cdata, comment, instruction}
use Rattle.document_model.specs.Tree.{Node, Nodes, Element, Text, Comment, Instruction, no_nodes, ◌⨾◌, nth, node_at, IsElement, last_path, count, depth, added_at, tree_after}
use Rattle.document_model.specs.Documents.{run, limits, fault, document_of, has_element, open_elements}
use Rattle.document_model.proofs.Grown.{Spine}
use Rattle.document_model.proofs.Put.{last_nth}
use Rattle.doc_spans.specs.declared.documents.Doc.{Doc}
use Rattle.doc_spans.specs.declared.rows.Kind.{Kind}
use Rattle.doc_spans.specs.declared.rows.Kind.TheVariants as kinds
use Rattle.doc_spans.specs.Below.{nodes_from}
use Rattle.doc_spans.specs.Roots.{NoElementBefore}
use Rattle.doc_spans.specs.Seen.{NameBelow, document_in, shown_in}
use Rattle.doc_spans.proofs.ChildSteps.{NextChild, no_child_left}
use Rattle.doc_spans.specs.Marks.{items_of, Follow, open_path}
use Rattle.doc_spans.specs.Shown.{kind_of, path_at}
use Rattle.doc_spans.proofs.Marks.{onto}
use Rattle.doc_spans.proofs.Named.{named_begun}
use Rattle.doc_spans.proofs.Run.{run_good}
use Rattle.doc_spans.proofs.Stays.{head, stays}
use Rattle.doc_spans.proofs.Steps.{child_count, spine}
use Rattle.doc_spans.proofs.TextNodes.{found_self}
use Rattle.doc_spans.proofs.Whole.{run_ends}

-- an element among nodes
abbrev pub HasElement : Nodes → Type 0
HasElement nodes = (k : ℕ) × (node : Node) × (nth k nodes ≡ Some node) × IsElement node

by_spine : (d : ℕ) (nodes : Nodes) → Spine (suc d) nodes → HasElement nodes
by_spine d nodes s = (pred (count nodes), s.0, last_nth nodes s.0 s.1, s.2)

is_element_head : (m : Node) (name : Name) (attributes : List Attribute) → head m ≡ Element name attributes no_nodes → IsElement m
is_element_head (Element n a nodes) name attributes e = tt
is_element_head (Text cs) name attributes e = cc
is_element_head (Comment cs) name attributes e = cc
is_element_head (Instruction target content) name attributes e = cc

same_head : (m n : Node) → head m ≡ head n → IsElement n → IsElement m
same_head m (Element name attributes nodes) e h = is_element_head m name attributes e
same_head m (Text cs) e h = absurd h
same_head m (Comment cs) e h = absurd h
same_head m (Instruction target content) e h = absurd h

still : (before : List Item) (item : Item) → HasElement (tree_after before) → HasElement (tree_after (item ∷ before))
still before item h =
    let old : node_at (tree_after before) (h.0 ∷ []) ≡ Some h.1 = found_self (nth h.0 (tree_after before)) ∙ h.2 in
    let new = some_of (node_at (tree_after (item ∷ before)) (h.0 ∷ [])) (head h.1) (stays (depth before) (added_at (depth before) item) (tree_after before) (h.0 ∷ []) h.1 old) in
    (h.0, new.0, sym (found_self (nth h.0 (tree_after (item ∷ before)))) ∙ new.1, same_head new.0 h.1 new.2 h.3)
  where
    some_of : (o : Option Node) (m : Node) → option_map head o ≡ Some m → (node : Node) × (o ≡ Some node) × (head node ≡ m)
    some_of None m e = absurd (none-some m e)
    some_of (Some node) m e = (node, refl, same_Some (head node) m e)

empty_begun : (name : Name) (attributes : List Attribute) (before : List Item) (d : ℕ) → depth before ≡ d → Follow before → HasElement (tree_after (empty_tag name attributes ∷ before))
empty_begun name attributes before zero e h =
    let named = named_begun before (empty_tag name attributes) h refl in
    let tree = tree_after (empty_tag name attributes ∷ before) in
    let at_top : open_path before ≡ [] = ap (λ d. last_path d (tree_after before)) e in
    let k = child_count before in
    let here : nth k tree ≡ Some named.0 = sym (found_self (nth k tree)) ∙ ap (λ p. node_at tree (p ++ k ∷ [])) (sym at_top) ∙ named.1 in
    (k, named.0, here, is_element_head named.0 name attributes (same_Some (head named.0) (Element name attributes no_nodes) named.2))
empty_begun name attributes before (suc d) e h =
    let P : ℕ → Type 0 = λ n. Spine n (tree_after (empty_tag name attributes ∷ before)) in
    by_spine d (tree_after (empty_tag name attributes ∷ before)) (subst P e (spine (empty_tag name attributes ∷ before) (tt, h)))

element_begun : (items : List Item) → Follow items → has_element items ≡ true → HasElement (tree_after items)
element_begun [] h e = cc
element_begun (start_tag name attributes ∷ before) h e = by_spine (depth before) (tree_after (start_tag name attributes ∷ before)) (spine (start_tag name attributes ∷ before) h)
element_begun (empty_tag name attributes ∷ before) h e = empty_begun name attributes before (depth before) refl h.1
element_begun (declaration ∷ before) h e = still before declaration (element_begun before h.1 e)
element_begun (end_tag name ∷ before) h e = still before (end_tag name) (element_begun before h.1 e)
element_begun (character c ∷ before) h e = still before (character c) (element_begun before h.1 e)
element_begun (reference c ∷ before) h e = still before (reference c) (element_begun before h.1 e)
element_begun (cdata cs ∷ before) h e = still before (cdata cs) (element_begun before h.1 e)
element_begun (comment cs ∷ before) h e = still before (comment cs) (element_begun before h.1 e)
element_begun (instruction target content ∷ before) h e = still before (instruction target content) (element_begun before h.1 e)

first_true : (a b : Bool) → (a && b) ≡ true → a ≡ true
first_true true b e = refl
first_true false b e = cc

pub has_root : (bytes : List ℕ) → fault bytes ≡ None → HasElement (document_of bytes)
unfolding document_of
has_root bytes whole =
    let pieces = onto (run limits bytes).pieces [] in
    let good = run_good limits (length bytes) [] bytes tt in
    let has : has_element (run limits bytes).before ≡ true = first_true (has_element (run limits bytes).before) (is_empty (open_elements (run limits bytes).before)) (run_ends bytes whole) in
    let P : List Item → Type 0 = λ items. HasElement (tree_after items) in
    subst P good.before (element_begun (items_of pieces) good.follow (ap has_element good.before ∙ has))

-- The search of the document element ends at it.

kind_of_element : (node : Node) → IsElement node → kind_of node ≡ kinds.Element
kind_of_element (Element name attributes nodes) h = refl
kind_of_element (Text cs) h = absurd h
kind_of_element (Comment cs) h = absurd h
kind_of_element (Instruction target content) h = absurd h

all_passed : (i k : ℕ) (nodes : Nodes) (node : Node) → nodes_from i nodes ≡ no_nodes → nth k nodes ≡ Some node → k < i
all_passed i k no_nodes node e f = absurd (none-some node f)
all_passed zero k (first ⨾ nodes) node e f = cc
all_passed (suc i) zero (first ⨾ nodes) node e f = omega arith
all_passed (suc i) (suc k) (first ⨾ nodes) node e f = let h = all_passed i k nodes node e f in omega (arith, h)

pub found_root : (doc : Doc) (i : ℕ) (numbers : List ℕ) → numbers ≡ [] → NameBelow doc [] i numbers → NoElementBefore i (document_in doc) → ⊥
found_root doc i numbers none names passed =
    let past = no_child_left doc [] i numbers none names in
    ∥∥₁_elim doc.whole (λ a b. absurd a) (λ w.
    let root = has_root doc.bytes.now w.tree.spelled in
    passed root.0 (all_passed i root.0 (document_in doc) root.1 past root.2) (ap (option_map kind_of) root.2 ∙ ap Some (kind_of_element root.1 root.3)))

pub passed_more : (doc : Doc) (i number : ℕ) (numbers : List ℕ) (kind : Kind) → NextChild doc [] i number numbers → option_map kind_of (node_at (document_in doc) (path_at (shown_in doc) number)) ≡ Some kind
    → (kind ≡ kinds.Element → ⊥) → NoElementBefore i (document_in doc) → NoElementBefore (suc i) (document_in doc)
passed_more doc i number numbers kind next is other passed k h e = elim (cases_eq k i) [
  | inr apart ↦ passed k (omega (arith, h, apart)) e
  | inl same ↦
      other (same_Some kind kinds.Element (sym is ∙ ap (option_map kind_of) next.named ∙ sym (ap (option_map kind_of) next.nth_is) ∙ ap (λ n. option_map kind_of (nth n (document_in doc))) (sym same) ∙ e))
]
