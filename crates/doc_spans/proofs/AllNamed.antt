-- Each node of the tree has a place: with `paths_name` and `paths_distinct` it has exactly one.
use Rattle.std.proofs.Common.{◌≡◌, ℕ, zero, suc, ◌<◌, Bool, true, false, not, cond, ◌||◌, List, [], ◌∷◌, ◌++◌, length, Some, refl, sym, ◌∙◌, ap, arith, nat_eq, ◌⊎◌, inl, inr}
use Rattle.std.proofs.lemmas.Option.{none-some}
use Rattle.std.proofs.Math.Dec.{eqb-suc-zero}
use Rattle.std.specs.Prelude.{map, slice_get}
use Rattle.document_model.specs.Items.{Item, Piece, declaration, start_tag, empty_tag, end_tag, character, reference, cdata, comment, instruction}
use Rattle.document_model.specs.Tree.{Node, Nodes, Path, Element, Text, Comment, Instruction, no_nodes, ◌⨾◌, node_at, joined, grown, depth, added_by, added_at, tree_after, count}
use Rattle.document_model.specs.Documents.{is_in_text}
use Rattle.document_model.specs.Places.{path_of, begins_node}
use Rattle.document_model.proofs.Grown.{joined_none, grown_none, added_end}
use Rattle.doc_spans.specs.Marks.{size, items_of, gone_on, begun, places_after, Fits, Follow, open_path}
use Rattle.doc_spans.proofs.Each.{map_join}
use Rattle.doc_spans.proofs.View.{get_front, get_last, get_inside}
use Rattle.doc_spans.proofs.Named.{paths, IsNode, paths_gone_on}
use Rattle.doc_spans.proofs.Steps.{children, child_count, spine, deep, path_begun, path_of_text}
use Rattle.doc_spans.proofs.Turn.{added_nothing, added_flat}
use Rattle.doc_spans.proofs.Complete.{IsBare, in_grown}

going : (d : ℕ) (t : Bool) → 0 < d → not (nat_eq d 0 || t) ≡ false → t ≡ true
going zero t h e = absurd (omega arith)
going (suc d) true h e = refl
going (suc d) false h e = (let f : true ≡ false = sym (ap (λ b. not (b || false)) (eqb-suc-zero d)) ∙ e in (cc))

together : (before : List Item) (c : ℕ) (cs : List ℕ) (item : Item) → Follow before → 0 < depth before → added_by item ≡ Text (c ∷ cs) ⨾ no_nodes
    → not (nat_eq (depth before) 0 || is_in_text before) ≡ false → count (joined (children before) (added_at (depth before) item)) ≡ child_count before
together before c cs item h inner a e =
    (path_of_text before (c ∷ cs) (added_at (depth before) item) h (deep (depth before) item inner ∙ a) inner (going (depth before) (is_in_text before) inner e)).2

adds_none : (before : List Item) (x : Nodes) → x ≡ no_nodes → count (joined (children before) x) ≡ child_count before
adds_none before x e = ap count (ap (joined (children before)) e ∙ joined_none (children before))

-- an item that begins no node adds no child
no_growth : (before : List Item) (item : Item) → Follow before → Fits before item → begins_node before item ≡ false
    → count (joined (children before) (added_at (depth before) item)) ≡ child_count before
no_growth before declaration h f e = adds_none before _ (added_nothing (depth before))
no_growth before (start_tag name attributes) h f e = cc
no_growth before (empty_tag name attributes) h f e = cc
no_growth before (end_tag name) h f e = adds_none before _ (added_end (depth before) name)
no_growth before (character c) h f e = by_depth (depth before) refl
  where
    by_depth : (d : ℕ) → depth before ≡ d → count (joined (children before) (added_at (depth before) (character c))) ≡ child_count before
    by_depth zero is = adds_none before _ (added_flat (depth before) c is)
    by_depth (suc d) is = together before c [] (character c) h (omega (arith, is)) refl e
no_growth before (reference c) h f e = together before c [] (reference c) h f refl e
no_growth before (cdata []) h f e = adds_none before _ (deep (depth before) (cdata []) f)
no_growth before (cdata (c ∷ cs)) h f e = together before c cs (cdata (c ∷ cs)) h f refl e
no_growth before (comment cs) h f e = cc
no_growth before (instruction target content) h f e = cc

-- an item adds nothing, or a node that holds none
abbrev AddsOne : Nodes → Type 0
AddsOne x = (x ≡ no_nodes) ⊎ ((node : Node) × (x ≡ node ⨾ no_nodes) × IsBare node)

adds_by : (item : Item) → AddsOne (added_by item)
adds_by declaration = inl refl
adds_by (start_tag name attributes) = inr (Element name attributes no_nodes, refl, refl)
adds_by (empty_tag name attributes) = inr (Element name attributes no_nodes, refl, refl)
adds_by (end_tag name) = inl refl
adds_by (character c) = inr (Text (c ∷ []), refl, refl)
adds_by (reference c) = inr (Text (c ∷ []), refl, refl)
adds_by (cdata []) = inl refl
adds_by (cdata (c ∷ cs)) = inr (Text (c ∷ cs), refl, refl)
adds_by (comment cs) = inr (Comment cs, refl, refl)
adds_by (instruction target content) = inr (Instruction target content, refl, refl)

adds : (d : ℕ) (item : Item) → AddsOne (added_at d item)
adds (suc d) item = adds_by item
adds zero (character c) = inl refl
adds zero declaration = adds_by declaration
adds zero (start_tag name attributes) = adds_by (start_tag name attributes)
adds zero (empty_tag name attributes) = adds_by (empty_tag name attributes)
adds zero (end_tag name) = adds_by (end_tag name)
adds zero (reference c) = adds_by (reference c)
adds zero (cdata cs) = adds_by (cdata cs)
adds zero (comment cs) = adds_by (comment cs)
adds zero (instruction target content) = adds_by (instruction target content)

abbrev pub Has : List Path → Path → Type 0
Has ps path = (k : ℕ) × (slice_get ps k ≡ Some path)

-- the path of a node of the new tree was there, or is that of the item
pub new_or_old : (before : List Item) (item : Item) (path : Path) → Follow before → Fits before item → IsNode (tree_after (item ∷ before)) path
    → IsNode (tree_after before) path ⊎ ((path ≡ path_of before item) × (begins_node before item ≡ true))
new_or_old before item path h f is = elim (adds (depth before) item) [
  | inl none_added ↦ inl (is.0, sym (ap (λ t. node_at t path) (ap (λ x. grown (depth before) x (tree_after before)) none_added ∙ grown_none (depth before) (tree_after before))) ∙ is.1)
  | inr one ↦
      let there : node_at (grown (depth before) (one.0 ⨾ no_nodes) (tree_after before)) path ≡ Some is.0 =
      sym (ap (λ x. node_at (grown (depth before) x (tree_after before)) path) one.1) ∙ is.1 in
      elim (in_grown (depth before) one.0 (tree_after before) path is.0 one.2 (spine before h) there) [
        | inl old ↦ inl old
        | inr new ↦ by_begins (begins_node before item) refl one.0 one.1 new.0 new.1
      ]
]
  where
    by_begins : (b : Bool) → begins_node before item ≡ b → (node : Node) → added_at (depth before) item ≡ node ⨾ no_nodes → path ≡ open_path before ++ child_count before ∷ []
        → count (joined (children before) (node ⨾ no_nodes)) ≡ suc (child_count before) → IsNode (tree_after before) path ⊎ ((path ≡ path_of before item) × (begins_node before item ≡ true))
    by_begins true b node a at more = inr (at ∙ sym (path_begun before item h b), b)
    by_begins false b node a at more = absurd (let same = no_growth before item h f b in let n = ap (λ x. count (joined (children before) x)) a in omega (arith, same, n, more))

pub all_named : (pieces : List Piece) → Follow (items_of pieces) → (path : Path) → IsNode (tree_after (items_of pieces)) path → Has (paths (places_after pieces)) path
all_named [] h [] is = absurd (none-some is.0 is.1)
all_named [] h (k ∷ path) is = absurd (none-some is.0 is.1)
all_named (piece ∷ before) h path is = elim (new_or_old (items_of before) piece.item path h.1 h.0 is) [
  | inl old ↦ kept (all_named before h.1 path old) (begins_node (items_of before) piece.item)
  | inr new ↦ last new.0 (begins_node (items_of before) piece.item) new.1
]
  where
    carried : paths (map (gone_on (path_of (items_of before) piece.item) (size before) (size (piece ∷ before))) (places_after before)) ≡ paths (places_after before)
    carried = paths_gone_on (path_of (items_of before) piece.item) (size before) (size (piece ∷ before)) (places_after before)

    kept : Has (paths (places_after before)) path → (b : Bool)
        → Has (paths (cond b (map (gone_on (path_of (items_of before) piece.item) (size before) (size (piece ∷ before))) (places_after before) ++ begun before piece ∷ [])
        (map (gone_on (path_of (items_of before) piece.item) (size before) (size (piece ∷ before))) (places_after before)))) path
    kept at false = (at.0, ap (λ l. slice_get l at.0) carried ∙ at.1)
    kept at true = (
      at.0,
      ap (λ l. slice_get l at.0) (map_join (λ place. place.path) _ (begun before piece ∷ []) ∙ ap (λ l. l ++ path_of (items_of before) piece.item ∷ []) carried)
          ∙ get_front (paths (places_after before)) (path_of (items_of before) piece.item ∷ []) at.0 (get_inside (paths (places_after before)) at.0 path at.1)
          ∙ at.1,
    )

    last : path ≡ path_of (items_of before) piece.item → (b : Bool) → b ≡ true
        → Has (paths (cond b (map (gone_on (path_of (items_of before) piece.item) (size before) (size (piece ∷ before))) (places_after before) ++ begun before piece ∷ [])
        (map (gone_on (path_of (items_of before) piece.item) (size before) (size (piece ∷ before))) (places_after before)))) path
    last at true e = (
      length (paths (places_after before)),
      ap (λ l. slice_get l (length (paths (places_after before)))) (map_join (λ place. place.path) _ (begun before piece ∷ []) ∙ ap (λ l. l ++ path_of (items_of before) piece.item ∷ []) carried)
          ∙ get_last (paths (places_after before)) (path_of (items_of before) piece.item)
          ∙ ap Some (sym at),
    )
    last at false e = cc
