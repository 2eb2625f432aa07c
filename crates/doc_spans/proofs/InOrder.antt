-- Nodes in document order: their paths rise from each node that a document begins to the next, as the places of their first bytes do.
use Rattle.std.proofs.Common.{◌≡◌, ℕ, zero, suc, pred, ◌<◌, Bool, true, false, cond, List, [], ◌∷◌, ◌++◌, length, Some, refl, sym, ◌∙◌, ap, subst, arith, nat_eq, nat_lt, ◌&&◌, inl, inr}
use Rattle.std.proofs.Math.Bool.{Bool-set}
use Rattle.std.proofs.Math.Logic.{∥∥₁_elim}
use Rattle.std.proofs.lemmas.Bool.{lt-ltb, le-ltb, cases_eq}
use Rattle.std.proofs.lemmas.List.Sorted.{IsPermutation-sym, All-permutation}
use Rattle.std.proofs.lemmas.Option.{none-some}
use Rattle.std.specs.Prelude.{map, slice_get, IsPermutation}
use Rattle.std.specs.Option.{option_map_or}
use Rattle.document_model.specs.Canonical.{is_before}
use Rattle.document_model.specs.Documents.{run, limits}
use Rattle.document_model.specs.Items.{Piece}
use Rattle.document_model.specs.NodeSets.{is_within}
use Rattle.document_model.specs.Places.{Place, places_of, path_of, begins_node, IsTreeOf}
use Rattle.document_model.specs.Tree.{Node, Nodes, Path, no_nodes, ◌⨾◌, nth, below, descend, node_at, depth, tree_after, last_path, count}
use Rattle.document_model.proofs.Grown.{Spine}
use Rattle.document_model.proofs.Joins.{bind_some, some_same}
use Rattle.document_model.proofs.ListOrder.{before_same, before_less, empty_before, before_itself, before_one_way}
use Rattle.document_model.proofs.Put.{last_nth}
use Rattle.doc_spans.specs.declared.rows.Row.{Row}
use Rattle.doc_spans.specs.Marks.{size, items_of, gone_on, begun, places_after, Follow}
use Rattle.doc_spans.specs.Shown.{Shown, IsShownOf, ShowsRow, path_at}
use Rattle.doc_spans.specs.View.{Each, place_of_row}
use Rattle.doc_spans.proofs.Each.{each_append, each_map, each_weaker, each_get}
use Rattle.doc_spans.proofs.Marks.{HaveBytes, onto}
use Rattle.doc_spans.proofs.Named.{paths, same_path, paths_name, IsNode}
use Rattle.doc_spans.proofs.NodeTexts.{all_of_each, each_of_all}
use Rattle.doc_spans.proofs.Run.{run_good, places_of_run}
use Rattle.doc_spans.proofs.Spine.{inside}
use Rattle.doc_spans.proofs.Steps.{spine, path_begun}
use Rattle.doc_spans.proofs.TextPlaces.{each_of, each_both}

-- In a tree.

nth_within : (k : ℕ) (nodes : Nodes) (node : Node) → nth k nodes ≡ Some node → k < count nodes
nth_within k no_nodes node e = absurd (none-some node e)
nth_within zero (n ⨾ nodes) node e = omega arith
nth_within (suc k) (n ⨾ nodes) node e = let h = nth_within k nodes node e in omega (arith, h)

-- the path of a node that would be put last at a depth
abbrev next_path : ℕ → Nodes → Path
next_path d nodes = last_path d nodes ++ count (inside d nodes) ∷ []

-- each node comes before that
named_before : (d : ℕ) (nodes : Nodes) (path : Path) (m : Node) → Spine d nodes → node_at nodes path ≡ Some m
    → is_before path (next_path d nodes) ≡ true
named_before d nodes [] m s e = absurd (none-some m e)
named_before zero nodes (k ∷ path) m s e =
    let found = bind_some (descend path) (nth k nodes) m e in before_less k (count nodes) path [] (nth_within k nodes found.0 found.1)
named_before (suc d) nodes (k ∷ path) m s e =
    ap (is_before (k ∷ path)) next_is
    ∙ elim (cases_eq k (pred (count nodes))) [
      | inl same ↦
          let last : found.0 ≡ s.0 = some_same found.0 s.0 (sym found.1 ∙ ap (λ j. nth j nodes) same ∙ last_nth nodes s.0 s.1) in
          before_same k (pred (count nodes)) path (next_path d (below s.0)) same
          ∙ at_last path (ap (descend path) (sym last) ∙ found.2) (λ p e. named_before d (below s.0) p m s.3 e)
      | inr apart ↦ before_less k (pred (count nodes)) path (next_path d (below s.0)) (earlier (count nodes) (nth_within k nodes found.0 found.1) apart)
    ]
  where
    found : (node : Node) × (nth k nodes ≡ Some node) × (descend path node ≡ Some m)
    found = bind_some (descend path) (nth k nodes) m e

    next_is : next_path (suc d) nodes ≡ pred (count nodes) ∷ next_path d (below s.0)
    next_is =
        ap (λ o. pred (count nodes) ∷ (option_map_or (λ node. last_path d (below node)) o []
        ++ count (option_map_or (λ node. inside d (below node)) o no_nodes) ∷ [])) s.1

    at_last : (path : Path) → descend path s.0 ≡ Some m
        → ((p : Path) → node_at (below s.0) p ≡ Some m → is_before p (next_path d (below s.0)) ≡ true) → is_before path (next_path d (below s.0)) ≡ true
    at_last [] e deeper = empty_before (last_path d (below s.0)) (count (inside d (below s.0)))
    at_last (j ∷ path) e deeper = deeper (j ∷ path) e

    earlier : (n : ℕ) → k < n → (k ≡ pred n → ⊥) → k < pred n
    earlier zero h apart = absurd (omega (arith, h))
    earlier (suc n) h apart = elim (cases_eq k n) [ inl same ↦ absurd (apart same) | inr other ↦ omega (arith, h, other) ]

-- In the pieces of a document.

abbrev pub Precedes : Place → Place → Type 0
Precedes p q = (is_before p.path q.path ≡ true) × (p.start < q.start)

-- each place precedes those behind it
abbrev pub Rise : List Place → Type 0
Rise [] = Unit {0}
Rise (place ∷ places) = Each (Precedes place) places × Rise places

rise_more : (places : List Place) (new : Place) → Rise places → Each (λ place. Precedes place new) places → Rise (places ++ new ∷ [])
rise_more [] new h k = (tt, tt)
rise_more (place ∷ places) new h k = (each_append (Precedes place) places (new ∷ []) h.0 (k.0, tt), rise_more places new h.1 k.1)

-- whether a place keeps its path and its first byte
abbrev Keeps : (Place → Place) → Type 0
Keeps f = (place : Place) → ((f place).path ≡ place.path) × ((f place).start ≡ place.start)

keeps_precedes : (f : Place → Place) → Keeps f → (p q : Place) → Precedes p q → Precedes (f p) (f q)
keeps_precedes f k p q h = (
  (λ i. is_before ((k p).0 i) ((k q).0 i)) ∙ h.0,
  (let e = (k p).1 in let g = (k q).1 in let l = h.1 in omega (arith, e, g, l)),
)

rise_mapped : (f : Place → Place) → Keeps f → (places : List Place) → Rise places → Rise (map f places)
rise_mapped f k [] h = tt
rise_mapped f k (place ∷ places) h =
    (each_map (Precedes place) (Precedes (f place)) f (keeps_precedes f k place) places h.0, rise_mapped f k places h.1)

-- an item leaves the paths and the first bytes of the nodes before it
item_keeps : (path : Path) (at behind : ℕ) → Keeps (gone_on path at behind)
item_keeps path at behind place = (same_path path at behind place, same_start (is_within place.path path && nat_eq place.end at))
  where
    same_start : (b : Bool) → (cond b (record place { end = behind }) place).start ≡ place.start
    same_start true = refl
    same_start false = refl

-- a place of the pieces before an item, with the item
abbrev moved : List Piece → Piece → Place → Place
moved before piece = gone_on (path_of (items_of before) piece.item) (size before) (size (piece ∷ before))

moved_keeps : (before : List Piece) (piece : Piece) → Keeps (moved before piece)
moved_keeps before piece = item_keeps (path_of (items_of before) piece.item) (size before) (size (piece ∷ before))

-- each node begins at a byte of the pieces
begin_within : (pieces : List Piece) → HaveBytes pieces → Each (λ place. place.start < size pieces) (places_after pieces)
begin_within [] h = tt
begin_within (piece ∷ before) h = added (begin_within before h.1) (begins_node (items_of before) piece.item)
  where
    old : Each (λ place. place.start < size before) (places_after before) → Each (λ place. place.start < size (piece ∷ before))
        (map (moved before piece) (places_after before))
    old =
        each_map (λ place. place.start < size before) (λ place. place.start < size (piece ∷ before)) _
        (λ place l. (let e = (moved_keeps before piece place).1 in omega (arith, e, l)))
        (places_after before)

    added : Each (λ place. place.start < size before) (places_after before) → (b : Bool)
        → Each (λ place. place.start < size (piece ∷ before)) (cond b (map (moved before piece) (places_after before) ++ begun before piece ∷ [])
        (map (moved before piece) (places_after before)))
    added within false = old within
    added within true =
        each_append (λ place. place.start < size (piece ∷ before)) _ (begun before piece ∷ []) (old within) (let some = h.0 in omega (arith, some), tt)

-- the nodes before an item that begins one precede it
precede_begun : (before : List Piece) (piece : Piece) → HaveBytes before → Follow (items_of before) → begins_node (items_of before) piece.item ≡ true
    → Each (λ place. Precedes place (begun before piece)) (places_after before)
precede_begun before piece bytes follow begins =
    let items = items_of before in
    let tree = tree_after items in
    let earlier : Each (λ path. is_before path (path_of items piece.item) ≡ true) (paths (places_after before)) =
    each_weaker (IsNode tree) (λ path. is_before path (path_of items piece.item) ≡ true)
    (λ path named. ap (is_before path) (path_begun items piece.item follow begins)
    ∙ named_before (depth items) tree path named.0 (spine items follow) named.1)
    (paths (places_after before)) (paths_name before follow) in
    each_both (λ place. is_before place.path (path_of items piece.item) ≡ true) (λ place. place.start < size before) (places_after before)
    (each_of (λ path. is_before path (path_of items piece.item) ≡ true) (λ place. place.path) (places_after before) earlier)
    (begin_within before bytes)

pub rise_after : (pieces : List Piece) → HaveBytes pieces → Follow (items_of pieces) → Rise (places_after pieces)
rise_after [] h f = tt
rise_after (piece ∷ before) h f = added (rise_after before h.1 f.1) (begins_node (items_of before) piece.item) refl
  where
    still : (place : Place) → Precedes place (begun before piece) → Precedes (moved before piece place) (begun before piece)
    still place p = (
      ap (λ path. is_before path (begun before piece).path) (moved_keeps before piece place).0 ∙ p.0,
      (let e = (moved_keeps before piece place).1 in let l = p.1 in omega (arith, e, l)),
    )

    added : Rise (places_after before) → (b : Bool) → begins_node (items_of before) piece.item ≡ b
        → Rise (cond b (map (moved before piece) (places_after before) ++ begun before piece ∷ [])
        (map (moved before piece) (places_after before)))
    added old false e = rise_mapped (moved before piece) (moved_keeps before piece) (places_after before) old
    added old true e =
        rise_more _ (begun before piece) (rise_mapped (moved before piece) (moved_keeps before piece) (places_after before) old)
        (each_map (λ place. Precedes place (begun before piece)) (λ place. Precedes place (begun before piece)) _ still (places_after before)
        (precede_begun before piece h.1 f.1 e))

onto_bytes : (pieces before : List Piece) → HaveBytes pieces → HaveBytes before → HaveBytes (onto pieces before)
onto_bytes [] before h k = k
onto_bytes (piece ∷ pieces) before h k = onto_bytes pieces (piece ∷ before) h.1 (h.0, k)

-- The places of a document rise.
pub places_rise : (bytes : List ℕ) → Rise (places_of bytes)
places_rise bytes =
    let good = run_good limits (length bytes) [] bytes tt in
    let P : List Place → Type 0 = Rise in
    subst P (sym (places_of_run bytes)) (rise_after (onto (run limits bytes).pieces [])
    (onto_bytes (run limits bytes).pieces [] good.bytes tt) good.follow)

-- Any two nodes.

-- two nodes stand in document order as their first bytes do, and nodes with one first byte are one
abbrev pub InOrder : Place → Place → Type 0
InOrder p q = (is_before p.path q.path ≡ nat_lt p.start q.start) × (p.start ≡ q.start → p ≡ q)

precedes_in_order : (p q : Place) → Precedes p q → InOrder p q × InOrder q p
precedes_in_order p q h = (
  (h.0 ∙ sym (lt-ltb p.start q.start h.1), λ e. (let l = h.1 in absurd (omega (arith, l, e)))),
  (before_one_way p.path q.path h.0 ∙ sym (le-ltb q.start p.start (let l = h.1 in omega (arith, l))), λ e. (let l = h.1 in absurd (omega (arith, l, e)))),
)

itself_in_order : (p : Place) → InOrder p p
itself_in_order p = (before_itself p.path ∙ sym (le-ltb p.start p.start (omega arith)), λ e. refl)

rise_in_order : (places : List Place) → Rise places → Each (λ p. Each (InOrder p) places) places
rise_in_order [] h = tt
rise_in_order (place ∷ places) h = (
  (itself_in_order place, each_weaker (Precedes place) (InOrder place) (λ q l. (precedes_in_order place q l).0) places h.0),
  each_both (λ p. InOrder p place) (λ p. Each (InOrder p) places) places
      (each_weaker (Precedes place) (λ p. InOrder p place) (λ p l. (precedes_in_order place p l).1) places h.0) (rise_in_order places h.1),
)

-- any two places of a document
pub places_in_order : (bytes : List ℕ) → Each (λ p. Each (InOrder p) (places_of bytes)) (places_of bytes)
places_in_order bytes = rise_in_order (places_of bytes) (places_rise bytes)

each_shuffled : (P : Place → Type 0) (places tree : List Place) → IsPermutation tree places → Each P places → Each P tree
each_shuffled P places tree shuffled h =
    each_of_all P tree (All-permutation P places tree (IsPermutation-sym tree places shuffled) (all_of_each P places h))

-- any two numbers of a tree
pub numbers_in_order : (tree : List Place) (bytes : List ℕ) → IsTreeOf tree bytes → (j k : ℕ) (p q : Place) → slice_get tree j ≡ Some p
    → slice_get tree k ≡ Some q
    → InOrder p q
numbers_in_order tree bytes is j k p q first second =
    let all = each_shuffled (λ p. Each (InOrder p) (places_of bytes)) (places_of bytes) tree is.numbered (places_in_order bytes) in
    each_get (InOrder p) tree k q (each_shuffled (InOrder p) (places_of bytes) tree is.numbered
    (each_get (λ p. Each (InOrder p) (places_of bytes)) tree j p all first)) second

-- and their rows
pub rows_in_order : (bytes : List ℕ) (shown : Shown) (j k : ℕ) (row other : Row) → ∥ IsShownOf shown bytes ∥₁ → ShowsRow shown j row
    → ShowsRow shown k other
    → nat_lt row.start other.start ≡ is_before (path_at shown j) (path_at shown k)
rows_in_order bytes shown j k row other whole first second = ∥∥₁_elim whole (Bool-set _ _) (λ w.
    sym (numbers_in_order shown.places bytes w.tree j k (place_of_row (path_at shown j) row) (place_of_row (path_at shown k) other)
    first.place second.place).0)
