-- The rows of a builder are the places of the pieces that were added.
use Rattle.std.proofs.Common.{◌≡◌, ℕ, zero, suc, pred, ◌+◌, ◌<◌, ◌≤◌, Bool, true, false, cond, List, [], ◌∷◌, ◌++◌, length, take, drop, Some, refl, sym, ◌∙◌, ap, subst, arith, length-append, ◌⊎◌, inl, inr}
use Rattle.std.proofs.lemmas.Option.{same_Some}
use Rattle.std.proofs.lemmas.Bool.{ne_eqb}
use Rattle.std.specs.Prelude.{map, slice_get}
use Rattle.std.specs.Option.{option_map_or}
use Rattle.document_model.specs.Items.{Piece}
use Rattle.document_model.specs.Tree.{Path, depth}
use Rattle.document_model.specs.Documents.{is_in_text}
use Rattle.document_model.specs.NodeSets.{is_within}
use Rattle.document_model.specs.Places.{Place, path_of, begins_node}
use Rattle.doc_spans.specs.declared.rows.Row.{Row}
use Rattle.doc_spans.specs.declared.rows.Kind.{Kind}
use Rattle.doc_spans.specs.declared.rows.Kind.TheVariants.{Element}
use Rattle.doc_spans.specs.Marks.{size, items_of, gone_on, begun, places_after, kinds_after, kind_of_item, Follow, open_path}
use Rattle.doc_spans.specs.Building as building
use Rattle.doc_spans.specs.Building.{State, with_next, with_end, parent_of}
use Rattle.doc_spans.specs.View.{none, AreBefore}
use Rattle.doc_spans.specs.View.{siblings, under, paths_of, parents_of, place_of_row, placed, places_of_rows, kinds_of_rows, seen_at}
use Rattle.doc_spans.proofs.Each.{map_same, map_map, map_join, each_get}
use Rattle.doc_spans.specs.View.{Each, Distinct}
use Rattle.doc_spans.proofs.Marks.{all_true, eq_self, within_self}
use Rattle.doc_spans.proofs.Named.{paths, paths_distinct, fresh}
use Rattle.doc_spans.proofs.Steps.{child_count}
use Rattle.doc_spans.proofs.View.{get_front, get_last, get_inside, get_either, siblings_join, paths_more, paths_many, parents_more, parents_many, parents_next, next_many, placed_more, placed_next, placed_paths, has_paths, before_more, under_more, none_has, drop_front, drop_one_more}
use Rattle.doc_spans.proofs.Seen.{within_more, not_within, others, all_same}

-- open elements have no later sibling
abbrev pub OpenAreLast : List ℕ → Path → Type 0
OpenAreLast parents outer =
    (k p : ℕ) (path : Path) → slice_get parents k ≡ Some p → slice_get (paths_of parents) k ≡ Some path → is_within path outer ≡ true → siblings p (drop (suc k) parents) ≡ 0

-- the text that goes on is the last child, and ends here
abbrev pub EndsHere : State → Path → Type 0
EndsHere s path = (place : Place) × (slice_get (places_of_rows s.rows) s.previous ≡ Some place) × (place.path ≡ path) × (place.end ≡ s.at)

pub record Builds (s : State) (pieces : List Piece) : Type 0 where
  pub follow : Follow (items_of pieces)
  pub at : s.at ≡ size pieces
  pub few : length s.rows ≤ size pieces
  pub small : size pieces ≤ 16777216
  pub shown : map (seen_at (open_path (items_of pieces)) (size pieces)) (places_of_rows s.rows) ≡ places_after pieces
  pub kinds : kinds_of_rows s.rows ≡ kinds_after pieces
  pub before : AreBefore (parents_of s.rows)
  pub outer : under (paths_of (parents_of s.rows)) s.current ≡ open_path (items_of pieces)
  pub deep : 0 < depth (items_of pieces) → s.current < length s.rows
  pub flat : depth (items_of pieces) ≡ 0 → s.current ≡ none
  pub count : siblings s.current (parents_of s.rows) ≡ child_count (items_of pieces)
  pub last : OpenAreLast (parents_of s.rows) (open_path (items_of pieces))
  pub text : 0 < depth (items_of pieces) → s.in_text ≡ is_in_text (items_of pieces)
  pub no_text : depth (items_of pieces) ≡ 0 → s.in_text ≡ false
  pub text_row : s.in_text ≡ true → EndsHere s (open_path (items_of pieces) ++ pred (child_count (items_of pieces)) ∷ [])

-- What follows at once.

pub many : (rows : List Row) → length rows ≡ length (paths_of (parents_of rows))
many rows = sym (paths_many (parents_of rows) ∙ parents_many rows)

pub row_paths : (rows : List Row) → paths (places_of_rows rows) ≡ paths_of (parents_of rows)
row_paths rows = placed_paths rows (paths_of (parents_of rows)) (many rows)

paths_seen : (outer : Path) (at : ℕ) (ps : List Place) → paths (map (seen_at outer at) ps) ≡ paths ps
paths_seen outer at [] = refl
paths_seen outer at (place ∷ ps) = (λ i. (same (is_within place.path outer) i ∷ paths_seen outer at ps i))
  where
    same : (w : Bool) → (cond w (record place { end = at }) place).path ≡ place.path
    same true = refl
    same false = refl

pub shown_paths : (s : State) (pieces : List Piece) → Builds s pieces → paths (places_after pieces) ≡ paths (places_of_rows s.rows)
shown_paths s pieces b = sym (ap paths b.shown) ∙ paths_seen (open_path (items_of pieces)) (size pieces) (places_of_rows s.rows)

pub rows_distinct : (s : State) (pieces : List Piece) → Builds s pieces → Distinct (paths (places_of_rows s.rows))
rows_distinct s pieces b = let P : List Path → Type 0 = Distinct in subst P (shown_paths s pieces b) (paths_distinct pieces b.follow)

rows_fresh : (s : State) (pieces : List Piece) → Builds s pieces
    → Each (λ path. path ≡ open_path (items_of pieces) ++ child_count (items_of pieces) ∷ [] → ⊥) (paths (places_of_rows s.rows))
rows_fresh s pieces b =
    let P : List Path → Type 0 = Each (λ path. path ≡ open_path (items_of pieces) ++ child_count (items_of pieces) ∷ [] → ⊥) in
    subst P (shown_paths s pieces b) (fresh pieces b.follow)

-- the old places with one more piece
abbrev pub carried : Path → List Piece → Piece → Place → Place
carried q pieces piece place = gone_on q (size pieces) (size (piece ∷ pieces)) (seen_at (open_path (items_of pieces)) (size pieces) place)

carry : (s : State) (pieces : List Piece) (piece : Piece) (q : Path) → Builds s pieces → path_of (items_of pieces) piece.item ≡ q
    → map (gone_on (path_of (items_of pieces) piece.item) (size pieces) (size (piece ∷ pieces))) (places_after pieces) ≡ map (carried q pieces piece) (places_of_rows s.rows)
carry s pieces piece q b e =
    ap (λ r. map (gone_on r (size pieces) (size (piece ∷ pieces))) (places_after pieces)) e
    ∙ ap (map (gone_on q (size pieces) (size (piece ∷ pieces)))) (sym b.shown)
    ∙ map_map (gone_on q (size pieces) (size (piece ∷ pieces))) (seen_at (open_path (items_of pieces)) (size pieces)) (places_of_rows s.rows)

pub old_places : (s : State) (pieces : List Piece) (piece : Piece) (q : Path) → Builds s pieces → path_of (items_of pieces) piece.item ≡ q → begins_node (items_of pieces) piece.item ≡ false
    → places_after (piece ∷ pieces) ≡ map (carried q pieces piece) (places_of_rows s.rows)
old_places s pieces piece q b e none_begins =
    let old = map (gone_on (path_of (items_of pieces) piece.item) (size pieces) (size (piece ∷ pieces))) (places_after pieces) in
    ap (λ t. cond t (old ++ begun pieces piece ∷ []) old) none_begins ∙ carry s pieces piece q b e

new_places : (s : State) (pieces : List Piece) (piece : Piece) (q : Path) → Builds s pieces → path_of (items_of pieces) piece.item ≡ q → begins_node (items_of pieces) piece.item ≡ true
    → places_after (piece ∷ pieces) ≡ map (carried q pieces piece) (places_of_rows s.rows) ++ begun pieces piece ∷ []
new_places s pieces piece q b e one_begins =
    let old = map (gone_on (path_of (items_of pieces) piece.item) (size pieces) (size (piece ∷ pieces))) (places_after pieces) in
    ap (λ t. cond t (old ++ begun pieces piece ∷ []) old) one_begins ∙ ap (λ l. l ++ begun pieces piece ∷ []) (carry s pieces piece q b e)

pub old_kinds : (pieces : List Piece) (piece : Piece) → begins_node (items_of pieces) piece.item ≡ false → kinds_after (piece ∷ pieces) ≡ kinds_after pieces
old_kinds pieces piece none_begins = ap (λ t. cond t (kinds_after pieces ++ kind_of_item piece.item ∷ []) (kinds_after pieces)) none_begins

new_kinds : (pieces : List Piece) (piece : Piece) → begins_node (items_of pieces) piece.item ≡ true → kinds_after (piece ∷ pieces) ≡ kinds_after pieces ++ kind_of_item piece.item ∷ []
new_kinds pieces piece one_begins = ap (λ t. cond t (kinds_after pieces ++ kind_of_item piece.item ∷ []) (kinds_after pieces)) one_begins

-- what is known of the next piece
pub record Next (pieces : List Piece) (piece : Piece) : Type 0 where
  pub follow : Follow (items_of (piece ∷ pieces))
  pub some : 0 < length piece.text
  pub small : size (piece ∷ pieces) ≤ 16777216

-- An item that is no node and no part of a text.

pub record IsNothing (pieces : List Piece) (piece : Piece) : Type 0 where
  pub path : path_of (items_of pieces) piece.item ≡ open_path (items_of pieces)
  pub begins : begins_node (items_of pieces) piece.item ≡ false
  pub outer : open_path (items_of (piece ∷ pieces)) ≡ open_path (items_of pieces)
  pub count : child_count (items_of (piece ∷ pieces)) ≡ child_count (items_of pieces)
  pub level : depth (items_of (piece ∷ pieces)) ≡ depth (items_of pieces)
  pub text : 0 < depth (items_of pieces) → is_in_text (items_of (piece ∷ pieces)) ≡ false

pub builds_nothing : (s : State) (pieces : List Piece) (piece : Piece) → Builds s pieces → Next pieces piece → IsNothing pieces piece → s.in_text ≡ false
    → Builds (record s { at = size (piece ∷ pieces) }) (piece ∷ pieces)
builds_nothing s pieces piece b n i quiet =
    let outer = open_path (items_of pieces) in
    let behind = size (piece ∷ pieces) in
    record {
      follow = n.follow;
      at = refl;
      few = omega (arith, b.few);
      small = n.small;
      shown = ap (λ o. map (seen_at o behind) (places_of_rows s.rows)) i.outer
          ∙ sym (map_same (λ x. Unit {0}) (carried outer pieces piece) (seen_at outer behind) (λ x u. others outer outer outer (size pieces) behind x refl refl) (places_of_rows s.rows) (all_true (places_of_rows s.rows)))
          ∙ sym (old_places s pieces piece outer b i.path i.begins);
      kinds = b.kinds ∙ sym (old_kinds pieces piece i.begins);
      before = b.before;
      outer = b.outer ∙ sym i.outer;
      deep = λ h. b.deep (omega (arith, i.level, h));
      flat = λ h. b.flat (omega (arith, i.level, h));
      count = b.count ∙ sym i.count;
      last = let P : Path → Type 0 = OpenAreLast (parents_of s.rows) in subst P (sym i.outer) b.last;
      text = λ h. quiet ∙ sym (i.text (omega (arith, i.level, h)));
      no_text = λ h. quiet;
      text_row = λ h. (let f : false ≡ true = sym quiet ∙ h in (cc));
    }

-- An item that begins a node.

pub record IsNew (pieces : List Piece) (piece : Piece) : Type 0 where
  pub path : path_of (items_of pieces) piece.item ≡ open_path (items_of pieces) ++ child_count (items_of pieces) ∷ []
  pub begins : begins_node (items_of pieces) piece.item ≡ true

-- the rows with a new one
abbrev pub new_row : State → Kind → ℕ → Row
new_row s kind end = record { parent = s.current; next = none; start = s.at; first_end = end; end = end; kind = kind }

abbrev pub rows_with : State → Kind → ℕ → List Row
rows_with s kind end = with_next s.previous (length s.rows) s.rows ++ new_row s kind end ∷ []

pub rows_parents : (s : State) (kind : Kind) (end : ℕ) → parents_of (rows_with s kind end) ≡ parents_of s.rows ++ s.current ∷ []
rows_parents s kind end =
    parents_more (with_next s.previous (length s.rows) s.rows) (new_row s kind end)
    ∙ ap (λ l. l ++ s.current ∷ []) (parents_next s.previous (length s.rows) s.rows)

pub rows_length : (s : State) (kind : Kind) (end : ℕ) → length (rows_with s kind end) ≡ length s.rows + 1
rows_length s kind end =
    length-append (with_next s.previous (length s.rows) s.rows) (new_row s kind end ∷ []) ∙ ap (λ n. n + 1) (next_many s.previous (length s.rows) s.rows)

new_path : (s : State) (pieces : List Piece) → Builds s pieces
    → under (paths_of (parents_of s.rows)) s.current ++ siblings s.current (parents_of s.rows) ∷ [] ≡ open_path (items_of pieces) ++ child_count (items_of pieces) ∷ []
new_path s pieces b = (λ i. b.outer i ++ b.count i ∷ [])

rows_paths : (s : State) (kind : Kind) (end : ℕ) (pieces : List Piece) → Builds s pieces
    → paths_of (parents_of (rows_with s kind end)) ≡ paths_of (parents_of s.rows) ++ (open_path (items_of pieces) ++ child_count (items_of pieces) ∷ []) ∷ []
rows_paths s kind end pieces b =
    ap paths_of (rows_parents s kind end) ∙ paths_more (parents_of s.rows) s.current ∙ ap (λ q. paths_of (parents_of s.rows) ++ q ∷ []) (new_path s pieces b)

rows_places : (s : State) (kind : Kind) (end : ℕ) (pieces : List Piece) → Builds s pieces
    → places_of_rows (rows_with s kind end)
    ≡ places_of_rows s.rows ++ place_of_row (open_path (items_of pieces) ++ child_count (items_of pieces) ∷ []) (new_row s kind end) ∷ []
rows_places s kind end pieces b =
    let q = open_path (items_of pieces) ++ child_count (items_of pieces) ∷ [] in
    let linked = with_next s.previous (length s.rows) s.rows in
    ap (placed (rows_with s kind end)) (rows_paths s kind end pieces b)
    ∙ placed_more linked (paths_of (parents_of s.rows)) (new_row s kind end) q (next_many s.previous (length s.rows) s.rows ∙ many s.rows)
    ∙ ap (λ l. l ++ place_of_row q (new_row s kind end) ∷ []) (placed_next s.previous (length s.rows) s.rows (paths_of (parents_of s.rows)))

kinds_next : (k n : ℕ) (rows : List Row) → kinds_of_rows (with_next k n rows) ≡ kinds_of_rows rows
kinds_next k n [] = refl
kinds_next zero n (row ∷ rows) = refl
kinds_next (suc k) n (row ∷ rows) = ap (λ l. row.kind ∷ l) (kinds_next k n rows)

pub kinds_end : (k n : ℕ) (rows : List Row) → kinds_of_rows (with_end k n rows) ≡ kinds_of_rows rows
kinds_end k n [] = refl
kinds_end zero n (row ∷ rows) = refl
kinds_end (suc k) n (row ∷ rows) = ap (λ l. row.kind ∷ l) (kinds_end k n rows)

rows_kinds : (s : State) (kind : Kind) (end : ℕ) → kinds_of_rows (rows_with s kind end) ≡ kinds_of_rows s.rows ++ kind ∷ []
rows_kinds s kind end =
    map_join (λ row. row.kind) (with_next s.previous (length s.rows) s.rows) (new_row s kind end ∷ [])
    ∙ ap (λ l. l ++ kind ∷ []) (kinds_next s.previous (length s.rows) s.rows)

-- what the places show, where the open element is that of before or the new one
rows_shown : (s : State) (kind : Kind) (pieces : List Piece) (piece : Piece) (later : Path) → Builds s pieces → IsNew pieces piece
    → (let q = open_path (items_of pieces) ++ child_count (items_of pieces) ∷ [] in
    ((path : Path) → (path ≡ q → ⊥) → is_within path later ≡ is_within path (open_path (items_of pieces)))
    → (later ≡ open_path (items_of pieces)) ⊎ (later ≡ q)
    → map (seen_at later (size (piece ∷ pieces))) (places_of_rows (rows_with s kind (size (piece ∷ pieces)))) ≡ places_after (piece ∷ pieces))
rows_shown s kind pieces piece later b i same which =
    let outer = open_path (items_of pieces) in
    let behind = size (piece ∷ pieces) in
    let q = outer ++ child_count (items_of pieces) ∷ [] in
    let place = place_of_row q (new_row s kind behind) in
    ap (map (seen_at later behind)) (rows_places s kind behind pieces b)
    ∙ map_join (seen_at later behind) (places_of_rows s.rows) (place ∷ [])
    ∙ ap (λ l. l ++ seen_at later behind place ∷ [])
    (sym (all_same (carried q pieces piece) (seen_at later behind) q
    (λ x apart. others q outer later (size pieces) behind x (within_more x.path outer (child_count (items_of pieces)) apart) (same x.path apart))
    (places_of_rows s.rows) (rows_fresh s pieces b)))
    ∙ ap (λ x. map (carried q pieces piece) (places_of_rows s.rows) ++ x ∷ []) (here which ∙ as_begun)
    ∙ sym (new_places s pieces piece q b i.path i.begins)
  where
    here : (later ≡ open_path (items_of pieces)) ⊎ (later ≡ open_path (items_of pieces) ++ child_count (items_of pieces) ∷ [])
        → seen_at later (size (piece ∷ pieces)) (place_of_row (open_path (items_of pieces) ++ child_count (items_of pieces) ∷ []) (new_row s kind (size (piece ∷ pieces))))
        ≡ place_of_row (open_path (items_of pieces) ++ child_count (items_of pieces) ∷ []) (new_row s kind (size (piece ∷ pieces)))
    here (inl e) =
        let place = place_of_row (open_path (items_of pieces) ++ child_count (items_of pieces) ∷ []) (new_row s kind (size (piece ∷ pieces))) in
        ap (λ o. seen_at o (size (piece ∷ pieces)) place) e
        ∙ ap (λ t. cond t place place) (not_within (open_path (items_of pieces)) (child_count (items_of pieces)))
    here (inr e) =
        let place = place_of_row (open_path (items_of pieces) ++ child_count (items_of pieces) ∷ []) (new_row s kind (size (piece ∷ pieces))) in
        ap (λ o. seen_at o (size (piece ∷ pieces)) place) e
        ∙ ap (λ t. cond t place place) (within_self (open_path (items_of pieces) ++ child_count (items_of pieces) ∷ []))

    as_begun : place_of_row (open_path (items_of pieces) ++ child_count (items_of pieces) ∷ []) (new_row s kind (size (piece ∷ pieces))) ≡ begun pieces piece
    as_begun =
        let P : Path → ℕ → Place = λ p n. record { path = p; start = n; first_end = size (piece ∷ pieces); end = size (piece ∷ pieces) } in
        (λ j. P (sym i.path j) (b.at j))

-- the new node has the open element as its parent
last_more : (ps : List ℕ) (current c : ℕ) (outer later : Path) → AreBefore ps → length ps ≤ none → OpenAreLast ps outer → under (paths_of ps) current ≡ outer
    → ((k : ℕ) (path : Path) → slice_get (paths_of ps) k ≡ Some path → is_within path later ≡ true → is_within path outer ≡ true)
    → (k p : ℕ) (path : Path) → slice_get (ps ++ current ∷ []) k ≡ Some p → slice_get (paths_of ps ++ (outer ++ c ∷ []) ∷ []) k ≡ Some path
    → is_within path later ≡ true → siblings p (drop (suc k) (ps ++ current ∷ [])) ≡ 0
last_more ps current c outer later before few last at same k p path e f w = elim (get_either ps current k p e) [
  | inl old ↦
      let many = paths_many ps in
      let g : slice_get (paths_of ps) k ≡ Some path = sym (get_front (paths_of ps) ((outer ++ c ∷ []) ∷ []) k (omega (arith, many, old.0))) ∙ f in
      let within = same k path g w in
      let zero_before = last k p path old.1 g within in
      let is : path ≡ under (paths_of ps) p ++ siblings p (take k ps) ∷ [] = same_Some path _ (sym g ∙ has_paths ps before few k p old.1) in
      let apart : current ≡ p → ⊥ = λ q.
      (let f : false ≡ true =
      sym (not_within outer (siblings p (take k ps)))
      ∙ ap (λ r. is_within (r ++ siblings p (take k ps) ∷ []) outer) (sym at ∙ ap (under (paths_of ps)) q)
      ∙ ap (λ r. is_within r outer) (sym is)
      ∙ within in cc) in
      ap (siblings p) (drop_front ps (current ∷ []) (suc k) (omega (arith, old.0)))
      ∙ siblings_join p (drop (suc k) ps) (current ∷ [])
      ∙ ap (λ b. siblings p (drop (suc k) ps) + cond b 1 0) (ne_eqb current p apart)
      ∙ (let a : siblings p (drop (suc k) ps) + 0 ≡ 0 = omega (arith, zero_before) in a)
  | inr new ↦ ap (λ n. siblings p (drop (suc n) (ps ++ current ∷ []))) new.0 ∙ ap (siblings p) (drop_one_more ps current)
]

pub few_parents : (s : State) (pieces : List Piece) → Builds s pieces → length (parents_of s.rows) < 16777217
few_parents s pieces b = let n = parents_many s.rows in omega (arith, n, b.few, b.small)

last_with : (s : State) (kind : Kind) (pieces : List Piece) (end : ℕ) (later : Path) → Builds s pieces
    → ((path : Path) → (path ≡ open_path (items_of pieces) ++ child_count (items_of pieces) ∷ [] → ⊥) → is_within path later ≡ true → is_within path (open_path (items_of pieces)) ≡ true)
    → OpenAreLast (parents_of (rows_with s kind end)) later
last_with s kind pieces end later b same k p path e f w =
    let ps = parents_of s.rows in
    let few : length ps ≤ none = let h = few_parents s pieces b in omega (arith, h) in
    let P : List ℕ → Type 0 = λ l. siblings p (drop (suc k) l) ≡ 0 in
    subst P (sym (rows_parents s kind end))
    (last_more ps s.current (child_count (items_of pieces)) (open_path (items_of pieces)) later b.before few b.last b.outer
    (λ j r g. same r (each_get (λ x. x ≡ open_path (items_of pieces) ++ child_count (items_of pieces) ∷ [] → ⊥) (paths (places_of_rows s.rows)) j r (rows_fresh s pieces b) (ap (λ l. slice_get l j) (row_paths s.rows) ∙ g)))
    k p path (ap (λ l. slice_get l k) (sym (rows_parents s kind end)) ∙ e) (ap (λ l. slice_get l k) (sym (rows_paths s kind end pieces b)) ∙ f) w)

pub current_is : (s : State) (pieces : List Piece) → Builds s pieces → (s.current < length s.rows) ⊎ (s.current ≡ none)
current_is s pieces b = by_depth (depth (items_of pieces)) b.deep b.flat
  where
    by_depth : (d : ℕ) → (0 < d → s.current < length s.rows) → (d ≡ 0 → s.current ≡ none) → (s.current < length s.rows) ⊎ (s.current ≡ none)
    by_depth zero h k = inr (k refl)
    by_depth (suc d) h k = inl (h (omega arith))

before_with : (s : State) (kind : Kind) (end : ℕ) (pieces : List Piece) → Builds s pieces → AreBefore (parents_of (rows_with s kind end))
before_with s kind end pieces b =
    let P : List ℕ → Type 0 = AreBefore in
    let n = parents_many s.rows in
    subst P (sym (rows_parents s kind end))
    (before_more (parents_of s.rows) s.current b.before (elim (current_is s pieces b) [ inl h ↦ inl (omega (arith, n, h)) | inr h ↦ inr h ]))

pub places_many : (rows : List Row) (paths : List Path) → length rows ≡ length paths → length (placed rows paths) ≡ length rows
places_many [] paths e = refl
places_many (row ∷ rows) [] e = absurd (omega arith)
places_many (row ∷ rows) (path ∷ paths) e = ap suc (places_many rows paths (omega arith))

pub record IsLeaf (pieces : List Piece) (piece : Piece) (kind : Kind) (in_text : Bool) : Type 0 where
  pub new : IsNew pieces piece
  pub kind_is : kind_of_item piece.item ≡ kind
  pub outer : open_path (items_of (piece ∷ pieces)) ≡ open_path (items_of pieces)
  pub count : child_count (items_of (piece ∷ pieces)) ≡ suc (child_count (items_of pieces))
  pub level : depth (items_of (piece ∷ pieces)) ≡ depth (items_of pieces)
  pub text : 0 < depth (items_of pieces) → in_text ≡ is_in_text (items_of (piece ∷ pieces))
  pub no_text : depth (items_of pieces) ≡ 0 → in_text ≡ false

pub builds_leaf : (s : State) (pieces : List Piece) (piece : Piece) (kind : Kind) (t : Bool) → Builds s pieces → Next pieces piece → IsLeaf pieces piece kind t
    → Builds (record (building.begun kind (size (piece ∷ pieces)) s) { in_text = t }) (piece ∷ pieces)
builds_leaf s pieces piece kind t b n i =
    let outer = open_path (items_of pieces) in
    let behind = size (piece ∷ pieces) in
    let q = outer ++ child_count (items_of pieces) ∷ [] in
    let ps = parents_of s.rows in
    let longer = rows_length s kind behind in
    let m = paths_many ps in
    let l = parents_many s.rows in
    record {
      follow = n.follow;
      at = refl;
      few = omega (arith, b.few, longer, n.some);
      small = n.small;
      shown = ap (λ o. map (seen_at o behind) (places_of_rows (rows_with s kind behind))) i.outer ∙ rows_shown s kind pieces piece outer b i.new (λ path apart. refl) (inl refl);
      kinds = rows_kinds s kind behind ∙ (λ j. b.kinds j ++ sym i.kind_is j ∷ []) ∙ sym (new_kinds pieces piece i.new.begins);
      before = before_with s kind behind pieces b;
      outer = ap (λ p. under p s.current) (rows_paths s kind behind pieces b)
          ∙ under_more (paths_of ps) q s.current (elim (current_is s pieces b) [ inl h ↦ inl (omega (arith, m, l, h)) | inr h ↦ inr (omega (arith, m, l, h, b.few, b.small)) ])
          ∙ b.outer ∙ sym i.outer;
      deep = λ h. (let d = b.deep (omega (arith, i.level, h)) in omega (arith, d, longer));
      flat = λ h. b.flat (omega (arith, i.level, h));
      count = ap (siblings s.current) (rows_parents s kind behind)
          ∙ siblings_join s.current ps (s.current ∷ [])
          ∙ ap (λ x. siblings s.current ps + cond x 1 0) (eq_self s.current)
          ∙ (let a : siblings s.current ps + 1 ≡ suc (child_count (items_of pieces)) = omega (arith, b.count) in a)
          ∙ sym i.count;
      last = let P : Path → Type 0 = OpenAreLast (parents_of (rows_with s kind behind)) in subst P (sym i.outer) (last_with s kind pieces behind outer b (λ path apart w. w));
      text = λ h. i.text (omega (arith, i.level, h));
      no_text = λ h. i.no_text (omega (arith, i.level, h));
      text_row = λ h. (
        place_of_row q (new_row s kind behind),
        ap (λ x. slice_get x (length s.rows)) (rows_places s kind behind pieces b)
            ∙ ap (slice_get (places_of_rows s.rows ++ place_of_row q (new_row s kind behind) ∷ [])) (sym (places_many s.rows (paths_of ps) (many s.rows)))
            ∙ get_last (places_of_rows s.rows) (place_of_row q (new_row s kind behind)),
        (λ j. sym i.outer j ++ pred (sym i.count j) ∷ []),
        refl,
      );
    }

pub record IsStart (pieces : List Piece) (piece : Piece) : Type 0 where
  pub new : IsNew pieces piece
  pub kind_is : kind_of_item piece.item ≡ Element
  pub outer : open_path (items_of (piece ∷ pieces)) ≡ open_path (items_of pieces) ++ child_count (items_of pieces) ∷ []
  pub count : child_count (items_of (piece ∷ pieces)) ≡ 0
  pub level : depth (items_of (piece ∷ pieces)) ≡ suc (depth (items_of pieces))
  pub text : is_in_text (items_of (piece ∷ pieces)) ≡ false

pub builds_start : (s : State) (pieces : List Piece) (piece : Piece) → Builds s pieces → Next pieces piece → IsStart pieces piece
    → Builds (record (building.begun Element (size (piece ∷ pieces)) s) { current = length s.rows; previous = none; in_text = false }) (piece ∷ pieces)
builds_start s pieces piece b n i =
    let outer = open_path (items_of pieces) in
    let behind = size (piece ∷ pieces) in
    let q = outer ++ child_count (items_of pieces) ∷ [] in
    let ps = parents_of s.rows in
    let longer = rows_length s Element behind in
    let m = paths_many ps in
    let l = parents_many s.rows in
    let g = parents_many (rows_with s Element behind) in
    let before = before_with s Element behind pieces b in
    record {
      follow = n.follow;
      at = refl;
      few = omega (arith, b.few, longer, n.some);
      small = n.small;
      shown = ap (λ o. map (seen_at o behind) (places_of_rows (rows_with s Element behind))) i.outer
          ∙ rows_shown s Element pieces piece q b i.new (λ path apart. within_more path outer (child_count (items_of pieces)) apart) (inr refl);
      kinds = rows_kinds s Element behind ∙ (λ j. b.kinds j ++ sym i.kind_is j ∷ []) ∙ sym (new_kinds pieces piece i.new.begins);
      before = before;
      outer = ap (λ p. under p (length s.rows)) (rows_paths s Element behind pieces b)
          ∙ ap (under (paths_of ps ++ q ∷ [])) (many s.rows)
          ∙ ap (λ o. option_map_or (λ path. path) o []) (get_last (paths_of ps) q)
          ∙ sym i.outer;
      deep = λ h. omega (arith, longer);
      flat = λ h. absurd (omega (arith, h, i.level));
      count = none_has (length s.rows) (parents_of (rows_with s Element behind))
          (λ k p e is. elim (before k p e) [
            | inl h ↦ let j = get_inside (parents_of (rows_with s Element behind)) k p e in omega (arith, h, is, j, g, longer)
            | inr h ↦ omega (arith, h, is, b.few, b.small)
          ])
          ∙ sym i.count;
      last = let P : Path → Type 0 = OpenAreLast (parents_of (rows_with s Element behind)) in
          subst P (sym i.outer) (last_with s Element pieces behind q b (λ path apart w. sym (within_more path outer (child_count (items_of pieces)) apart) ∙ w));
      text = λ h. sym i.text;
      no_text = λ h. refl;
      text_row = λ h. (cc);
    }
