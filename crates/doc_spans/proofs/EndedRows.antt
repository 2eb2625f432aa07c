-- The rows of a builder where one row's end moves: a text that goes on, or an element that ends.
use Rattle.std.proofs.Common.{◌≡◌, ℕ, suc, pred, ◌+◌, ◌<◌, ◌≤◌, true, false, List, [], ◌∷◌, ◌++◌, length, take, drop, Some, refl, sym, ◌∙◌, ap, subst, arith, inl, inr}
use Rattle.std.proofs.lemmas.Option.{same_Some}
use Rattle.std.specs.Prelude.{map, slice_get}
use Rattle.std.specs.Option.{option_map_or}
use Rattle.document_model.specs.Items.{Piece}
use Rattle.document_model.specs.Tree.{Path, depth}
use Rattle.document_model.specs.Documents.{is_in_text}
use Rattle.document_model.specs.NodeSets.{is_within}
use Rattle.document_model.specs.Places.{path_of, begins_node}
use Rattle.doc_spans.specs.declared.rows.Row.{Row}
use Rattle.doc_spans.specs.Marks.{size, items_of, open_path}
use Rattle.doc_spans.specs.Building as building
use Rattle.doc_spans.specs.Building.{State, with_next, with_end, parent_of}
use Rattle.doc_spans.specs.View.{none, AreBefore}
use Rattle.doc_spans.specs.View.{siblings, under, paths_of, parents_of, placed, places_of_rows, seen_at}
use Rattle.doc_spans.proofs.Marks.{within_self}
use Rattle.doc_spans.proofs.Steps.{child_count}
use Rattle.doc_spans.proofs.View.{get_past, paths_many, parents_many, parents_end, end_many, get_parent, has_paths, end_placed, placed_end, siblings_split, under_get, snoc_same, snoc_some, get_of_paths, get_end}
use Rattle.doc_spans.proofs.Seen.{within_more, not_within, within_shorter, others, ends_here, goes_on_here, all_but_one}
use Rattle.doc_spans.proofs.Builds.{OpenAreLast, Builds, Next, rows_distinct, row_paths, carried, old_places, old_kinds, kinds_end, few_parents}

-- the places where one row's end is changed
places_end : (k n : ℕ) (rows : List Row) → places_of_rows (with_end k n rows) ≡ end_placed k n (places_of_rows rows)
places_end k n rows = ap (λ ps. placed (with_end k n rows) (paths_of ps)) (parents_end k n rows) ∙ placed_end k n rows (paths_of (parents_of rows))

pub record GoesOn (pieces : List Piece) (piece : Piece) : Type 0 where
  pub path : path_of (items_of pieces) piece.item ≡ open_path (items_of pieces) ++ pred (child_count (items_of pieces)) ∷ []
  pub begins : begins_node (items_of pieces) piece.item ≡ false
  pub outer : open_path (items_of (piece ∷ pieces)) ≡ open_path (items_of pieces)
  pub count : child_count (items_of (piece ∷ pieces)) ≡ child_count (items_of pieces)
  pub level : depth (items_of (piece ∷ pieces)) ≡ depth (items_of pieces)
  pub text : is_in_text (items_of (piece ∷ pieces)) ≡ true
  pub inner : 0 < depth (items_of pieces)

pub builds_on : (s : State) (pieces : List Piece) (piece : Piece) → Builds s pieces → Next pieces piece → GoesOn pieces piece → s.in_text ≡ true
    → Builds (building.gone_on (size (piece ∷ pieces)) s) (piece ∷ pieces)
builds_on s pieces piece b n i going =
    let outer = open_path (items_of pieces) in
    let behind = size (piece ∷ pieces) in
    let c = pred (child_count (items_of pieces)) in
    let q = outer ++ c ∷ [] in
    let ps = parents_of s.rows in
    let row = b.text_row going in
    let same = parents_end s.previous behind s.rows in
    let long = end_many s.previous behind s.rows in
    record {
      follow = n.follow;
      at = refl;
      few = omega (arith, b.few, long);
      small = n.small;
      shown = ap (λ o. map (seen_at o behind) (places_of_rows (with_end s.previous behind s.rows))) i.outer
          ∙ ap (map (seen_at outer behind)) (places_end s.previous behind s.rows)
          ∙ sym (all_but_one (carried q pieces piece) (seen_at outer behind) q behind
          (λ x apart. others q outer outer (size pieces) behind x (within_more x.path outer c apart) refl)
          (places_of_rows s.rows) s.previous row.0 row.1 row.2 (rows_distinct s pieces b)
          (goes_on_here q outer (size pieces) behind row.0 (ap (λ p. is_within p q) row.2 ∙ within_self q) (ap (λ p. is_within p outer) row.2 ∙ not_within outer c) (row.3 ∙ b.at)))
          ∙ sym (old_places s pieces piece q b i.path i.begins);
      kinds = kinds_end s.previous behind s.rows ∙ b.kinds ∙ sym (old_kinds pieces piece i.begins);
      before = let P : List ℕ → Type 0 = AreBefore in subst P (sym same) b.before;
      outer = ap (λ l. under (paths_of l) s.current) same ∙ b.outer ∙ sym i.outer;
      deep = λ h. (let d = b.deep (omega (arith, i.level, h)) in omega (arith, d, long));
      flat = λ h. b.flat (omega (arith, i.level, h));
      count = ap (siblings s.current) same ∙ b.count ∙ sym i.count;
      last = let P : List ℕ → Type 0 = λ l. OpenAreLast l (open_path (items_of (piece ∷ pieces))) in
          let Q : Path → Type 0 = OpenAreLast ps in subst P (sym same) (subst Q (sym i.outer) b.last);
      text = λ h. going ∙ sym i.text;
      no_text = λ h. (let z = i.inner in let e = i.level in absurd (omega arith));
      text_row = λ h. (
        record row.0 { end = behind },
        ap (λ l. slice_get l s.previous) (places_end s.previous behind s.rows) ∙ get_end s.previous behind (places_of_rows s.rows) row.0 row.1,
        row.2 ∙ (λ j. sym i.outer j ++ pred (sym i.count j) ∷ []),
        refl,
      );
    }

-- An element that ends.

pub record IsEnd (pieces : List Piece) (piece : Piece) : Type 0 where
  pub path : path_of (items_of pieces) piece.item ≡ open_path (items_of pieces)
  pub begins : begins_node (items_of pieces) piece.item ≡ false
  pub outer : open_path (items_of pieces) ≡ open_path (items_of (piece ∷ pieces)) ++ pred (child_count (items_of (piece ∷ pieces))) ∷ []
  pub count : 0 < child_count (items_of (piece ∷ pieces))
  pub level : depth (items_of pieces) ≡ suc (depth (items_of (piece ∷ pieces)))
  pub text : is_in_text (items_of (piece ∷ pieces)) ≡ false
  pub path_some : 0 < depth (items_of (piece ∷ pieces)) → open_path (items_of (piece ∷ pieces)) ≡ [] → ⊥
  pub path_none : depth (items_of (piece ∷ pieces)) ≡ 0 → open_path (items_of (piece ∷ pieces)) ≡ []

pub builds_end : (s : State) (pieces : List Piece) (piece : Piece) → Builds s pieces → Next pieces piece → IsEnd pieces piece
    → Builds (record { rows = with_end s.current (size (piece ∷ pieces)) s.rows; current = parent_of s.current s.rows; previous = s.current; in_text = false; at = size (piece ∷ pieces) }) (piece ∷ pieces)
builds_end s pieces piece b n i =
    let outer = open_path (items_of pieces) in
    let later = open_path (items_of (piece ∷ pieces)) in
    let c = pred (child_count (items_of (piece ∷ pieces))) in
    let behind = size (piece ∷ pieces) in
    let ps = parents_of s.rows in
    let m = paths_many ps in
    let l = parents_many s.rows in
    let few : length ps ≤ none = let h = few_parents s pieces b in omega (arith, h) in
    let same = parents_end s.current behind s.rows in
    let long = end_many s.current behind s.rows in
    let inside : s.current < length s.rows = b.deep (omega (arith, i.level)) in
    let p = parent_of s.current s.rows in
    let is_parent : slice_get ps s.current ≡ Some p = get_parent s.current s.rows inside in
    let here : slice_get (paths_of ps) s.current ≡ Some outer = under_get (paths_of ps) s.current (omega (arith, m, l, inside)) ∙ ap Some b.outer in
    let paths_hold = has_paths ps b.before few in
    let parts : (under (paths_of ps) p ≡ later) × (siblings p (take s.current ps) ≡ c) =
    snoc_same _ _ _ _ (sym (same_Some outer _ (sym here ∙ paths_hold s.current p is_parent)) ∙ i.outer) in
    let row = get_of_paths (places_of_rows s.rows) s.current outer (ap (λ x. slice_get x s.current) (row_paths s.rows) ∙ here) in
    let none_later : siblings p (drop (suc s.current) ps) ≡ 0 = b.last s.current p outer is_parent here (within_self outer) in
    record {
      follow = n.follow;
      at = refl;
      few = omega (arith, b.few, long);
      small = n.small;
      shown = ap (map (seen_at later behind)) (places_end s.current behind s.rows)
          ∙ sym (all_but_one (carried outer pieces piece) (seen_at later behind) outer behind
          (λ x apart. others outer outer later (size pieces) behind x refl
          (sym (ap (is_within x.path) i.outer ∙ within_more x.path later c (λ e. apart (e ∙ sym i.outer)))))
          (places_of_rows s.rows) s.current row.0 row.1 row.2 (rows_distinct s pieces b)
          (ends_here outer later (size pieces) behind row.0 (ap (λ r. is_within r outer) row.2 ∙ within_self outer)
          (ap (λ r. is_within r later) (row.2 ∙ i.outer) ∙ not_within later c)))
          ∙ sym (old_places s pieces piece outer b i.path i.begins);
      kinds = kinds_end s.current behind s.rows ∙ b.kinds ∙ sym (old_kinds pieces piece i.begins);
      before = let P : List ℕ → Type 0 = AreBefore in subst P (sym same) b.before;
      outer = ap (λ x. under (paths_of x) p) same ∙ parts.0;
      deep = λ h. elim (b.before s.current p is_parent) [
        | inl k ↦ omega (arith, k, inside, long)
        | inr k ↦ absurd (i.path_some h (sym parts.0 ∙ ap (λ o. option_map_or (λ r. r) o []) (get_past (paths_of ps) p (omega (arith, k, m, few)))))
      ];
      flat = λ h. elim (b.before s.current p is_parent) [
        | inl k ↦ absurd (
            let up : p < length s.rows = omega (arith, k, inside) in
            let q = parent_of p s.rows in
            snoc_some (under (paths_of ps) q) (siblings q (take p ps))
            (same_Some _ _ (sym (paths_hold p q (get_parent p s.rows up)) ∙ under_get (paths_of ps) p (omega (arith, m, l, up))) ∙ parts.0 ∙ i.path_none h)
            )
        | inr k ↦ k
      ];
      count = ap (siblings p) same ∙ siblings_split ps s.current p is_parent
          ∙ (let a : suc (siblings p (take s.current ps) + siblings p (drop (suc s.current) ps)) ≡ child_count (items_of (piece ∷ pieces)) = omega (arith, parts.1, none_later, i.count) in a);
      last = let P : List ℕ → Type 0 = λ x. OpenAreLast x later in
          let R : Path → Type 0 = λ o. OpenAreLast ps o in
          subst P (sym same) (λ k q path e f w. b.last k q path e f (ap (is_within path) i.outer ∙ within_shorter path later c w));
      text = λ h. sym i.text;
      no_text = λ h. refl;
      text_row = λ h. (cc);
    }
