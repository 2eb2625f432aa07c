-- The first byte of a node, by its path.
use Rattle.std.proofs.Common.{◌≡◌, ℕ, Bool, true, false, cond, List, [], ◌∷◌, Some, refl, sym, ◌∙◌, ap}
use Rattle.std.proofs.Math.Logic.{∥∥₁_elim}
use Rattle.std.proofs.Props.{props}
use Rattle.std.proofs.lemmas.Bool.{false≢true}
use Rattle.std.proofs.lemmas.Slice.Eq.{bytes_eq-Decides}
use Rattle.std.specs.Prelude.{find, Option, option_map, slice_get}
use Rattle.document_model.specs.Canonical.{is_before}
use Rattle.document_model.specs.Characters.{◌is◌}
use Rattle.document_model.specs.Places.{Place, places_of}
use Rattle.document_model.proofs.ListOrder.{before_itself}
use Rattle.doc_spans.specs.Shown.{Shown, IsShownOf, path_at}
use Rattle.doc_spans.specs.View.{Each}
use Rattle.doc_spans.proofs.ChildNodes.{path_at_place}
use Rattle.doc_spans.proofs.Each.{each_get, each_weaker}
use Rattle.doc_spans.proofs.InOrder.{Precedes, Rise, places_rise}
use Rattle.doc_spans.proofs.NodeTexts.{all_of_each, each_of_all}
use Rattle.doc_spans.proofs.TextPlaces.{each_both}
use Rattle.qualifying_props.specs.Begins.{begins_at}
use Rattle.std.proofs.lemmas.List.Sorted.{IsPermutation-sym, All-permutation}

-- a place that precedes another has another path
other_path : (p q : Place) → Precedes p q → (p.path is q.path) ≡ false
other_path p q h = by_test (p.path is q.path) (bytes_eq-Decides p.path q.path).0
  where
    by_test : (b : Bool) → (b ≡ true → p.path ≡ q.path) → b ≡ false
    by_test true same = absurd (false≢true (sym (before_itself p.path) ∙ ap (is_before p.path) (same refl) ∙ h.0))
    by_test false same = refl

-- the place with a path, among places that rise
abbrev IsFound : List Place → Place → Type 0
IsFound places place = find (λ p. p.path is place.path) places ≡ Some place

found_first : (place : Place) (places : List Place) → IsFound (place ∷ places) place
found_first place places = by_test (place.path is place.path) ((bytes_eq-Decides place.path place.path).1 refl)
  where
    by_test : (b : Bool) → b ≡ true → cond b (Some place) (find (λ p. p.path is place.path) places) ≡ Some place
    by_test true e = refl
    by_test false e = absurd (false≢true e)

found_behind : (first : Place) (places : List Place) (place : Place) → Precedes first place × IsFound places place → IsFound (first ∷ places) place
found_behind first places place h =
    ap (λ b. cond b (Some first) (find (λ p. p.path is place.path) places)) (other_path first place h.0) ∙ h.1

all_found : (places : List Place) → Rise places → Each (IsFound places) places
all_found [] h = tt
all_found (place ∷ places) h = (
  found_first place places,
  each_weaker (λ p. Precedes place p × IsFound places p) (IsFound (place ∷ places)) (found_behind place places) places
      (each_both (Precedes place) (IsFound places) places h.0 (all_found places h.1)),
)

numbers_set : IsSet (Option ℕ)
numbers_set = hlevel props

begins_shown : (bytes : List ℕ) (shown : Shown) (k : ℕ) (place : Place) → IsShownOf shown bytes → slice_get shown.places k ≡ Some place
    → begins_at bytes (path_at shown k) ≡ Some place.start
begins_shown bytes shown k place w e =
    let P : Place → Type 0 = IsFound (places_of bytes) in
    let each : Each P shown.places =
    each_of_all P shown.places (All-permutation P (places_of bytes) shown.places (IsPermutation-sym shown.places (places_of bytes) w.tree.numbered)
    (all_of_each P (places_of bytes) (all_found (places_of bytes) (places_rise bytes)))) in
    ap (begins_at bytes) (path_at_place shown k place e) ∙ ap (option_map (λ p. p.start)) (each_get P shown.places k place each e)

-- A node of a document begins at its place.
pub begins : (bytes : List ℕ) (shown : Shown) (k : ℕ) (place : Place) → ∥ IsShownOf shown bytes ∥₁ → slice_get shown.places k ≡ Some place
    → begins_at bytes (path_at shown k) ≡ Some place.start
begins bytes shown k place whole e = ∥∥₁_elim whole (numbers_set _ _) (λ w. begins_shown bytes shown k place w e)
