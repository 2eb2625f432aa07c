-- What the bytes of a node spell, as far as the calls on a document need it.
use Rattle.std.proofs.Common.{◌≡◌, ℕ, zero, suc, ◌≤◌, List, [], ◌∷◌, ◌++◌, length, Some, sym, ap, subst, arith, length-append}
use Rattle.std.proofs.Math.Logic.{∥∥₁_elim}
use Rattle.std.proofs.Props.{props}
use Rattle.std.proofs.lemmas.List.Sorted.{IsPermutation-sym, All-permutation}
use Rattle.std.specs.Prelude.{slice_get, flat_map}
use Rattle.std.specs.List.{All}
use Rattle.document_model.specs.Documents.{run, limits}
use Rattle.document_model.specs.Places.{Place, places_of}
use Rattle.document_model.proofs.Joins.{run_joins}
use Rattle.doc_spans.specs.Marks.{size, places_after}
use Rattle.doc_spans.specs.Shown.{Shown, IsShownOf}
use Rattle.doc_spans.specs.View.{Each}
use Rattle.doc_spans.proofs.Each.{each_get, each_weaker}
use Rattle.doc_spans.proofs.Marks.{EndsBy, ended, onto}
use Rattle.doc_spans.proofs.Nodes.{IsSeen, places_seen}
use Rattle.doc_spans.proofs.Over.{size_onto}
use Rattle.doc_spans.proofs.Run.{places_of_run}
use Rattle.doc_spans.proofs.TextPlaces.{each_both}

-- Each place of a tree is one of the document.

-- a place within the bytes, with what stands there
abbrev pub Stands : List ℕ → Place → Type 0
Stands bytes place = IsSeen bytes place × (place.end ≤ length bytes)

places_stand : (bytes : List ℕ) → Each (Stands bytes) (places_of bytes)
places_stand bytes =
    let pieces = (run limits bytes).pieces in
    let n = size_onto pieces [] in
    let joined : length (flat_map (λ piece. piece.text) pieces ++ (run limits bytes).rest) ≡ length bytes = ap length (run_joins limits (length bytes) [] bytes) in
    let parts = length-append (flat_map (λ piece. piece.text) pieces) (run limits bytes).rest in
    let P : List Place → Type 0 = Each (λ place. place.end ≤ length bytes) in
    each_both (IsSeen bytes) (λ place. place.end ≤ length bytes) (places_of bytes) (places_seen bytes)
    (subst P (sym (places_of_run bytes))
    (each_weaker (EndsBy (size (onto pieces []))) (λ place. place.end ≤ length bytes) (λ place e. omega (arith, e, n, joined, parts)) (places_after (onto pieces [])) (ended (onto pieces []))))

pub all_of_each : {X : Type 0} (P : X → Type 0) (xs : List X) → Each P xs → All P xs
all_of_each P [] h k d lt = absurd (omega (arith, lt))
all_of_each P (x ∷ xs) h zero d lt = h.0
all_of_each P (x ∷ xs) h (suc k) d lt = all_of_each P xs h.1 k d (omega (arith, lt))

pub each_of_all : {X : Type 0} (P : X → Type 0) (xs : List X) → All P xs → Each P xs
each_of_all P [] h = tt
each_of_all P (x ∷ xs) h = (h zero x (omega arith), each_of_all P xs (λ k d lt. h (suc k) d (omega (arith, lt))))

pub stands_at : (shown : Shown) (bytes : List ℕ) (k : ℕ) (place : Place) → IsShownOf shown bytes → slice_get shown.places k ≡ Some place → Stands bytes place
stands_at shown bytes k place is e =
    each_get (Stands bytes) shown.places k place
    (each_of_all (Stands bytes) shown.places
    (All-permutation (Stands bytes) (places_of bytes) shown.places (IsPermutation-sym shown.places (places_of bytes) is.tree.numbered) (all_of_each (Stands bytes) (places_of bytes) (places_stand bytes)))) e

-- For the calls.

texts_set : IsSet (List ℕ)
texts_set = hlevel props

pub from_seen : {A : Type 0} (x y : List ℕ) → ∥ A ∥₁ → (A → x ≡ y) → x ≡ y
from_seen x y h f = ∥∥₁_elim h (texts_set x y) f
