-- The numbers below a count.
use Rattle.std.proofs.Common.{◌≡◌, ℕ, zero, suc, ◌+◌, ◌<◌, ◌≤◌, List, [], ◌∷◌, ◌++◌, map, sym, ◌∙◌, ap, add-one, arith}
use Rattle.std.specs.List.{All}
use Rattle.std.proofs.lemmas.List.{map-append}
use Rattle.std.proofs.lemmas.List.Elements.{All-same}
use Rattle.cert_paths.specs.declared.object.ObjectId.{ObjectId}
use Rattle.existence_times.specs.Kept.{number_of}
use Rattle.signature_objects.specs.Objects.{numbers_below, numbers_from}
use Rattle.signature_evidence.proofs.InRange.{below_all}

from_more : (first count : ℕ) → numbers_from first (suc count) ≡ numbers_from first count ++ (first + count) ∷ []
from_more first zero = let e : first ≡ first + 0 = omega arith in ap (λ n. n ∷ []) e
from_more first (suc count) =
    let e : suc first + count ≡ first + suc count = omega arith in
    ap (λ more. first ∷ more) (from_more (suc first) count ∙ ap (λ n. numbers_from (suc first) count ++ n ∷ []) e)

pub below_more : (ids : List ObjectId) (id : ObjectId) (count : ℕ) → id.number ≡ count → map number_of ids ≡ numbers_below count
    → map number_of (ids ++ id ∷ []) ≡ numbers_below (count + 1)
below_more ids id count is h =
    map-append number_of ids (id ∷ []) ∙ (λ i. h i ++ is i ∷ [])
    ∙ ap (λ n. numbers_below count ++ n ∷ []) from_none ∙ sym (from_more 0 count) ∙ ap numbers_below (sym (add-one count))
  where
    from_none : count ≡ 0 + count
    from_none = omega arith

pub below_within : (numbers : List ℕ) (count bound : ℕ) → count ≤ bound → numbers ≡ numbers_below count → All (λ number. number < bound) numbers
below_within numbers count bound le e = All-same (λ number. number < bound) numbers (numbers_below count) e (below_all 0 count bound (omega (arith, le)))
