-- What is said of certificates and revocation lists, in the order of their numbers.
use Rattle.std.proofs.Common.{◌≡◌, ℕ, zero, suc, ◌+◌, ◌<◌, not, List, [], ◌∷◌, ◌++◌, length, get_or, drop, map, Some, ℤ, refl, sym, ◌∙◌, ap, append_assoc, arith, slice_get}
use Rattle.std.proofs.lemmas.List.{drop_more, get_or_default}
use Rattle.std.proofs.lemmas.Option.{none-some, slice_get_read}
use Rattle.acceptance.specs.Certificates.{Part, certificate, crl, other}
use Rattle.acceptance.specs.Walks.{time}
use Rattle.cert_paths.specs.Pool.{part_numbers, numbers_from, is_crl}
use Rattle.signature_objects.specs.Objects.{Object, Octets, Value, Certificate, RevocationList, Token}
use Rattle.signature_evidence.specs.Pools.{part_of, pool_of}
use Rattle.signature_evidence.proofs.Whole.{some_same}
use Rattle.report_texts.specs.declared.facts.ObjectFact.{ObjectFact}
use Rattle.report_texts.specs.Shown.{objects_of}
use Rattle.signature_reports.specs.Said.{object_said}

-- The numbers are those of objects.

within_from : (first : ℕ) (pool : List Part) (k n : ℕ) → slice_get (numbers_from first pool) k ≡ Some n → n < first + length pool
within_from first [] k n e = absurd (none-some n e)
within_from first (other ∷ pool) k n e = let h = within_from (suc first) pool k n e in omega (arith, h)
within_from first (certificate c ∷ pool) zero n e = let s = some_same first n e in omega (arith, s)
within_from first (certificate c ∷ pool) (suc k) n e = let h = within_from (suc first) pool k n e in omega (arith, h)
within_from first (crl l ∷ pool) zero n e = let s = some_same first n e in omega (arith, s)
within_from first (crl l ∷ pool) (suc k) n e = let h = within_from (suc first) pool k n e in omega (arith, h)

pub part_within : (pool : List Part) (k n : ℕ) → slice_get (part_numbers pool) k ≡ Some n → n < length pool
unfolding part_numbers
part_within pool k n e = let h = within_from 0 pool k n e in omega (arith, h)

-- One after another.

regroup : (a b c : List ObjectFact) → (a ++ b) ++ c ≡ a ++ (b ++ c)
regroup a b c = simp append_assoc

get_or_same : (numbers : List ℕ) (k : ℕ) → k < length numbers → get_or numbers k 0 ≡ get_or numbers k (get_or numbers k 0)
get_or_same numbers k h = get_or_default numbers k 0 (get_or numbers k 0) h

pub objects_more : (f : ℕ → ObjectFact) (numbers : List ℕ) (k : ℕ) (out longer whole : List ObjectFact) (fact : ObjectFact) → k < length numbers → longer ≡ out ++ fact ∷ []
    → ((n : ℕ) → slice_get numbers k ≡ Some n → fact ≡ f n) → out ++ map f (drop k numbers) ≡ whole → longer ++ map f (drop (k + 1) numbers) ≡ whole
objects_more f numbers k out longer whole fact h put is w =
    let rest : List ObjectFact = map f (drop (k + 1) numbers) in
    let there : slice_get numbers k ≡ Some (get_or numbers k 0) = slice_get_read numbers (length numbers) k (get_or numbers k 0) refl h (get_or_same numbers k h) in
    ap (λ x. x ++ rest) put
    ∙ regroup out (fact ∷ []) rest
    ∙ ap (λ x. out ++ x ∷ rest) (is (get_or numbers k 0) there)
    ∙ ap (λ x. out ++ map f x) (sym (drop_more numbers k 0 h))
    ∙ w

-- They are those of the objects that are shown.

-- from some number on, a pool and times are these
record AreFrom (all : List Part) (alltimes : List ℤ) (first : ℕ) (objects : List Object) (times : List ℤ) : Type 0 where
  many : length times ≡ length objects
  parts : (k : ℕ) → slice_get all (first + k) ≡ slice_get (pool_of objects) k
  each : (k : ℕ) → time alltimes (first + k) ≡ time times k

from_next : (all : List Part) (alltimes : List ℤ) (first : ℕ) (object : Object) (objects : List Object) (at : ℤ) (times : List ℤ)
    → AreFrom all alltimes first (object ∷ objects) (at ∷ times) → AreFrom all alltimes (suc first) objects times
from_next all alltimes first object objects at times are = record {
  many = let m = are.many in omega (arith, m);
  parts = λ k. let n : suc first + k ≡ first + suc k = omega arith in ap (slice_get all) n ∙ are.parts (suc k);
  each = λ k. let n : suc first + k ≡ first + suc k = omega arith in ap (time alltimes) n ∙ are.each (suc k);
}

first_said : (all : List Part) (alltimes : List ℤ) (first : ℕ) (object : Object) (objects : List Object) (at : ℤ) (times : List ℤ)
    → AreFrom all alltimes first (object ∷ objects) (at ∷ times) → object_said all alltimes first ≡ object_said (part_of object ∷ []) (at ∷ []) 0
first_said all alltimes first object objects at times are =
    let n : first + 0 ≡ first = omega arith in
    let part : slice_get all first ≡ Some (part_of object) = ap (slice_get all) (sym n) ∙ are.parts 0 in
    let here : time alltimes first ≡ at = ap (time alltimes) (sym n) ∙ are.each 0 in
    (λ i. record { is_certificate = not (is_crl (part i)); time = here i })

said_from : (all : List Part) (alltimes : List ℤ) (first : ℕ) (objects : List Object) (times : List ℤ) → AreFrom all alltimes first objects times
    → map (object_said all alltimes) (numbers_from first (pool_of objects)) ≡ objects_of objects times
said_from all alltimes first [] times are = refl
said_from all alltimes first (object ∷ objects) [] are = let m = are.many in absurd (omega (arith, m))
said_from all alltimes first (Octets k ∷ objects) (at ∷ times) are = said_from all alltimes (suc first) objects times (from_next all alltimes first (Octets k) objects at times are)
said_from all alltimes first (Value ∷ objects) (at ∷ times) are = said_from all alltimes (suc first) objects times (from_next all alltimes first Value objects at times are)
said_from all alltimes first (Token bytes ∷ objects) (at ∷ times) are = said_from all alltimes (suc first) objects times (from_next all alltimes first (Token bytes) objects at times are)
said_from all alltimes first (Certificate bytes ∷ objects) (at ∷ times) are = (λ i. first_said all alltimes first (Certificate bytes) objects at times are i
    ∷ said_from all alltimes (suc first) objects times (from_next all alltimes first (Certificate bytes) objects at times are) i)
said_from all alltimes first (RevocationList bytes ∷ objects) (at ∷ times) are = (λ i. first_said all alltimes first (RevocationList bytes) objects at times are i
    ∷ said_from all alltimes (suc first) objects times (from_next all alltimes first (RevocationList bytes) objects at times are) i)

pub objects_are : (pool : List Part) (objects : List Object) (times : List ℤ) → pool ≡ pool_of objects → length times ≡ length objects
    → map (object_said pool times) (part_numbers pool) ≡ objects_of objects times
unfolding part_numbers
objects_are pool objects times same many =
    (λ i. map (object_said (same i) times) (numbers_from 0 (same i)))
    ∙ said_from (pool_of objects) times 0 objects times (record {
      many = many;
      parts = λ k. let n : 0 + k ≡ k = omega arith in ap (slice_get (pool_of objects)) n;
      each = λ k. let n : 0 + k ≡ k = omega arith in ap (time times) n;
    })
