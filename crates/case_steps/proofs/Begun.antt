-- A new case shows the octets of its References and the value.
use Rattle.std.proofs.Common.{◌≡◌, ℕ, zero, suc, ◌+◌, ◌==◌, Bool, true, false, ◌||◌, List, [], ◌∷◌, ◌++◌, replicate, arith, refl, sym, ◌∙◌, ap, subst, append_assoc}
use Rattle.std.proofs.lemmas.List.{append-nil}
use Rattle.std.proofs.lemmas.List.Folds.{list_any-append}
use Rattle.std.proofs.lemmas.Option.{none-some}
use Rattle.std.specs.Cmp.{unsigned_Decides}
use Rattle.acceptance.specs.Certificates.{Part, other}
use Rattle.signature_objects.specs.Objects.{Object, Octets, Value, Token, is_same, has, with_object, with_objects, number_of, octets_from}
use Rattle.signature_evidence.specs.Pools.{pool_of}
use Rattle.signature_evidence.proofs.Numbers.{not_both, with_both, has_behind}
use Rattle.case_steps.specs.Built.{ShowsObjects, NewCaseShows}
use Rattle.case_steps.proofs.Steps.{put_behind}

differ : (k i : ℕ) → (k ≡ i → ⊥) → (k == i) ≡ false
differ k i d = by_bool (k == i) (unsigned_Decides k i).0
  where
    by_bool : (b : Bool) → (b ≡ true → k ≡ i) → b ≡ false
    by_bool true f = absurd (d (f refl))
    by_bool false f = refl

neither : (a b : Bool) → a ≡ false → b ≡ false → (a || b) ≡ false
neither a b e f = λ i. e i || f i

fresh : (front : List Object) (k n : ℕ) → ((j : ℕ) → has front (Octets (k + j)) ≡ false) → with_objects front (octets_from k n) ≡ front ++ octets_from k n
fresh front k zero h = sym (append-nil front)
fresh front k (suc n) h =
    let e : k + 0 ≡ k = omega arith in
    let none : has front (Octets k) ≡ false = subst (λ (j : ℕ). has front (Octets j) ≡ false) e (h 0) in
    ap (λ all. with_objects all (octets_from (suc k) n)) (put_behind front (Octets k) none)
    ∙ fresh (front ++ Octets k ∷ []) (suc k) n (λ j.
    let s : k + suc j ≡ suc k + j = omega arith in
    list_any-append (is_same (Octets (suc k + j))) front (Octets k ∷ [])
    ∙ neither (has front (Octets (suc k + j))) (has (Octets k ∷ []) (Octets (suc k + j))) (subst (λ (i : ℕ). has front (Octets i) ≡ false) s (h (suc j)))
    (neither (suc k + j == k) false (differ (suc k + j) k (λ same. absurd (omega (arith, same)))) refl))
    ∙ append_assoc front (Octets k ∷ []) (octets_from (suc k) n)

no_value : (k n : ℕ) → has (octets_from k n) Value ≡ false
no_value k zero = refl
no_value k (suc n) = no_value (suc k) n

no_token : (k n : ℕ) (bytes : List ℕ) → has (octets_from k n ++ Value ∷ []) (Token bytes) ≡ false
no_token k zero bytes = refl
no_token k (suc n) bytes = no_token (suc k) n bytes

pub front_is : (n : ℕ) → with_objects [] (octets_from 1 n ++ Value ∷ []) ≡ octets_from 1 n ++ Value ∷ []
front_is n =
    with_both [] (octets_from 1 n) (Value ∷ []) ∙ ap (λ all. with_object all Value) (fresh [] 1 n (λ j. refl)) ∙ put_behind (octets_from 1 n) Value (no_value 1 n)

pool_is : (k n : ℕ) → replicate (n + 1) other ≡ pool_of (octets_from k n ++ Value ∷ [])
pool_is k zero = refl
pool_is k (suc n) = let e : suc n + 1 ≡ suc (n + 1) = omega arith in ap (λ (count : ℕ). replicate count other) e ∙ ap (λ (pool : List Part). other ∷ pool) (pool_is (suc k) n)

value_is : (k n : ℕ) → n ≡ number_of (octets_from k n ++ Value ∷ []) Value
value_is k zero = refl
value_is k (suc n) = ap suc (value_is (suc k) n)

pub new_case_shows : NewCaseShows
new_case_shows references =
    subst (λ (objects : List Object). ShowsObjects objects (record { pool = replicate (references + 1) other; references = references; tokens = []; stamps = [] })) (sym (front_is references))
    (record {
      pool = pool_is 1 references;
      has_value = has_behind (octets_from 1 references) (Value ∷ []) Value refl;
      value = value_is 1 references;
      tokens = λ n bytes h. absurd (none-some _ h.1);
      every = λ bytes e. absurd (not_both (sym e ∙ no_token 1 references bytes));
    })
