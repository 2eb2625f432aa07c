-- The first fault of one test, one Reference after another.
use Rattle.std.proofs.Common.{◌≡◌, ◌<◌, ◌≤◌, ℕ, suc, ◌+◌, Bool, true, false, cond, List, [], ◌∷◌, Option, Some, None, length, get_or, drop, refl, sym, ◌∙◌, ap, add-one, arith}
use Rattle.std.proofs.lemmas.List.{at_drop_more, at_drop_all}
use Rattle.std.proofs.lemmas.Option.{none-some, same_Some}
use Rattle.std.specs.Prelude.{map, option_map}
use Rattle.std.specs.List.{position_from, AllByRecursion}
use Rattle.signature_model.specs.Chains.{Fault, first_of, when}
use Rattle.signature_model.specs.Spots.{Spot}
use Rattle.references.specs.declared.faults.RefFault.{RefFault}
use Rattle.references.specs.Answers.{IsFault}
use Rattle.references.proofs.Firsts.{Test, alike}

-- the first fault is among those that are left
pub record Judging {X : Type 0} (test : Test) (spot : X → Spot) (all : List X) (i : ℕ) : Type 0 where
  pub rest : first_of test 1 (map spot all) ≡ first_of test (i + 1) (map spot (drop i all))

pub judging_starts : {X : Type 0} (test : Test) (spot : X → Spot) (all : List X) → Judging test spot all 0
judging_starts test spot all = record { rest = refl }

-- one that has no fault is passed, and one that has one is the first
step_on : (test : Test) (k : ℕ) (spot : Spot) (spots : List Spot) → test k spot ≡ None → first_of test k (spot ∷ spots) ≡ first_of test (suc k) spots
step_on test k spot spots e = rw e refl

step_found : (test : Test) (k : ℕ) (spot : Spot) (spots : List Spot) (found : Fault) → test k spot ≡ Some found → first_of test k (spot ∷ spots) ≡ Some found
step_found test k spot spots found e = rw e refl

here : {X : Type 0} (test : Test) (spot : X → Spot) (all : List X) (i : ℕ) (x : X) → i < length all → x ≡ get_or all i x
    → first_of test (i + 1) (map spot (drop i all)) ≡ first_of test (i + 1) (spot x ∷ map spot (drop (i + 1) all))
here {X} test spot all i x within is =
    at_drop_more (λ (l : List X). first_of test (i + 1) (map spot l)) all i x within
    ∙ ap (λ (y : X). first_of test (i + 1) (spot y ∷ map spot (drop (i + 1) all))) (sym is)

pub judging_on : {X : Type 0} (test : Test) (spot : X → Spot) (all : List X) (i : ℕ) (x : X) → i < length all → x ≡ get_or all i x → test (i + 1) (spot x) ≡ None
    → Judging test spot all i → Judging test spot all (i + 1)
judging_on test spot all i x within is none h = record {
  rest = h.rest ∙ here test spot all i x within is ∙ step_on test (i + 1) (spot x) (map spot (drop (i + 1) all)) none
      ∙ ap (λ (k : ℕ). first_of test k (map spot (drop (i + 1) all))) (sym (add-one (i + 1)));
}

pub judging_found : {X : Type 0} (test : Test) (spot : X → Spot) (all : List X) (i : ℕ) (x : X) (answer : RefFault) → i < length all → x ≡ get_or all i x
    → IsFault (test (i + 1) (spot x)) answer → Judging test spot all i → IsFault (first_of test 1 (map spot all)) answer
judging_found test spot all i x answer within is f h =
    alike (test (i + 1) (spot x)) (first_of test 1 (map spot all)) answer
    (λ found e. h.rest ∙ here test spot all i x within is ∙ step_found test (i + 1) (spot x) (map spot (drop (i + 1) all)) found e) f

pub judging_ends : {X : Type 0} (test : Test) (spot : X → Spot) (all : List X) (i : ℕ) → length all ≤ i → Judging test spot all i
    → first_of test 1 (map spot all) ≡ None
judging_ends {X} test spot all i past h = h.rest ∙ at_drop_all (λ (l : List X). first_of test (i + 1) (map spot l)) all i past

-- The first of a list that passes a test, by its place from a number on.

cons_first : {X : Type 0} (test : Test) (fault : ℕ → Fault) (p : X → Bool) (k : ℕ) (spot : Spot) (spots : List Spot) (x : X) (xs : List X) (b : Bool)
    → test (suc k) spot ≡ when b (fault (suc k)) → p x ≡ b → first_of test (suc (k + 1)) spots ≡ option_map (λ n. fault (suc n)) (position_from p (k + 1) xs)
    → first_of test (suc k) (spot ∷ spots) ≡ option_map (λ n. fault (suc n)) (position_from p k (x ∷ xs))
cons_first test fault p k spot spots x xs true e f rest =
    step_found test (suc k) spot spots (fault (suc k)) e
    ∙ sym (ap (λ c. option_map (λ n. fault (suc n)) (cond c (Some k) (position_from p (k + 1) xs))) f)
cons_first test fault p k spot spots x xs false e f rest =
    step_on test (suc k) spot spots e ∙ ap (λ j. first_of test (suc j) spots) (sym (add-one k)) ∙ rest
    ∙ sym (ap (λ c. option_map (λ n. fault (suc n)) (cond c (Some k) (position_from p (k + 1) xs))) f)

pub first_at : {X : Type 0} (P : X → Type 0) (test : Test) (of : Spot → Bool) (fault : ℕ → Fault) (p : X → Bool) (spot : X → Spot)
    → ((k : ℕ) (s : Spot) → test k s ≡ when (of s) (fault k)) → ((x : X) → P x → p x ≡ of (spot x)) → (k : ℕ) (xs : List X) → AllByRecursion P xs
    → first_of test (suc k) (map spot xs) ≡ option_map (λ n. fault (suc n)) (position_from p k xs)
first_at P test of fault p spot is same k [] h = refl
first_at P test of fault p spot is same k (x ∷ xs) h =
    cons_first test fault p k (spot x) (map spot xs) x xs (of (spot x)) (is (suc k) (spot x)) (same x h.0) (first_at P test of fault p spot is same (k + 1) xs h.1)

within_rest : (b : Bool) (k m n : ℕ) (o : Option ℕ) → cond b (Some k) o ≡ Some n → (o ≡ Some n → n < k + 1 + m) → n < k + suc m
within_rest true k m n o e h = let g : k ≡ n = same_Some k n e in omega arith
within_rest false k m n o e h = let g : n < k + 1 + m = h e in omega arith

-- it is within the list
pub position_within : {X : Type 0} (p : X → Bool) (k : ℕ) (xs : List X) (n : ℕ) → position_from p k xs ≡ Some n → n < k + length xs
position_within p k [] n e = absurd (none-some n e)
position_within p k (x ∷ xs) n e = within_rest (p x) k (length xs) n (position_from p (k + 1) xs) e (λ f. position_within p (k + 1) xs n f)
