-- At most one answer fits.
use Rattle.std.proofs.Common.{◌≡◌, ℕ, zero, suc, List, [], ◌∷◌, Option, Some, None, take, refl, ap, subst}
use Rattle.std.proofs.lemmas.Option.{none-some}
use Rattle.policy_rules.specs.Rules.{Rules}
use Rattle.acceptance.specs.Certificates.{Part}
use Rattle.signature_evidence.proofs.Whole.{some_same}
use Rattle.completeness.specs.Complete.{IsComplete, AreComplete, IsIncompleteAt}
use Rattle.completeness.specs.Laws.{OneAnswerFits}

-- one that isn't complete isn't among those that are
not_all : (pool : List Part) (policy : Rules) (all : List (Option (List ℕ))) (k : ℕ) → AreComplete pool policy all → IsIncompleteAt pool policy all k → ⊥
not_all pool policy [] k are at = none-some _ at.1
not_all pool policy (signer ∷ all) zero are at = at.2 (subst (IsComplete pool policy) (some_same signer at.0 at.1) are.0)
not_all pool policy (signer ∷ all) (suc k) are at = not_all pool policy all k are.1 at

one : (pool : List Part) (policy : Rules) (all : List (Option (List ℕ))) (j k : ℕ)
    → AreComplete pool policy (take j all) → IsIncompleteAt pool policy all j → AreComplete pool policy (take k all) → IsIncompleteAt pool policy all k → j ≡ k
one pool policy [] j k before at others other = absurd (none-some _ at.1)
one pool policy (signer ∷ all) zero zero before at others other = refl
one pool policy (signer ∷ all) zero (suc k) before at others other = absurd (at.2 (subst (IsComplete pool policy) (some_same signer at.0 at.1) others.0))
one pool policy (signer ∷ all) (suc j) zero before at others other = absurd (other.2 (subst (IsComplete pool policy) (some_same signer other.0 other.1) before.0))
one pool policy (signer ∷ all) (suc j) (suc k) before at others other = ap suc (one pool policy all j k before.1 at others.1 other)

pub one_answer_fits : OneAnswerFits
one_answer_fits pool policy all None None found other = refl
one_answer_fits pool policy all None (Some k) found other = absurd (not_all pool policy all k found other.1)
one_answer_fits pool policy all (Some j) None found other = absurd (not_all pool policy all j other found.1)
one_answer_fits pool policy all (Some j) (Some k) found other = ap (λ (n : ℕ). Some n) (one pool policy all j k found.0 found.1 other.0 other.1)
