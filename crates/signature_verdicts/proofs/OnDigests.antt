-- The answers on the digests of References, one after another.
use Rattle.std.proofs.Common.{◌≡◌, ◌↔◌, ℕ, suc, ◌+◌, Bool, List, [], ◌∷◌, ◌++◌, length, Some, ℤ, IsTrue, arith, refl, sym, ap, subst, ◌∙◌, ⊎_elim, length-append}
use Rattle.std.specs.Prelude.{slice_get}
use Rattle.policy_rules.specs.Rules.{Rules, AcceptsDigest}
use Rattle.acceptance.specs.Walks.{time}
use Rattle.cert_paths.proofs.HeldLaws.{get_cases}
use Rattle.signature_cases.specs.Built.{uses_from}
use Rattle.signature_cases.specs.declared.cases.ReferenceDigest.{ReferenceDigest}
use Rattle.signature_evidence.specs.Answers.{AreAccepted}
use Rattle.signature_evidence.proofs.Whole.{some_same}

-- an answer on the digest of the object with a number
abbrev pub IsAnswerOn : Rules → List ℤ → ℕ → ReferenceDigest → Bool → Type 0
IsAnswerOn policy times number row answer = IsTrue answer ↔ AcceptsDigest policy row.kind (time times number)

-- those on the first rows
pub record Answered (policy : Rules) (times : List ℤ) (rows : List ReferenceDigest) (count : ℕ) (answers : List Bool) : Type 0 where
  pub many : length answers ≡ count
  pub each : (k : ℕ) (row : ReferenceDigest) (answer : Bool) → slice_get rows k ≡ Some row → slice_get answers k ≡ Some answer → IsAnswerOn policy times k row answer

pub answered_more : (policy : Rules) (times : List ℤ) (rows : List ReferenceDigest) (count : ℕ) (answers longer : List Bool) (row : ReferenceDigest) (answer : Bool)
    → slice_get rows count ≡ Some row → longer ≡ answers ++ answer ∷ [] → IsAnswerOn policy times count row answer → Answered policy times rows count answers
    → Answered policy times rows (count + 1) longer
answered_more policy times rows count answers longer row answer at put is h =
    subst (λ (all : List Bool). Answered policy times rows (count + 1) all) (sym put)
    (record {
      many = let l = length-append answers (answer ∷ []) in let m = h.many in omega (arith, l, m);
      each = λ k other found there has.
          ⊎_elim
          (λ old. h.each k other found there old)
          (λ new.
          let here : k ≡ count = new.0 ∙ h.many in
          let same : row ≡ other = some_same row other (sym at ∙ ap (slice_get rows) (sym here) ∙ there) in
          subst (λ (n : ℕ). IsAnswerOn policy times n other found) (sym here)
          (subst (λ (r : ReferenceDigest). IsAnswerOn policy times count r found) same
          (subst (λ (b : Bool). IsAnswerOn policy times count row b) (sym new.1) is)))
          (get_cases answers answer found k has);
    })

pub answers_are : (policy : Rules) (times : List ℤ) (first : ℕ) (rows : List ReferenceDigest) (answers : List Bool) → length answers ≡ length rows
    → ((k : ℕ) (row : ReferenceDigest) (answer : Bool) → slice_get rows k ≡ Some row → slice_get answers k ≡ Some answer → IsAnswerOn policy times (first + k) row answer)
    → AreAccepted policy times (uses_from first rows) answers
answers_are policy times first [] [] many each = tt
answers_are policy times first [] (answer ∷ answers) many each = absurd (omega (arith, many))
answers_are policy times first (row ∷ rows) [] many each = absurd (omega (arith, many))
answers_are policy times first (row ∷ rows) (answer ∷ answers) many each =
    let here : first + 0 ≡ first = omega arith in (
      subst (λ (n : ℕ). IsAnswerOn policy times n row answer) here (each 0 row answer refl refl),
      answers_are policy times (suc first) rows answers (omega (arith, many)) (λ k other found there has.
          let n : first + suc k ≡ suc first + k = omega arith in
          subst (λ (j : ℕ). IsAnswerOn policy times j other found) n (each (suc k) other found there has)),
    )
