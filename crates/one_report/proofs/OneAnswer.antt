-- Right answers are one.
use Rattle.std.proofs.Common.{◌≡◌, ◌<◌, Bool, true, false, List, [], ◌∷◌, IsTrue, ◌↔◌, refl, sym, ◌∙◌, subst, arith, ℤ, pos, ◌≤ℤ◌, length}
use Rattle.std.proofs.lemmas.Int.{ints}
use Rattle.std.proofs.lemmas.List.{ext_get_or}
use Rattle.algorithms.specs.Digests.{digest_of}
use Rattle.acceptance.specs.Verdict.{AreEarliest, Case, DigestUse}
use Rattle.acceptance.specs.Walks.{time}
use Rattle.policy_rules.specs.Rules.{Rules}
use Rattle.tst_tokens.specs.Digests.{imprint_kind}
use Rattle.signature_evidence.specs.Answers.{Answers, AreAccepted, AreAnswers, AreTokenAnswers, IsTokenAnswer, TokenAnswer}
use Rattle.signature_evidence.specs.Evidence.{Evidence, Stamped}
use Rattle.signature_evidence.proofs.Numbers.{not_both}
use Rattle.one_report.specs.Laws.{AnswersAreOne}
use Rattle.one_report.proofs.Soundnesses.{soundness_once}

-- there is one list of earliest times
earliest_once : (policy : Rules) (case : Case) (now : ℤ) (s t : List ℤ) → AreEarliest policy case now s → AreEarliest policy case now t → s ≡ t
earliest_once policy case now s t e f =
    let d : ℤ = pos 0 in
    ext_get_or d s t (e.closed.each ∙ sym f.closed.each)
    (λ i lt.
    let each = e.closed.each in
    let within : i < length case.pool = omega arith in
    let low : time s i ≤ℤ time t i = f.greatest s e.closed i within in
    let high : time t i ≤ℤ time s i = e.greatest t f.closed i within in
    omega (arith, ints))

-- a question has one answer
pub told_once : (P : Type 0) (a b : Bool) → (IsTrue a ↔ P) → (IsTrue b ↔ P) → a ≡ b
told_once P true true is also = refl
told_once P false false is also = refl
told_once P true false is also = absurd (not_both (sym (also.1 (is.0 refl))))
told_once P false true is also = absurd (not_both (sym (is.1 (also.0 refl))))

accepted_once : (policy : Rules) (times : List ℤ) (digests : List DigestUse) (answers others : List Bool) → AreAccepted policy times digests answers → AreAccepted policy times digests others
    → answers ≡ others
accepted_once policy times [] [] [] are also = refl
accepted_once policy times [] (answer ∷ answers) others are also = absurd are
accepted_once policy times [] [] (other ∷ others) are also = absurd also
accepted_once policy times (digest ∷ digests) [] others are also = absurd are
accepted_once policy times (digest ∷ digests) (answer ∷ answers) [] are also = absurd also
accepted_once policy times (digest ∷ digests) (answer ∷ answers) (other ∷ others) are also =
    let first = told_once _ answer other are.0 also.0 in
    let rest = accepted_once policy times digests answers others are.1 also.1 in
    (λ i. first i ∷ rest i)

token_once : (policy : Rules) (evidence : Evidence) (case : Case) (times : List ℤ) (stamped : Stamped) (answer other : TokenAnswer) → IsTokenAnswer policy evidence case times stamped answer
    → IsTokenAnswer policy evidence case times stamped other → answer ≡ other
token_once policy evidence case times stamped answer other is also =
    let sound = soundness_once (digest_of (imprint_kind stamped.token) stamped.octets) stamped.token answer.soundness other.soundness is.soundness also.soundness in
    let accepted = told_once _ answer.accepted other.accepted is.accepted also.accepted in
    (λ i. record { soundness = sound i; accepted = accepted i })

tokens_once : (policy : Rules) (evidence : Evidence) (case : Case) (times : List ℤ) (shown : List Stamped) (answers others : List TokenAnswer) → AreTokenAnswers policy evidence case times shown answers
    → AreTokenAnswers policy evidence case times shown others → answers ≡ others
tokens_once policy evidence case times [] [] [] are also = refl
tokens_once policy evidence case times [] (answer ∷ answers) others are also = absurd are
tokens_once policy evidence case times [] [] (other ∷ others) are also = absurd also
tokens_once policy evidence case times (stamped ∷ shown) [] others are also = absurd are
tokens_once policy evidence case times (stamped ∷ shown) (answer ∷ answers) [] are also = absurd also
tokens_once policy evidence case times (stamped ∷ shown) (answer ∷ answers) (other ∷ others) are also =
    let first = token_once policy evidence case times stamped answer other are.0 also.0 in
    let rest = tokens_once policy evidence case times shown answers others are.1 also.1 in
    (λ i. first i ∷ rest i)

-- the answers under one list of times
answers_once : (policy : Rules) (evidence : Evidence) (case : Case) (now : ℤ) (times : List ℤ) (answers others : Answers) → AreAnswers policy evidence case now times answers
    → AreAnswers policy evidence case now times others → answers ≡ others
answers_once policy evidence case now times answers others are also =
    let references = accepted_once policy times evidence.references answers.references others.references are.references also.references in
    let certificate = told_once _ answers.certificate others.certificate are.certificate also.certificate in
    let good = told_once _ answers.good others.good are.good also.good in
    let keyed = told_once _ answers.keyed others.keyed are.keyed also.keyed in
    let kind = told_once _ answers.kind others.kind are.kind also.kind in
    let walk = told_once _ answers.walk others.walk are.walk also.walk in
    let tokens = tokens_once policy evidence case times evidence.stamps answers.tokens others.tokens are.tokens also.tokens in
    let in_order = told_once _ answers.in_order others.in_order are.in_order also.in_order in
    let complete = told_once _ answers.complete others.complete are.complete also.complete in
    (λ i. record {
      references = references i;
      certificate = certificate i;
      good = good i;
      keyed = keyed i;
      kind = kind i;
      walk = walk i;
      tokens = tokens i;
      in_order = in_order i;
      complete = complete i;
    })

pub answers_are_one : AnswersAreOne
answers_are_one policy evidence case now times more answers others are also =
    let same = earliest_once policy case now times more are.earliest also.earliest in
    (same, answers_once policy evidence case now more answers others (subst (λ ts. AreAnswers policy evidence case now ts answers) same are) also)
