-- The verdict of what is said is that of what is shown.
use Rattle.std.proofs.Common.{◌≡◌, ◌↔◌, Bool, List, length, ℤ, IsTrue, sym, ◌∙◌, subst}
use Rattle.policy_rules.specs.Rules.{Rules}
use Rattle.acceptance.specs.Verdict.{Case, IsYes}
use Rattle.signature_evidence.specs.Answers.{Answers, AreAnswers}
use Rattle.signature_evidence.specs.Answers as answered
use Rattle.signature_evidence.specs.Cases.{IsCaseOf, IsYesOf}
use Rattle.signature_evidence.specs.Evidence.{Evidence}
use Rattle.signature_evidence.specs.Renewal.{IsInRange}
use Rattle.signature_evidence.proofs.Answered.{answers_make_the_verdict}
use Rattle.signature_evidence.proofs.Renewed.{cases_agree}
use Rattle.report_texts.proofs.Reported.{answers_are_matched, verdict_is_said}
use Rattle.report_texts.specs.Facts.{is_yes}
use Rattle.report_texts.specs.Shown.{facts_of}

pub yes_is : (policy : Rules) (evidence : Evidence) (case : Case) (now : ℤ) (times : List ℤ) (answers : Answers) (verdict : Bool) → IsInRange evidence
    → length evidence.computed ≡ length evidence.references → IsCaseOf policy evidence case → AreAnswers policy evidence case now times answers
    → verdict ≡ is_yes (facts_of policy evidence now times answers) → (IsTrue verdict ↔ IsYesOf policy evidence now)
yes_is policy evidence case now times answers verdict range computed is_case are said =
    let same : verdict ≡ answered.is_yes evidence answers = said ∙ verdict_is_said policy evidence now times answers (answers_are_matched policy evidence case now times answers computed are) in
    let both = answers_make_the_verdict policy evidence case now times answers is_case are in (
      λ true_is. record { case = case; is_case = is_case; yes = both.0 (subst IsTrue same true_is) },
      λ yes_of. subst IsTrue (sym same)
          (both.1 (subst (λ (one : Case). IsYes policy one now) (cases_agree policy evidence case yes_of.case range is_case yes_of.is_case) yes_of.yes)),
    )
