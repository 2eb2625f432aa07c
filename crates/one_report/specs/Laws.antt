-- The laws that right answers, and the report that they make, are one. This project's own, over XML Signature 1.1, "Core Validation".
use Rattle.std.specs.Prelude.{◌≡◌, ℕ, List, ℤ}
use Rattle.acceptance.specs.Verdict.{Case}
use Rattle.policy_rules.specs.Rules.{Rules}
use Rattle.document_model.specs.Tree.{Nodes}
use Rattle.signature_evidence.specs.Answers.{Answers, AreAnswers}
use Rattle.signature_evidence.specs.Evidence.{Evidence}
use Rattle.signature_evidence.specs.Judging.{judged}
use Rattle.signature_evidence.specs.Renewal.{HasNoTokens}
use Rattle.signature_evidence.specs.Report.{Clock}
use Rattle.signature_evidence.specs.Reporting.{IsReportOn}
use Rattle.signature_model.specs.Chains.{Handed}
use Rattle.signature_model.specs.Parts.{DatumKind}
use Rattle.signature_objects.specs.Objects.{Object}
use Rattle.std.specs.Prelude.{Bool}

abbrev pub AnswersAreOne : Type 0
AnswersAreOne = (policy : Rules) (evidence : Evidence) (case : Case) (now : ℤ) (times more : List ℤ) (answers others : Answers)
    → AreAnswers policy evidence case now times answers → AreAnswers policy evidence case now more others → (times ≡ more) × (answers ≡ others)

-- no token is among the certificates and revocation lists that are handed in
abbrev pub OneReportFits : Type 0
OneReportFits = (is_whole : DatumKind → List ℕ → Bool) (handed : Handed) (document : Nodes) (more : List Object) → HasNoTokens more
    → (clock : Clock) (policy : Rules) (now : ℤ) (text other : List ℕ)
    → IsReportOn clock policy (judged is_whole handed document more) now text → IsReportOn clock policy (judged is_whole handed document more) now other → text ≡ other
