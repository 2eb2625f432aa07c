-- The report is one.
use Rattle.std.proofs.Common.{◌≡◌, ℕ, Bool, true, false, List, sym, ◌∙◌, subst, ℤ}
use Rattle.std.specs.Prelude.{Option, Some, None, nat_le, if◌then◌else◌}
use Rattle.document_model.specs.Tree.{Nodes}
use Rattle.policy_rules.specs.Rules.{Rules}
use Rattle.signature_model.specs.Chains as chains
use Rattle.signature_model.specs.Chains.{Handed}
use Rattle.signature_model.specs.Parts.{is_signed, references}
use Rattle.signature_model.specs.Readable.{Answer, Read, NoSignature, Several, Shape, Include, PropertyData, answer}
use Rattle.signature_model.specs.Spots.{Spot}
use Rattle.signature_objects.specs.Objects.{Object, limited, most_objects}
use Rattle.signature_evidence.specs.Answers.{AreAnswers}
use Rattle.signature_evidence.specs.Evidence.{Evidence, evidence_of}
use Rattle.signature_evidence.specs.Judging.{Judged, Shows, IsTooLarge, by_answer, unless_bad, unless_unsigned}
use Rattle.signature_evidence.specs.Renewal.{HasNoTokens, IsInRange}
use Rattle.signature_evidence.specs.Report.{Clock, report}
use Rattle.signature_evidence.specs.Reporting.{IsReportOf, IsReportOn}
use Rattle.signature_evidence.proofs.InRange.{evidence_is_in_range}
use Rattle.signature_evidence.proofs.Renewed.{cases_agree}
use Rattle.one_report.specs.Laws.{OneReportFits}
use Rattle.one_report.proofs.OneAnswer.{answers_are_one}

report_once : (clock : Clock) (policy : Rules) (evidence : Evidence) (now : ℤ) (text other : List ℕ) → IsInRange evidence → IsReportOf clock policy evidence now text
    → IsReportOf clock policy evidence now other → text ≡ other
report_once clock policy evidence now text other within is also =
    let same = cases_agree policy evidence is.case also.case within is.is_case also.is_case in
    let one = answers_are_one policy evidence is.case now is.times also.times is.answers also.answers is.are (subst (λ case. AreAnswers policy evidence case now also.times also.answers) same also.are) in
    is.is ∙ (λ i. report clock policy evidence now (one.0 i) (one.1 i)) ∙ sym also.is

-- Two texts on one finding.
abbrev AreOne : Clock → Rules → ℤ → Judged → Type 0
AreOne clock policy now found = (text other : List ℕ) → IsReportOn clock policy found now text → IsReportOn clock policy found now other → text ≡ other

large : (clock : Clock) (policy : Rules) (now : ℤ) (evidence : Evidence) (few : Bool) → IsInRange evidence → AreOne clock policy now (if few then Shows evidence else IsTooLarge)
large clock policy now evidence true within = λ text other is also. report_once clock policy evidence now text other within is also
large clock policy now evidence false within = λ text other is also. is ∙ sym also

unsigned : (clock : Clock) (policy : Rules) (now : ℤ) (handed : Handed) (document : Nodes) (signature : Spot) (more : List Object) → HasNoTokens more → (signed : Bool)
    → AreOne clock policy now (unless_unsigned handed document signature more signed)
unsigned clock policy now handed document signature more none false = λ text other is also. is ∙ sym also
unsigned clock policy now handed document signature more none true =
    large clock policy now (evidence_of handed document signature more) (nat_le (limited (evidence_of handed document signature more).objects) most_objects) (evidence_is_in_range handed document signature more none)

bad : (clock : Clock) (policy : Rules) (now : ℤ) (handed : Handed) (document : Nodes) (signature : Spot) (more : List Object) → HasNoTokens more → (found : Option chains.Fault)
    → AreOne clock policy now (unless_bad handed document signature more found)
bad clock policy now handed document signature more none (Some fault) = λ text other is also. is ∙ sym also
bad clock policy now handed document signature more none None = unsigned clock policy now handed document signature more none (is_signed document signature)

read_by : (clock : Clock) (policy : Rules) (now : ℤ) (handed : Handed) (document : Nodes) (more : List Object) → HasNoTokens more → (found : Answer) → AreOne clock policy now (by_answer handed document more found)
read_by clock policy now handed document more none NoSignature = λ text other is also. is ∙ sym also
read_by clock policy now handed document more none Several = λ text other is also. is ∙ sym also
read_by clock policy now handed document more none (Shape place what) = λ text other is also. is ∙ sym also
read_by clock policy now handed document more none (Include place) = λ text other is also. is ∙ sym also
read_by clock policy now handed document more none (PropertyData place) = λ text other is also. is ∙ sym also
read_by clock policy now handed document more none (Read signature) =
    bad clock policy now handed document signature more none (chains.fault handed document signature.path (references document signature))

pub one_report_fits : OneReportFits
one_report_fits is_whole handed document more none clock policy now text other is also =
    read_by clock policy now handed document more none (answer is_whole document) text other is also
