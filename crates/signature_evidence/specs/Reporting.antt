-- The report on a document, by what is found of its signature; and the law that its first line tells the verdict. This project's own.
use Rattle.std.specs.Prelude.{◌≡◌, ◌↔◌, ℕ, Bool, List, ◌++◌, take, codes, decimal, ℤ}
use Rattle.policy_rules.specs.Rules.{Rules}
use Rattle.document_model.specs.Tree.{Nodes}
use Rattle.signature_model.specs.Parts.{DatumKind}
use Rattle.signature_model.specs.Readable.{Answer, Read, NoSignature, Several, Shape, Include, PropertyData}
use Rattle.signature_model.specs.Chains.{Handed, Fault, TargetMissing, TargetTwice, NoChain, DigestName, NotHandedIn, NotBase64}
use Rattle.acceptance.specs.Verdict.{Case}
use Rattle.signature_objects.specs.Objects.{Object}
use Rattle.signature_evidence.specs.Evidence.{Evidence}
use Rattle.signature_evidence.specs.Cases.{IsCaseOf}
use Rattle.signature_evidence.specs.Judging.{Judged, IsUnread, HasBadReference, IsUnsigned, IsTooLarge, Shows, judged, IsYesBy}
use Rattle.signature_evidence.specs.Answers.{Answers, AreAnswers}
use Rattle.signature_evidence.specs.Report.{Clock, report, fault_report}
use Rattle.signature_evidence.specs.Renewal.{IsInRange, HasNoTokens}

-- The numbers of the codes of faults.

abbrev pub answer_number : Answer → ℕ
answer_number (Read signature) = 0
answer_number NoSignature = 1
answer_number Several = 2
answer_number (Shape place what) = 3
answer_number (Include place) = 4
answer_number (PropertyData place) = 5

abbrev pub fault_number : Fault → ℕ
fault_number (TargetMissing k) = 6
fault_number (TargetTwice k) = 7
fault_number (NoChain k) = 8
fault_number (DigestName k) = 9
fault_number (NotHandedIn k) = 10
fault_number (NotBase64 k at) = 11

abbrev pub code : ℕ → List ℕ
code number = codes "A" ++ decimal number

-- the text reports on what a signature shows, by answers that are right
pub record IsReportOf (clock : Clock) (policy : Rules) (evidence : Evidence) (now : ℤ) (text : List ℕ) : Type 0 where
  pub case : Case
  pub is_case : IsCaseOf policy evidence case
  pub times : List ℤ
  pub answers : Answers
  pub are : AreAnswers policy evidence case now times answers
  pub is : text ≡ report clock policy evidence now times answers

abbrev pub IsReportOn : Clock → Rules → Judged → ℤ → List ℕ → Type 0
IsReportOn clock policy (IsUnread found) now text = text ≡ fault_report clock now (code (answer_number found))
IsReportOn clock policy (HasBadReference found) now text = text ≡ fault_report clock now (code (fault_number found))
IsReportOn clock policy IsUnsigned now text = text ≡ fault_report clock now (code 14)
IsReportOn clock policy IsTooLarge now text = text ≡ fault_report clock now (code 28)
IsReportOn clock policy (Shows evidence) now text = IsReportOf clock policy evidence now text

-- The law: the first line is `verdict: yes` exactly where the verdict on the document is yes.
abbrev pub SaysYes : List ℕ → Type 0
SaysYes text = take 13 text ≡ codes "verdict: yes\n"

-- what is shown is in range
abbrev pub IsInRangeBy : Judged → Type 0
IsInRangeBy (IsUnread found) = Unit {0}
IsInRangeBy (HasBadReference found) = Unit {0}
IsInRangeBy IsUnsigned = Unit {0}
IsInRangeBy IsTooLarge = Unit {0}
IsInRangeBy (Shows evidence) = IsInRange evidence

abbrev pub ReportsTellTheVerdict : Type 0
ReportsTellTheVerdict = (is_whole : DatumKind → List ℕ → Bool) (handed : Handed) (document : Nodes) (more : List Object)
    → (clock : Clock) (policy : Rules) (now : ℤ) (text : List ℕ) → HasNoTokens more
    → IsReportOn clock policy (judged is_whole handed document more) now text → (SaysYes text ↔ IsYesBy policy (judged is_whole handed document more) now)
