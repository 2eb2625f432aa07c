-- Reports on what can't be judged, and on what is.
use Rattle.std.proofs.Common.{◌≡◌, ℕ, true, false, List, sym, ap, ◌∙◌, subst, if◌then◌else◌, ℤ}
use Rattle.std.specs.Prelude.{IfOk, Option, Result, Ok, Err, nat_le}
use Rattle.document_model.specs.Tree.{Nodes}
use Rattle.policy_rules.specs.Rules.{Rules}
use Rattle.signature_evidence.specs.Evidence.{Evidence}
use Rattle.signature_evidence.specs.Judging.{Judged, Shows, IsTooLarge, IsYesBy, by_answer, unless_bad, unless_large}
use Rattle.signature_evidence.specs.Report.{fault_report}
use Rattle.signature_evidence.specs.Reporting.{IsReportOn, code}
use Rattle.signature_evidence.proofs.Numbers.{not_both}
use Rattle.signature_model.specs.Chains.{Fault, Handed}
use Rattle.signature_model.specs.Readable.{Answer, Read, NoSignature, Several, Shape, Include, PropertyData}
use Rattle.signature_model.specs.Spots.{Spot}
use Rattle.signature_objects.specs.Objects.{Object, limited, most_objects}
use Rattle.time_texts.specs.Clock.{clock}
use Rattle.xa_io.specs.declared.octs.OutOfMemory.{OutOfMemory}
use Rattle.xades_validator.specs.Numbers.{IsAnswerNumber, IsNumberOf}
use Rattle.xades_validator.specs.Reported.{IsReported}
use Rattle.xades_validator.specs.declared.reports.Report.{Report}

-- The report on a fault is right where that fault was found, and says no.
pub fault_reported : (rules : Rules) (found : Judged) (now : ℤ) (number : ℕ) (result : Result Report OutOfMemory)
    → ((text : List ℕ) → text ≡ fault_report clock now (code number) → IsReportOn clock rules found now text) → (IsYesBy rules found now → ⊥)
    → IfOk result (λ report. report.text ≡ fault_report clock now (code number)) → IfOk result (λ report. report.yes ≡ false) → IfOk result (IsReported rules found now)
fault_reported rules found now number (Ok report) fits never text says = record {
  text = fits report.text text;
  verdict = ((λ t. absurd (not_both (sym t ∙ says))), (λ p. absurd (never p)));
}
fault_reported rules found now number (Err why) fits never text says = tt

-- A signature that isn't read.

pub unread_text : (rules : Rules) (handed : Handed) (document : Nodes) (more : List Object) (now : ℤ) (found : Answer) (number : ℕ) → IsAnswerNumber found number → (text : List ℕ)
    → text ≡ fault_report clock now (code number) → IsReportOn clock rules (by_answer handed document more found) now text
unread_text rules handed document more now NoSignature number is text e = e ∙ ap (λ n. fault_report clock now (code n)) is
unread_text rules handed document more now Several number is text e = e ∙ ap (λ n. fault_report clock now (code n)) is
unread_text rules handed document more now (Shape path what) number is text e = e ∙ ap (λ n. fault_report clock now (code n)) is
unread_text rules handed document more now (Include path) number is text e = e ∙ ap (λ n. fault_report clock now (code n)) is
unread_text rules handed document more now (PropertyData path) number is text e = e ∙ ap (λ n. fault_report clock now (code n)) is
unread_text rules handed document more now (Read signature) number is text e = absurd is

pub unread_never : (rules : Rules) (handed : Handed) (document : Nodes) (more : List Object) (now : ℤ) (found : Answer) (number : ℕ) → IsAnswerNumber found number
    → IsYesBy rules (by_answer handed document more found) now → ⊥
unread_never rules handed document more now NoSignature number is holds = holds
unread_never rules handed document more now Several number is holds = holds
unread_never rules handed document more now (Shape path what) number is holds = holds
unread_never rules handed document more now (Include path) number is holds = holds
unread_never rules handed document more now (PropertyData path) number is holds = holds
unread_never rules handed document more now (Read signature) number is holds = is

-- References that have a fault.

pub bad_text : (rules : Rules) (handed : Handed) (document : Nodes) (signature : Spot) (more : List Object) (now : ℤ) (found : Option Fault) (number : ℕ) → IsNumberOf found number → (text : List ℕ)
    → text ≡ fault_report clock now (code number) → IsReportOn clock rules (unless_bad handed document signature more found) now text
bad_text rules handed document signature more now found number is text e =
    subst (λ f. IsReportOn clock rules (unless_bad handed document signature more f) now text) (sym is.1) (e ∙ ap (λ n. fault_report clock now (code n)) is.2)

pub bad_never : (rules : Rules) (handed : Handed) (document : Nodes) (signature : Spot) (more : List Object) (now : ℤ) (found : Option Fault) (number : ℕ) → IsNumberOf found number
    → IsYesBy rules (unless_bad handed document signature more found) now → ⊥
bad_never rules handed document signature more now found number is holds =
    subst (λ f. IsYesBy rules (unless_bad handed document signature more f) now) is.1 holds

-- What is shown isn't too large.
pub shown_reported : (rules : Rules) (evidence : Evidence) (now : ℤ) (report : Report) → nat_le (limited evidence.objects) most_objects ≡ true → IsReported rules (Shows evidence) now report
    → IsReported rules (unless_large evidence) now report
shown_reported rules evidence now report few is = subst (λ b. IsReported rules (if b then Shows evidence else IsTooLarge) now report) (sym few) is
