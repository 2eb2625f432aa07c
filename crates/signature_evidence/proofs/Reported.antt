-- The report's first line tells the verdict.
use Rattle.std.proofs.Common.{◌≡◌, ℕ, Bool, true, false, cond, List, [], ◌∷◌, ◌++◌, Option, Some, None, arith, refl, sym, ap, subst, ℤ, ◌↔◌, codes}
use Rattle.std.specs.Prelude.{slice_index, nat_le}
use Rattle.document_model.specs.Tree.{Nodes}
use Rattle.policy_rules.specs.Rules.{Rules}
use Rattle.signature_model.specs.Spots.{Spot}
use Rattle.signature_model.specs.Parts.{references, is_signed}
use Rattle.signature_model.specs.Readable.{Answer, Read, NoSignature, Several, Shape, Include, PropertyData, answer}
use Rattle.signature_model.specs.Chains.{Handed, Fault, fault}
use Rattle.acceptance.specs.Verdict.{IsYes}
use Rattle.signature_objects.specs.Objects.{Object}
use Rattle.signature_evidence.specs.Evidence.{Evidence, evidence_of}
use Rattle.signature_evidence.specs.Cases.{IsYesOf}
use Rattle.signature_evidence.specs.Judging.{Judged, IsUnread, HasBadReference, IsUnsigned, IsTooLarge, Shows, unless_large, unless_unsigned, unless_bad, by_answer, judged, IsYesBy}
use Rattle.signature_objects.specs.Objects.{most_objects, limited}
use Rattle.signature_evidence.specs.Answers.{is_yes}
use Rattle.signature_evidence.specs.Renewal.{IsInRange, HasNoTokens}
use Rattle.signature_evidence.specs.Report.{Clock, line, verdict_word, report_rest, fault_report}
use Rattle.signature_evidence.specs.Reporting.{answer_number, fault_number, code, IsReportOf, IsReportOn, SaysYes, IsInRangeBy, ReportsTellTheVerdict}
use Rattle.signature_evidence.proofs.Answered.{answers_make_the_verdict}
use Rattle.signature_evidence.proofs.InRange.{evidence_is_in_range}
use Rattle.signature_evidence.proofs.Renewed.{cases_agree}

-- a first line that says no
not_yes : (rest : List ℕ) → SaysYes (codes "verdict: no\n" ++ rest) → ⊥
not_yes rest e = let n : 0x6E ≡ 0x79 = ap (λ (xs : List ℕ). slice_index xs 9) e in absurd (omega (arith, n))

said : (rest : List ℕ) (b : Bool) → (SaysYes (line (codes "verdict:" ∷ verdict_word b ∷ []) ++ rest) ↔ (b ≡ true))
said rest true = (λ e. refl, λ e. refl)
said rest false = (λ e. absurd (not_yes rest e), λ e. absurd (false_true e))
  where
    false_true : false ≡ true → ⊥
    false_true e = let T : Bool → Type 0 = λ b. cond b ⊥ (Unit {0}) in subst T e tt

no_report : (clock : Clock) (now : ℤ) (word text : List ℕ) → text ≡ fault_report clock now word → SaysYes text → ⊥
no_report clock now word text is e = not_yes (line (codes "moment:" ∷ clock now ∷ []) ++ line (codes "fault:" ∷ word ∷ [])) (subst SaysYes is e)

shown_tells : (clock : Clock) (policy : Rules) (evidence : Evidence) (now : ℤ) (text : List ℕ) → IsInRange evidence → IsReportOf clock policy evidence now text
    → (SaysYes text ↔ IsYesOf policy evidence now)
shown_tells clock policy evidence now text range r =
    let made = answers_make_the_verdict policy evidence r.case now r.times r.answers r.is_case r.are in
    let first = said (report_rest clock policy evidence now r.times r.answers) (is_yes evidence r.answers) in (
      λ e. record { case = r.case; is_case = r.is_case; yes = made.0 (first.0 (subst SaysYes r.is e)) },
      λ y. subst SaysYes (sym r.is) (first.1 (made.1 (subst (λ c. IsYes policy c now) (cases_agree policy evidence r.case y.case range r.is_case y.is_case) y.yes))),
    )

tells : (clock : Clock) (policy : Rules) (found : Judged) (now : ℤ) (text : List ℕ) → IsInRangeBy found → IsReportOn clock policy found now text → (SaysYes text ↔ IsYesBy policy found now)
tells clock policy (IsUnread answer) now text range r = (no_report clock now (code (answer_number answer)) text r, λ y. absurd y)
tells clock policy (HasBadReference fault) now text range r = (no_report clock now (code (fault_number fault)) text r, λ y. absurd y)
tells clock policy IsUnsigned now text range r = (no_report clock now (code 14) text r, λ y. absurd y)
tells clock policy IsTooLarge now text range r = (no_report clock now (code 28) text r, λ y. absurd y)
tells clock policy (Shows evidence) now text range r = shown_tells clock policy evidence now text range r

-- What a document shows is in range.

large_in_range : (evidence : Evidence) → IsInRange evidence → IsInRangeBy (unless_large evidence)
large_in_range evidence range = by_bool (nat_le (limited evidence.objects) most_objects)
  where
    by_bool : (b : Bool) → IsInRangeBy (cond b (Shows evidence) IsTooLarge)
    by_bool true = range
    by_bool false = tt

unsigned_in_range : (handed : Handed) (document : Nodes) (signature : Spot) (more : List Object) → HasNoTokens more → (b : Bool) → IsInRangeBy (unless_unsigned handed document signature more b)
unsigned_in_range handed document signature more none true = large_in_range (evidence_of handed document signature more) (evidence_is_in_range handed document signature more none)
unsigned_in_range handed document signature more none false = tt

bad_in_range : (handed : Handed) (document : Nodes) (signature : Spot) (more : List Object) → HasNoTokens more → (o : Option Fault) → IsInRangeBy (unless_bad handed document signature more o)
bad_in_range handed document signature more none (Some found) = tt
bad_in_range handed document signature more none None = unsigned_in_range handed document signature more none (is_signed document signature)

answer_in_range : (handed : Handed) (document : Nodes) (more : List Object) → HasNoTokens more → (a : Answer) → IsInRangeBy (by_answer handed document more a)
answer_in_range handed document more none NoSignature = tt
answer_in_range handed document more none Several = tt
answer_in_range handed document more none (Shape place what) = tt
answer_in_range handed document more none (Include place) = tt
answer_in_range handed document more none (PropertyData place) = tt
answer_in_range handed document more none (Read signature) = bad_in_range handed document signature more none (fault handed document signature.path (references document signature))

pub reports_tell_the_verdict : ReportsTellTheVerdict
reports_tell_the_verdict is_whole handed document more clock policy now text none r =
    tells clock policy (judged is_whole handed document more) now text (answer_in_range handed document more none (answer is_whole document)) r
