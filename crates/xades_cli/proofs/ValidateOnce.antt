-- At most one outcome fits what `validate` comes to.
use Rattle.std.proofs.Common.{◌≡◌, ℕ, List, [], ◌∷◌, refl, sym, ap, ◌∙◌, ⊎_elim, ℤ}
use Rattle.std.specs.List.{filter}
use Rattle.std.specs.Prelude.{Result, Ok, Err}
use Rattle.document_model.specs.Documents.{document_of}
use Rattle.item_contents.specs.Materials.{IsBadAt, is_list}
use Rattle.item_contents.proofs.OneMaterial.{material_is_one}
use Rattle.one_report.proofs.OneAnswer.{told_once}
use Rattle.one_report.proofs.OneReport.{one_report_fits}
use Rattle.policy_rules.specs.Faults as policies
use Rattle.policy_rules.specs.Rules.{Rules}
use Rattle.qualifying_props.specs.Whole.{is_whole}
use Rattle.signature_cases.specs.Handed.{IsMaterial}
use Rattle.signature_evidence.specs.Judging.{IsYesBy}
use Rattle.signature_evidence.specs.Material.{material_of}
use Rattle.signature_evidence.proofs.Material.{material_has_no_tokens}
use Rattle.time_texts.specs.Clock.{clock}
use Rattle.whole_files.specs.Wants as files
use Rattle.whole_files.specs.Wants.{Held}
use Rattle.x509_certs.specs.Data.{begins_with_0}
use Rattle.xades_cli.specs.Handing.{handed_by}
use Rattle.xades_cli.specs.Outcomes.{Outcome, Writes, Reports, RefusesDocument, RefusesPolicy, RefusesData, RefusesItem}
use Rattle.xades_cli.specs.Validate.{AreWhole, IsBad, IsFirstBad, IsReportedBy, IsVerdictOutcome, IsWhole, found_of, more_of}
use Rattle.xades_cli.proofs.AttachOnce.{no_fault}

-- whole certificates and revocation lists have no bad element
never_bad : (bytes : List ℕ) (at : ℕ) → IsMaterial bytes → IsBadAt bytes at → ⊥
never_bad bytes at is bad = (material_is_one bytes).2 (filter begins_with_0 is.parts) (filter is_list is.parts) at (record {
  parts = is.parts;
  whole = is.whole;
  joined = is.joined;
  certificates_are = refl;
  lists_are = refl;
}) bad

not_both : (file : Held) (name : List ℕ) (at : ℕ) → IsBad file name at → IsWhole file → ⊥
not_both file name at bad whole = never_bad file.bytes at (whole bad.more) bad.bad

none_bad : (held : List Held) (name : List ℕ) (at : ℕ) → AreWhole held → IsFirstBad held name at → ⊥
none_bad [] name at whole first = first
none_bad (file ∷ held) name at whole first = ⊎_elim (λ bad. not_both file name at bad whole.0) (λ later. none_bad held name at whole.1 later.1) first

bad_once : (held : List Held) (name other : List ℕ) (at place : ℕ) → IsFirstBad held name at → IsFirstBad held other place → (name ≡ other) × (at ≡ place)
bad_once [] name other at place first also = absurd first
bad_once (file ∷ held) name other at place first also =
    ⊎_elim
    (λ bad. ⊎_elim (λ again. (bad.named ∙ sym again.named, (material_is_one file.bytes).1 at place bad.bad again.bad)) (λ later. absurd (not_both file name at bad later.0)) also)
    (λ later. ⊎_elim (λ bad. absurd (not_both file other place bad later.0)) (λ again. bad_once held name other at place later.1 again.1) also)
    first

verdict_once : (rules : Rules) (now : ℤ) (held : List Held) (one two : Outcome) → IsVerdictOutcome rules now held one → IsVerdictOutcome rules now held two → one ≡ two
verdict_once rules now held (Reports verdict text) (Reports other also) is again =
    let same = told_once (IsYesBy rules (found_of held) now) verdict other is.1.2 again.1.2 in
    let texts = one_report_fits is_whole (handed_by held) (document_of (files.document_of held)) (material_of (more_of held)) (material_has_no_tokens (more_of held)) clock rules now text also is.1.1 again.1.1 in
    (λ i. Reports (same i) (texts i))
verdict_once rules now held (Reports verdict text) (RefusesDocument document) is again = absurd (no_fault _ is.1.0 again.1)
verdict_once rules now held (Reports verdict text) (RefusesData name at) is again = absurd (none_bad held name at is.0 again.1)
verdict_once rules now held (RefusesDocument document) (Reports verdict text) is again = absurd (no_fault _ again.1.0 is.1)
verdict_once rules now held (RefusesDocument document) (RefusesDocument other) is again = ap RefusesDocument (is.0 ∙ sym again.0)
verdict_once rules now held (RefusesDocument document) (RefusesData name at) is again = absurd (no_fault _ again.0 is.1)
verdict_once rules now held (RefusesData name at) (Reports verdict text) is again = absurd (none_bad held name at again.0 is.1)
verdict_once rules now held (RefusesData name at) (RefusesDocument document) is again = absurd (no_fault _ is.0 again.1)
verdict_once rules now held (RefusesData name at) (RefusesData other place) is again =
    let same = bad_once held name other at place is.1 again.1 in
    (λ i. RefusesData (same.0 i) (same.1 i))
verdict_once rules now held (Writes bytes) two is again = absurd is
verdict_once rules now held (RefusesPolicy fault) two is again = absurd is
verdict_once rules now held (RefusesItem item code) two is again = absurd is
verdict_once rules now held one (Writes bytes) is again = absurd again
verdict_once rules now held one (RefusesPolicy fault) is again = absurd again
verdict_once rules now held one (RefusesItem item code) is again = absurd again

pub validates_once : (policy : Result Rules policies.Fault) (now : ℤ) (held : List Held) (one two : Outcome) → IsReportedBy policy now held one → IsReportedBy policy now held two → one ≡ two
validates_once (Err fault) now held one two is again = is ∙ sym again
validates_once (Ok rules) now held one two is again = verdict_once rules now held one two is again
