-- An archive time-stamp that a signature takes keeps its verdict.
use Rattle.std.proofs.Common.{◌≡◌, ℕ, Bool, true, false, cond, List, [], Option, Some, None, refl, sym, ◌∙◌, ap, subst, ℤ}
use Rattle.std.specs.Prelude.{nat_le}
use Rattle.base64.specs.GeneralPurpose.{IsBytes}
use Rattle.document_model.specs.Tree.{Nodes}
use Rattle.policy_rules.specs.Rules.{Rules}
use Rattle.signature_model.specs.Spots.{Spot}
use Rattle.signature_model.specs.Parts.{DatumKind, ArchiveStamp, references, host, is_signed}
use Rattle.signature_model.specs.Readable.{answer, Read}
use Rattle.signature_model.specs.Chains.{Handed, Fault, fault}
use Rattle.signature_model.specs.Octets.{next_octets}
use Rattle.signature_model.specs.Fragments.{Archive, content_of, with_item}
use Rattle.signature_model.specs.Keeping.{TakesItem}
use Rattle.signature_model.proofs.ItemKept.{put_at}
use Rattle.signature_model.proofs.Plain.{content_plain}
use Rattle.signature_model.proofs.ReadTakes.{read_takes_item}
use Rattle.signature_model.proofs.PropertyKept.{signed_stays}
use Rattle.covered_items.proofs.StampsAdded.{new_archive}
use Rattle.attached_items.proofs.AllItems.{item_is_read_again}
use Rattle.acceptance.specs.Objects.{token_of}
use Rattle.acceptance.specs.Stamping.{proof_time}
use Rattle.signature_objects.specs.Held.{objects}
use Rattle.signature_evidence.specs.Evidence.{Evidence, evidence_of}
use Rattle.signature_evidence.specs.Cases.{IsYesOf}
use Rattle.signature_objects.specs.Objects.{most_objects, limited}
use Rattle.signature_evidence.specs.Judging.{Judged, Shows, IsTooLarge, unless_large, unless_unsigned, unless_bad, by_answer, judged, IsYesBy}
use Rattle.signature_evidence.specs.Renewal.{with_archive, IsAcceptedOf}
use Rattle.signature_evidence.proofs.InRange.{evidence_is_in_range}
use Rattle.signature_evidence.proofs.Renewed.{renewal_keeps_yes_of}
use Rattle.renewed_documents.specs.Renewing.{RenewalKeepsYesOfDocuments}
use Rattle.renewed_documents.proofs.Grown.{archive_is_shown}
use Rattle.renewed_documents.proofs.FaultsStay.{faults_stay}

-- What a yes tells of a document.

yes_by_size : (policy : Rules) (evidence : Evidence) (now : ℤ) → IsYesBy policy (unless_large evidence) now → IsYesOf policy evidence now
yes_by_size policy evidence now y = by_bool (nat_le (limited evidence.objects) most_objects) y
  where
    by_bool : (b : Bool) → IsYesBy policy (cond b (Shows evidence) IsTooLarge) now → IsYesOf policy evidence now
    by_bool true y = y
    by_bool false y = absurd y

yes_without_fault : (policy : Rules) (handed : Handed) (document : Nodes) (signature : Spot) (now : ℤ) (o : Option Fault) → is_signed document signature ≡ true
    → IsYesBy policy (unless_bad handed document signature [] o) now → (o ≡ None) × IsYesOf policy (evidence_of handed document signature []) now
yes_without_fault policy handed document signature now (Some found) signed y = absurd y
yes_without_fault policy handed document signature now None signed y = (
  refl,
  yes_by_size policy (evidence_of handed document signature []) now
      (subst (λ (b : Bool). IsYesBy policy (unless_unsigned handed document signature [] b) now) signed y),
)

-- A document against whose judgement nothing stands.
shows : (is_whole : DatumKind → List ℕ → Bool) (handed : Handed) (document : Nodes) (signature : Spot) → answer is_whole document ≡ Read signature
    → fault handed document signature.path (references document signature) ≡ None → is_signed document signature ≡ true
    → nat_le (limited (objects document signature [])) most_objects ≡ true → judged is_whole handed document [] ≡ Shows (evidence_of handed document signature [])
shows is_whole handed document signature read fine signed few =
    ap (by_answer handed document []) read ∙ ap (unless_bad handed document signature []) fine ∙ ap (unless_unsigned handed document signature []) signed
    ∙ ap (λ b. cond b (Shows (evidence_of handed document signature [])) IsTooLarge) few

-- what stays beside what is shown
pub record Stays (handed : Handed) (document new : Nodes) (signature : Spot) : Type 0 where
  pub faults : fault handed new signature.path (references new signature) ≡ fault handed document signature.path (references document signature)
  pub signed : is_signed new signature ≡ is_signed document signature

stays : (handed : Handed) (document : Nodes) (signature : Spot) (token : List ℕ) → IsBytes token → TakesItem document signature (Archive token)
    → Stays handed document (with_item document signature (Archive token)) signature
stays handed document signature token b t =
    let content : Nodes = content_of document signature (Archive token) in
    let place : Spot = t.property_place.0 in
    let n = new_archive document content signature place token b refl t.is_signature t.property_place.1 t.free (content_plain document signature (Archive token)) in
    subst (λ (new : Nodes). Stays handed document new signature) (put_at document content (host document signature) place t.property_place.1)
    (record {
      faults = faults_stay handed document content signature place n.one.host_name n.one.setting n.one.apart;
      signed = signed_stays document content signature place n.one.host_name n.one.setting;
    })

pub renewal_keeps_yes_of_documents : RenewalKeepsYesOfDocuments
renewal_keeps_yes_of_documents is_whole policy handed document signature token now r was after accepted =
    let new : Nodes = with_item document signature (Archive token) in
    let old : Evidence = evidence_of handed document signature [] in
    let takes : TakesItem document signature (Archive token) = read_takes_item is_whole document signature (Archive token) r.read r.free r.signed in
    let before = yes_without_fault policy handed document signature (proof_time policy (token_of token)) (fault handed document signature.path (references document signature)) r.signed
    (subst (λ a. IsYesBy policy (by_answer handed document [] a) (proof_time policy (token_of token))) r.read was) in
    let shown = archive_is_shown handed document signature token r.bytes takes in
    let same = stays handed document signature token r.bytes takes in
    let yes_ : IsYesOf policy (with_archive old token (next_octets ArchiveStamp handed document signature)) now =
    renewal_keeps_yes_of policy old token (next_octets ArchiveStamp handed document signature) now (evidence_is_in_range handed document signature [] (λ bytes. refl)) r.sound r.last before.1 after
    (subst (λ (e : Evidence). IsAcceptedOf policy e token now) shown accepted) in
    subst (λ (j : Judged). IsYesBy policy j now)
    (sym (shows is_whole handed new signature (item_is_read_again is_whole document signature (Archive token) (r.bytes, r.whole) (record { read = r.read; free = r.free }) r.signed).read (same.faults ∙ before.0) (same.signed ∙ r.signed) r.few))
    (subst (λ (e : Evidence). IsYesOf policy e now) (sym shown) yes_)
