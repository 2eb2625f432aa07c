-- A signature that has taken a time-stamp, a signature's or an archive's, has its parts again.
use Rattle.std.proofs.Common.{◌≡◌, ℕ, Bool, true, List, [], ◌∷◌, refl, ◌∙◌, subst, codes}
use Rattle.base64.specs.GeneralPurpose.{IsBytes}
use Rattle.document_model.specs.Names.{Expanded}
use Rattle.document_model.specs.Tree.{Nodes, put_last}
use Rattle.signature_model.specs.Vocabulary.{xades_space}
use Rattle.signature_model.specs.Spots.{Spot}
use Rattle.signature_model.specs.Parts.{DatumKind, Token, host}
use Rattle.signature_model.specs.Fragments.{Stamp, Archive, declaring, content_of, with_item}
use Rattle.signature_model.specs.Keeping.{TakesItem}
use Rattle.signature_model.proofs.PartsStay.{method_stays, method_apart}
use Rattle.signature_model.proofs.ItemKept.{put_at}
use Rattle.signature_model.proofs.Plain.{content_plain}
use Rattle.covered_items.proofs.StampFragments.{signature_stamp_name, signature_stamp_attributes, archive_stamp_name, archive_stamp_attributes}
use Rattle.attached_items.proofs.LinesStay as lines
use Rattle.attached_items.proofs.LinesStay.{value_line_stays}
use Rattle.attached_items.proofs.ReadAs.{IsReadAs, read_as, reads}
use Rattle.covered_items.proofs.NewProperties.{ManyProperties, many_properties}
use Rattle.attached_items.proofs.StampLines as stamps
use Rattle.attached_items.proofs.StampLines.{StampKind, IsStampKind, stamp_content}
use Rattle.attached_items.proofs.StampValues as values
use Rattle.signature_model.specs.Readable.{HasParts}
use Rattle.signature_model.proofs.ShapeLines.{lines_of, shape_of}

-- The two kinds.

abbrev pub signature_kind : StampKind
signature_kind = record { name = signature_stamp_name; attributes = signature_stamp_attributes; token_attributes = [] }

abbrev pub archive_kind : StampKind
archive_kind = record { name = archive_stamp_name; attributes = archive_stamp_attributes; token_attributes = declaring (codes "xades") xades_space ∷ [] }

pub is_signature_kind : IsStampKind signature_kind
is_signature_kind = record {
  is_stamp = λ path tags k. refl;
  certificates = λ path tags k. refl;
  revocations = λ path tags k. refl;
  validation = λ path tags k. refl;
  token = λ path tags k. refl;
  no_method = λ path tags k. refl;
  no_include = λ path tags k. refl;
}

pub is_archive_kind : IsStampKind archive_kind
is_archive_kind = record {
  is_stamp = λ path tags k. refl;
  certificates = λ path tags k. refl;
  revocations = λ path tags k. refl;
  validation = λ path tags k. refl;
  token = λ path tags k. refl;
  no_method = λ path tags k. refl;
  no_include = λ path tags k. refl;
}

again : (kind : StampKind) → IsStampKind kind → (is_whole : DatumKind → List ℕ → Bool) (document added : Nodes) (signature place : Spot) (octets : List ℕ) → IsBytes octets → is_whole Token octets ≡ true
    → ManyProperties document added signature place (stamp_content kind octets) → IsReadAs is_whole document signature
    → IsReadAs is_whole (put_last added place.path document) signature
again kind is is_whole document added signature place octets bytes whole one r =
    let s = one.setting in
    let name : Expanded = one.host_name in
    let b = s.setting in
    let l = lines_of document signature r.shape in
    let new : Nodes = put_last added place.path document in
    record {
      include = stamps.include_again kind is document signature place octets bytes added one ∙ r.include;
      data_ = values.data_again kind is document signature place octets bytes added one is_whole whole r.data_;
      shape = shape_of new signature (record {
        parts = lines.parts_stay document added signature place name b one.apart one.signed ∙ l.parts;
        info = lines.info_line_stays document added signature place name b one.apart one.signed ∙ l.info;
        form = stamps.form_again kind is document signature place octets bytes added one l.form (method_stays document added signature place name b) (method_apart document added signature place name b);
        method = lines.method_line_stays document added signature place name b one.apart one.signed ∙ l.method;
        reference = lines.reference_line_stays document added signature place name b one.apart one.signed ∙ l.reference;
        qualifying = lines.qualifying_line_stays document added signature place name b one.apart one.signed ∙ l.qualifying;
        properties = one.around l.properties;
        covered = lines.covered_line_stays document added signature place name b one.apart one.signed ∙ l.covered;
        signed = lines.signed_line_stays document added signature place name b one.apart one.signed ∙ l.signed;
        object = lines.data_object_line_stays document added signature place name b one.apart one.signed ∙ l.object;
        key = lines.key_line_stays document added signature place name b one.apart one.signed ∙ l.key;
        value = value_line_stays document added signature place name s ∙ l.value;
        stamp = stamps.stamp_again kind is document signature place octets bytes added one l.stamp;
        values = values.values_again kind is document signature place octets bytes added one l.values;
      });
    }

pub stamp_has_parts : (is_whole : DatumKind → List ℕ → Bool) (document : Nodes) (signature : Spot) (token : List ℕ) → IsBytes token → is_whole Token token ≡ true
    → TakesItem document signature (Stamp token) → HasParts is_whole document signature → HasParts is_whole (with_item document signature (Stamp token)) signature
stamp_has_parts is_whole document signature token bytes whole takes has =
    let place : Spot = takes.property_place.0 in
    let added : Nodes = content_of document signature (Stamp token) in
    let many = many_properties document added signature place (stamp_content signature_kind token) tt refl takes.is_signature takes.property_place.1 takes.free (content_plain document signature (Stamp token)) in
    reads is_whole (with_item document signature (Stamp token)) signature
    (subst (λ (d : Nodes). IsReadAs is_whole d signature) (put_at document added (host document signature) place takes.property_place.1)
    (again signature_kind is_signature_kind is_whole document added signature place token bytes whole many (read_as is_whole document signature has)))

pub archive_has_parts : (is_whole : DatumKind → List ℕ → Bool) (document : Nodes) (signature : Spot) (token : List ℕ) → IsBytes token → is_whole Token token ≡ true
    → TakesItem document signature (Archive token) → HasParts is_whole document signature → HasParts is_whole (with_item document signature (Archive token)) signature
archive_has_parts is_whole document signature token bytes whole takes has =
    let place : Spot = takes.property_place.0 in
    let added : Nodes = content_of document signature (Archive token) in
    let many = many_properties document added signature place (stamp_content archive_kind token) tt refl takes.is_signature takes.property_place.1 takes.free (content_plain document signature (Archive token)) in
    reads is_whole (with_item document signature (Archive token)) signature
    (subst (λ (d : Nodes). IsReadAs is_whole d signature) (put_at document added (host document signature) place takes.property_place.1)
    (again archive_kind is_archive_kind is_whole document added signature place token bytes whole many (read_as is_whole document signature has)))
