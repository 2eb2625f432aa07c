-- A signature that has taken a value has its parts again.
use Rattle.std.proofs.Common.{◌≡◌, ℕ, suc, Bool, true, false, cond, not, List, [], ◌∷◌, ◌++◌, length, arith, refl, sym, ◌∙◌, ap, subst, codes}
use Rattle.std.proofs.lemmas.List.{length-append}
use Rattle.std.specs.Prelude.{filter, flat_map, drop, map, is_some}
use Rattle.base64.specs.GeneralPurpose.{IsBytes, encode_of}
use Rattle.base64.specs.Engines.{standard}
use Rattle.document_model.specs.Names.{Expanded}
use Rattle.document_model.specs.Tree.{Nodes, Path, below, put_last}
use Rattle.signature_model.specs.Vocabulary.{ds, xades}
use Rattle.signature_model.specs.Spots.{Spot, is_called, held_in, held_at, is_text_alone, elements_in, called, called_in, paths}
use Rattle.signature_model.specs.Parts as parts
use Rattle.signature_model.specs.Parts.{DatumKind, Datum, value, method, references, qualifying, signed_properties, unsigned, unsigned_signature, properties, stamps, is_blank, is_signed, octets_in, is_validation_data, values_of, data_of_values, data_of, data_in, key_certificates, key_data, key_info, transforms, certificate_digest, digest_methods, PropertyKind, SignatureStamp, ArchiveStamp, Material, Passed, kind_of, token}
use Rattle.signature_model.specs.Holding.{misfits, with_stray_text, without_attribute, without_value, without_octets}
use Rattle.signature_model.specs.Shape.{properties_line, value_line, value_holders, values_line}
use Rattle.signature_model.specs.Readable.{is_bad, bad_data, HasParts}
use Rattle.signature_model.specs.Fragments.{Value, encoded, content_of, with_item}
use Rattle.signature_model.specs.Keeping.{IsSpot, TakesItem}
use Rattle.signature_model.proofs.Standing.{Each}
use Rattle.signature_model.proofs.Lists.{each_append, each_map, each_filter, each_flat, flat_same, filter_same, not_both}
use Rattle.signature_model.proofs.AtHost.{held_at_host}
use Rattle.signature_model.proofs.Apart.{Apart, IsNamed, elements_stay, all_apart, named_apart}
use Rattle.signature_model.proofs.References.{references_stay, references_named, transforms_stay, transforms_stand}
use Rattle.signature_model.proofs.Covered.{Setting}
use Rattle.signature_model.proofs.PropertyKept.{IsPart}
use Rattle.signature_model.proofs.Outer.{qualifying_stays, qualifying_apart, unsigned_stays, unsigned_apart, list_stays}
use Rattle.signature_model.proofs.Hosts.{InnerNamed, list_inner}
use Rattle.signature_model.proofs.ItemKept.{put_at}
use Rattle.covered_items.proofs.NewHolders.{IsApart, signed_stay}
use Rattle.covered_items.proofs.SignedPartsStay.{chain_stays, named_in, first_in, key_info_named, signed_named, methods_stay, cert_stays}
use Rattle.signature_model.proofs.PartsStay.{key_info_stays, method_stays, method_apart}
use Rattle.covered_items.proofs.NewValue as value_in
use Rattle.covered_items.proofs.NewValue.{alone_behind}
use Rattle.covered_items.proofs.HoldingStays as words
use Rattle.covered_items.proofs.Lists.{spots_of, kinds_of, each_of_none}
use Rattle.signature_model.proofs.Plain.{none_and}
use Rattle.covered_items.proofs.PropertiesLine.{HolderSlots, ListSlots}
use Rattle.attached_items.proofs.ReadAs.{IsReadAs, read_as, reads}
use Rattle.attached_items.proofs.LinesStay as lines
use Rattle.attached_items.proofs.DeepSpots.{Passes, Deep, deep_passes, properties_deep}
use Rattle.attached_items.proofs.OldProperties as old
use Rattle.signature_model.specs.Chains.{Handed}
use Rattle.signature_model.specs.Octets.{value_octets, octets_at}
use Rattle.signature_model.specs.Covers.{Signed, stamped_by, stamped}
use Rattle.signature_model.proofs.ShapeLines.{front_nothing, not_nothing, lines_of, shape_of}
use Rattle.attached_items.specs.ReadAgain.{ValueIsCoveredAlone}

has_alone : (b : Bool) (spot : Spot) → paths (cond (not b) (spot ∷ []) []) ≡ [] → b ≡ true
has_alone true spot e = refl
has_alone false spot e = absurd (not_nothing spot.path [] e)

module _ (document : Nodes) (signature place : Spot) (octets : List ℕ) (bytes : IsBytes octets) (takes : TakesItem document signature (Value octets))
    (is_place : value document signature ≡ place ∷ []) where
  abbrev added : Nodes
  added = encoded octets

  abbrev new : Nodes
  new = put_last added place.path document

  abbrev name : Expanded
  name = ds (codes "SignatureValue")

  stands : IsSpot document signature
  stands = takes.is_signature.stands

  place_part : IsPart document signature name place
  place_part = value_in.place_part document signature place octets bytes takes is_place

  set : Setting document added signature place name
  set = value_in.set document signature place octets bytes takes is_place

  apart : IsApart name
  apart = record { object = refl; key_info = refl; key_data = refl; key_certificate = refl; signature_method = refl; digest_method = refl; digest_value = refl; signed_properties = refl; signed_signature = refl; signing_certificate = refl; cert = refl; cert_digest = refl; signing_time = refl; signed_data = refl; format = refl; mime = refl }

  signed : signed_properties new signature ≡ signed_properties document signature
  signed = signed_stay document added signature place name set refl refl

  signature_is_apart : Apart document place signature
  signature_is_apart = value_in.signature_is_apart document signature place octets bytes takes is_place

  -- The value.

  value_again : value_line document signature ≡ [] → value_line new signature ≡ []
  value_again e =
      let m = place_part.0.stands.element.0 in
      let was : without_octets document (place ∷ []) ≡ [] = sym (ap (without_octets document) is_place) ∙ e in
      let was_alone : is_text_alone (held_at document place.path) ≡ true = has_alone _ place (front_nothing (without_value document (place ∷ [])) _ was) in
      let alone : is_text_alone (held_at new place.path) ≡ true =
      ap is_text_alone (held_at_host document added place.path place_part.0.stands.element)
      ∙ alone_behind (below m) (encode_of standard octets) (sym (ap (λ nodes. is_text_alone (held_in nodes)) place_part.0.stands.element.1) ∙ was_alone) in
      let read = value_in.octets_new document signature place octets bytes takes is_place in
      ap (without_octets new) (value_in.value_new document signature place octets bytes takes is_place)
      ∙ (λ i. paths (cond (not (alone i)) (place ∷ []) []) ++ paths (cond (not (is_some (read i))) (place ∷ []) []))

  -- What is around the properties.

  q_same : qualifying new signature ≡ qualifying document signature
  q_same = qualifying_stays document added signature place name set refl

  u_same : unsigned new signature ≡ unsigned document signature
  u_same = unsigned_stays document added signature place name set refl refl

  l_same : unsigned_signature new signature ≡ unsigned_signature document signature
  l_same = list_stays document added signature place name set (record { object = refl; qualifying = refl; unsigned = refl })

  q_apart : Each (Apart document place) (qualifying document signature)
  q_apart = qualifying_apart document added signature place name set refl refl

  u_apart : Each (Apart document place) (unsigned document signature)
  u_apart = unsigned_apart document added signature place name set (record { object = refl; qualifying = refl; unsigned = refl })

  s_apart : Each (Apart document place) (signed_properties document signature)
  s_apart = all_apart document place (xades (codes "SignedProperties")) name set.place_named refl (signed_properties document signature) (signed_named document signature stands)

  l_apart : Each (Apart document place) (unsigned_signature document signature)
  l_apart = all_apart document place (xades (codes "UnsignedSignatureProperties")) name set.place_named refl (unsigned_signature document signature)
      (each_map (InnerNamed document signature (xades (codes "UnsignedSignatureProperties"))) (IsNamed document (xades (codes "UnsignedSignatureProperties"))) _ (λ spot i. i.0) (list_inner document signature stands))

  properties_line_same : properties_line new signature ≡ properties_line document signature
  properties_line_same =
      let q = qualifying document signature in
      let p = signed_properties document signature in
      let u = unsigned document signature in
      let l = unsigned_signature document signature in
      let t = (λ i. with_stray_text new (q_same i ++ signed i ++ u_same i ++ l_same i))
      ∙ words.stray_stays document added place (q ++ p ++ u ++ l)
      (each_append (Apart document place) (q ++ p ++ u) l (each_append (Apart document place) (q ++ p) u (each_append (Apart document place) q p q_apart s_apart) u_apart) l_apart) in
      let m = ap (misfits new HolderSlots) q_same ∙ words.misfits_stay document added place HolderSlots q q_apart in
      let n = ap (misfits new ListSlots) u_same ∙ words.misfits_stay document added place ListSlots u u_apart in
      λ i. t i ++ m i ++ without_attribute (codes "Id") (signed i) ++ n i

  -- The properties.

  abbrev D : Spot → Type 0
  D spot = Deep document (suc (length signature.path)) spot

  passes : Passes document place D
  passes = deep_passes document (suc (length signature.path)) place
      (let same = ap (λ (path : Path). length path) place_part.0.number.1 in
      let long = length-append signature.path (place_part.0.number.0 ∷ []) in
      omega (arith, same, long))

  all_deep : Each D (properties document signature)
  all_deep = properties_deep document signature stands

  pub grown : properties new signature ≡ properties document signature
  grown = ap (flat_map (elements_in new)) l_same
      ∙ flat_same (Apart document place) (elements_in new) (elements_in document) (unsigned_signature document signature) (λ spot a. elements_stay document added place spot a) l_apart

  stamps_same : stamps new signature ≡ stamps document signature
  stamps_same = ap (filter parts.is_stamp) grown

  stamps_deep : Each D (stamps document signature)
  stamps_deep = old.stamps_pass document added signature place D passes (properties document signature) all_deep

  to_apart : (spots : List Spot) → Each D spots → Each (Apart document place) spots
  to_apart spots h = each_map D (Apart document place) spots passes.apart h

  holders_same : value_holders new signature ≡ value_holders document signature
  holders_same = ap (flat_map (values_of new)) grown
      ∙ flat_same D (values_of new) (values_of document) (properties document signature) (old.values_same document added signature place D passes) all_deep

  holders_deep : Each D (value_holders document signature)
  holders_deep = each_flat D D (values_of document) (properties document signature) (old.values_pass document added signature place D passes) all_deep

  -- Transforms of References, and certificates.

  all_references : Each (IsNamed document (ds (codes "Reference"))) (references document signature)
  all_references = references_named document signature stands

  transforms_same : flat_map (transforms new) (references new signature) ≡ flat_map (transforms document) (references document signature)
  transforms_same =
      ap (flat_map (transforms new)) (references_stay document added place signature name set.place_named set.other signature_is_apart)
      ∙ flat_same (IsNamed document (ds (codes "Reference"))) (transforms new) (transforms document) (references document signature)
      (λ r n. transforms_stay document added place r name set.place_named set.other (named_apart document place (ds (codes "Reference")) name set.place_named refl r n)) all_references

  transforms_named : Each (IsNamed document (ds (codes "Transform"))) (filter (is_called (ds (codes "Transform"))) (flat_map (transforms document) (references document signature)))
  transforms_named = each_map (λ t. IsSpot document t × (is_called (ds (codes "Transform")) t ≡ true)) (IsNamed document (ds (codes "Transform"))) _ (λ t h. record { stands = h.0; named = h.1 })
      (each_filter (IsSpot document) (is_called (ds (codes "Transform"))) (flat_map (transforms document) (references document signature))
      (each_flat (IsNamed document (ds (codes "Reference"))) (IsSpot document) (transforms document) (references document signature) (λ r n. transforms_stand document r n.stands) all_references))

  abbrev crls : Nodes → Spot → List Spot
  crls d holder = cond (is_called (xades (codes "RevocationValues")) holder) (called d (xades (codes "CRLValues")) holder) []

  values_line_same : values_line new signature ≡ values_line document signature
  values_line_same =
      let all : List Spot = properties document signature in
      let holders : List Spot = value_holders document signature in
      let c = cert_stays document added signature place name set apart signed in
      let v2 = filter is_validation_data all ++ holders ++ flat_map (crls document) holders in
      let v3 = map (λ (datum : Datum). datum.spot) (flat_map (data_of_values document) holders) in
      let v4 = filter (is_called (ds (codes "Transform"))) (flat_map (transforms document) (references document signature)) in
      let crls_same : flat_map (crls new) (value_holders new signature) ≡ flat_map (crls document) holders =
      ap (flat_map (crls new)) holders_same ∙ flat_same D (crls new) (crls document) holders (old.crls_same document added signature place D passes) holders_deep in
      let validation_deep : Each D (filter is_validation_data all) =
      each_map (λ p. D p × (is_validation_data p ≡ true)) D _ (λ p h. h.0) (each_filter D is_validation_data all all_deep) in
      let n2 : with_stray_text new (filter is_validation_data (properties new signature) ++ value_holders new signature ++ flat_map (crls new) (value_holders new signature)) ≡ with_stray_text document v2 =
      (λ i. with_stray_text new (filter is_validation_data (grown i) ++ holders_same i ++ crls_same i))
      ∙ words.stray_stays document added place v2 (to_apart v2 (each_append D (filter is_validation_data all ++ holders) (flat_map (crls document) holders)
      (each_append D (filter is_validation_data all) holders validation_deep holders_deep)
      (each_flat D D (crls document) holders (old.crls_pass document added signature place D passes) holders_deep))) in
      let n3 : without_value new (map (λ (datum : Datum). datum.spot) (flat_map (data_of_values new) (value_holders new signature))) ≡ without_value document v3 =
      ap (λ spots. without_value new (map (λ (datum : Datum). datum.spot) (flat_map (data_of_values new) spots))) holders_same
      ∙ ap (λ data_. without_value new (map (λ (datum : Datum). datum.spot) data_)) (flat_same D (data_of_values new) (data_of_values document) holders (old.data_same document added signature place D passes) holders_deep)
      ∙ words.value_stays document added place v3 (to_apart v3 (spots_of D (flat_map (data_of_values document) holders)
      (each_flat D (λ (datum : Datum). D datum.spot) (data_of_values document) holders (old.data_pass document added signature place D passes) holders_deep))) in
      let n4 = ap (λ spots. with_stray_text new (filter (is_called (ds (codes "Transform"))) spots)) transforms_same
      ∙ words.stray_stays document added place v4 (all_apart document place (ds (codes "Transform")) name set.place_named refl v4 transforms_named) in
      let n5 = ap (with_stray_text new) (methods_stay document added place name (xades (codes "CertDigest")) set.place_named refl _ (certificate_digest document signature) c.same c.named)
      ∙ words.stray_stays document added place (digest_methods document (certificate_digest document signature))
      (all_apart document place (ds (codes "DigestMethod")) name set.place_named refl (digest_methods document (certificate_digest document signature))
      (first_in document (ds (codes "DigestMethod")) (xades (codes "CertDigest")) (certificate_digest document signature) c.named)) in
      λ i. paths (drop 1 (filter (is_called (xades (codes "CertificateValues"))) (grown i)))
      ++ paths (drop 1 (filter (is_called (xades (codes "RevocationValues"))) (grown i)))
      ++ n2 i ++ n3 i ++ n4 i ++ n5 i

  keys_named : Each (IsNamed document (ds (codes "X509Certificate"))) (key_certificates document signature)
  keys_named = named_in document (ds (codes "X509Certificate")) (ds (codes "X509Data")) (key_data document signature)
      (named_in document (ds (codes "X509Data")) (ds (codes "KeyInfo")) (key_info document signature) (key_info_named document signature stands))

  keys_same : key_certificates new signature ≡ key_certificates document signature
  keys_same =
      let keys = key_info_named document signature stands in
      let d : key_data new signature ≡ key_data document signature = ap (called_in new (ds (codes "X509Data"))) (key_info_stays document added signature place name set)
      ∙ chain_stays document added place name (ds (codes "X509Data")) (ds (codes "KeyInfo")) set.place_named refl (key_info document signature) keys in
      ap (called_in new (ds (codes "X509Certificate"))) d
      ∙ chain_stays document added place name (ds (codes "X509Certificate")) (ds (codes "X509Data")) set.place_named refl (key_data document signature)
      (named_in document (ds (codes "X509Data")) (ds (codes "KeyInfo")) (key_info document signature) keys)

  data_in_same : data_in new signature ≡ data_in document signature
  data_in_same = (λ i. parts.as_kind parts.Certificate (keys_same i) ++ flat_map (data_of new) (grown i))
      ∙ ap (λ more. parts.as_kind parts.Certificate (key_certificates document signature) ++ more)
      (flat_same D (data_of new) (data_of document) (properties document signature) (old.property_data_same document added signature place D passes) all_deep)

  data_again : (is_whole : DatumKind → List ℕ → Bool) → bad_data is_whole new signature ≡ bad_data is_whole document signature
  data_again is_whole =
      let all : List Datum = data_in document signature in
      let all_apart_ : Each (λ (datum : Datum). Apart document place datum.spot) all =
      each_append (λ (datum : Datum). Apart document place datum.spot) (parts.as_kind parts.Certificate (key_certificates document signature)) (flat_map (data_of document) (properties document signature))
      (kinds_of (Apart document place) parts.Certificate (key_certificates document signature)
      (all_apart document place (ds (codes "X509Certificate")) name set.place_named refl (key_certificates document signature) keys_named))
      (each_map (λ (datum : Datum). D datum.spot) (λ (datum : Datum). Apart document place datum.spot) _ (λ datum d. passes.apart datum.spot d)
      (each_flat D (λ (datum : Datum). D datum.spot) (data_of document) (properties document signature) (old.property_data_pass document added signature place D passes) all_deep)) in
      ap (λ data_. map (λ (datum : Datum). datum.spot.path) (filter (is_bad is_whole new) data_)) data_in_same
      ∙ ap (map (λ (datum : Datum). datum.spot.path)) (filter_same (λ (datum : Datum). Apart document place datum.spot) (is_bad is_whole new) (is_bad is_whole document) all
      (old.bad_same document added signature place D passes is_whole) all_apart_)

  pub value_read : (is_whole : DatumKind → List ℕ → Bool) → IsReadAs is_whole document signature → IsReadAs is_whole new signature
  value_read is_whole r =
      let l = lines_of document signature r.shape in
      record {
        include = old.include_same document added signature place D passes stamps_same stamps_deep ∙ r.include;
        data_ = data_again is_whole ∙ r.data_;
        shape = shape_of new signature (record {
          parts = lines.parts_stay document added signature place name set apart signed ∙ l.parts;
          info = lines.info_line_stays document added signature place name set apart signed ∙ l.info;
          form = old.form_same document added signature place D passes stamps_same stamps_deep (method_stays document added signature place name set) (method_apart document added signature place name set) ∙ l.form;
          method = lines.method_line_stays document added signature place name set apart signed ∙ l.method;
          reference = lines.reference_line_stays document added signature place name set apart signed ∙ l.reference;
          qualifying = lines.qualifying_line_stays document added signature place name set apart signed ∙ l.qualifying;
          properties = properties_line_same ∙ l.properties;
          covered = lines.covered_line_stays document added signature place name set apart signed ∙ l.covered;
          signed = lines.signed_line_stays document added signature place name set apart signed ∙ l.signed;
          object = lines.data_object_line_stays document added signature place name set apart signed ∙ l.object;
          key = lines.key_line_stays document added signature place name set apart signed ∙ l.key;
          value = value_again l.value;
          stamp = old.stamp_same document added signature place D passes stamps_same stamps_deep ∙ l.stamp;
          values = values_line_same ∙ l.values;
        });
      }

pub value_has_parts : (is_whole : DatumKind → List ℕ → Bool) (document : Nodes) (signature : Spot) (octets : List ℕ) → IsBytes octets → TakesItem document signature (Value octets)
    → HasParts is_whole document signature → HasParts is_whole (with_item document signature (Value octets)) signature
value_has_parts is_whole document signature octets bytes takes has =
    let at = put_at document (content_of document signature (Value octets)) (value document signature) takes.value_place.0 takes.value_place.1 in
    reads is_whole (with_item document signature (Value octets)) signature
    (subst (λ (d : Nodes). IsReadAs is_whole d signature) at
    (value_read document signature takes.value_place.0 octets bytes takes takes.value_place.1 is_whole (read_as is_whole document signature has)))

-- What stands in a document without time-stamps is no time-stamp.
no_stamps : (handed : Handed) (d : Nodes) (signature : Spot) (before spots : List Spot) → Each (λ spot. parts.is_stamp spot ≡ false) spots → stamped handed d signature before spots ≡ []
no_stamps handed d signature before [] h = refl
no_stamps handed d signature before (property ∷ spots) h =
    none_and _ _ (by_kind (kind_of property) (token d property) (octets_at handed d signature before property) h.0) (no_stamps handed d signature (before ++ property ∷ []) spots h.1)
  where
    by_kind : (kind : PropertyKind) (token octets : List ℕ) → parts.is_stamp_kind kind ≡ false → stamped_by kind token octets ≡ []
    by_kind SignatureStamp token octets e = absurd (not_both e)
    by_kind ArchiveStamp token octets e = absurd (not_both e)
    by_kind Material token octets e = refl
    by_kind Passed token octets e = refl

pub value_is_covered_alone : ValueIsCoveredAlone
value_is_covered_alone handed document signature octets bytes takes none =
    let place : Spot = takes.value_place.0 in
    let is_place = takes.value_place.1 in
    let at = put_at document (content_of document signature (Value octets)) (value document signature) place is_place in
    let now : properties (with_item document signature (Value octets)) signature ≡ properties document signature =
    subst (λ (d : Nodes). properties d signature ≡ properties document signature) at (grown document signature place octets bytes takes is_place) in
    ap (λ rest. Signed octets (value_octets document signature) ∷ rest)
    (ap (stamped handed (with_item document signature (Value octets)) signature []) now
    ∙ no_stamps handed (with_item document signature (Value octets)) signature [] (properties document signature) (each_of_none parts.is_stamp (properties document signature) none))
