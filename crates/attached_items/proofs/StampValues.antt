-- The line on values, and the read values themselves, say nothing again where a time-stamp is put in.
use Rattle.std.proofs.Common.{◌≡◌, ℕ, Bool, true, false, cond, not, ◌||◌, List, [], ◌∷◌, ◌++◌, sym, ◌∙◌, ap, codes, append_assoc}
use Rattle.std.proofs.lemmas.List.{append-nil}
use Rattle.std.proofs.lemmas.Grind.{flat_map-append}
use Rattle.std.specs.Prelude.{filter, flat_map, drop, map}
use Rattle.std.specs.Option.{option_map_or}
use Rattle.base64.specs.GeneralPurpose.{IsBytes}
use Rattle.document_model.specs.Tree.{Nodes, put_last}
use Rattle.signature_model.specs.Vocabulary.{ds, xades}
use Rattle.signature_model.specs.Base64.{skipping}
use Rattle.signature_model.specs.Spots.{Spot, is_called, elements_in, called, called_in, first, paths}
use Rattle.signature_model.specs.Parts as parts
use Rattle.signature_model.specs.Parts.{DatumKind, Datum, references, certificate_digest, digest_methods, properties, token_elements, is_validation_data, values_of, data_of_values, data_of, data_in, key_certificates, key_data, key_info, transforms}
use Rattle.signature_model.specs.Holding.{with_stray_text, without_value}
use Rattle.signature_model.specs.Shape.{value_holders, values_line}
use Rattle.signature_model.specs.Readable.{is_bad, bad_data}
use Rattle.signature_model.specs.Keeping.{IsSpot}
use Rattle.signature_model.proofs.Standing.{Each}
use Rattle.signature_model.proofs.Lists.{each_append, each_first, each_map, each_filter, each_flat, flat_same, filter_same}
use Rattle.signature_model.proofs.Apart.{Apart, IsNamed, called_stay, text_stays, all_apart, named_apart}
use Rattle.signature_model.proofs.References.{references_stay, references_named, transforms_stay, transforms_stand}
use Rattle.signature_model.proofs.Covered.{signature_apart}
use Rattle.signature_model.proofs.PropertyKept.{IsHeld, held_apart}
use Rattle.signature_model.proofs.PartsStay.{key_info_stays}
use Rattle.covered_items.proofs.NewProperties.{ManyProperties}
use Rattle.covered_items.proofs.NewHolders.{filter_without}
use Rattle.covered_items.proofs.SignedPartsStay.{chain_stays, named_in, first_in, key_info_named, cert_stays, methods_stay}
use Rattle.attached_items.proofs.Inside.{Inside, held_inside, inside_apart, values_same, values_inside, data_same, data_inside, filtered_inside, all_inside_apart}
use Rattle.covered_items.proofs.HoldingStays as words
use Rattle.covered_items.proofs.Lists.{spots_of, kinds_of}
use Rattle.attached_items.proofs.StampLines.{StampKind, IsStampKind, stamp_content, property, token_spot, tokens, token_octets}

module _ (kind : StampKind) (is : IsStampKind kind) (document : Nodes) (signature place : Spot) (octets : List ℕ) (bytes : IsBytes octets) (added : Nodes)
    (one : ManyProperties document added signature place (stamp_content kind octets)) where
  abbrev pub new : Nodes
  new = put_last added place.path document

  abbrev the_property : Spot
  the_property = property kind is document signature place octets bytes added one

  abbrev the_token : Spot
  the_token = token_spot kind is document signature place octets bytes added one

  abbrev AllInside : List Spot → Type 0
  AllInside spots = Each (Inside document place) spots

  to_apart : (spots : List Spot) → AllInside spots → Each (Apart document place) spots
  to_apart spots h = all_inside_apart document place spots h

  values_none : values_of new the_property ≡ []
  values_none =
      λ i. cond (is.certificates one.path one.tags one.number i || is.revocations one.path one.tags one.number i) (the_property ∷ [])
      (cond (is.validation one.path one.tags one.number i) (filter parts.is_values (elements_in new the_property)) [])

  holders_same : value_holders new signature ≡ value_holders document signature
  holders_same =
      ap (flat_map (values_of new)) one.grown ∙ flat_map-append (values_of new) (properties document signature) (the_property ∷ [])
      ∙ ap (λ more. flat_map (values_of new) (properties document signature) ++ more) (append-nil (values_of new the_property) ∙ values_none)
      ∙ append-nil (flat_map (values_of new) (properties document signature))
      ∙ flat_same (IsHeld document place) (values_of new) (values_of document) (properties document signature) (λ p h. values_same document added place p h) one.held

  holders_inside : AllInside (value_holders document signature)
  holders_inside = each_flat (IsHeld document place) (Inside document place) (values_of document) (properties document signature) (λ p h. values_inside document place p h) one.held

  abbrev crls : Nodes → Spot → List Spot
  crls d holder = cond (is_called (xades (codes "RevocationValues")) holder) (called d (xades (codes "CRLValues")) holder) []

  crls_same : flat_map (crls new) (value_holders document signature) ≡ flat_map (crls document) (value_holders document signature)
  crls_same = flat_same (Inside document place) (crls new) (crls document) (value_holders document signature)
      (λ holder i. ap (λ spots. cond (is_called (xades (codes "RevocationValues")) holder) spots []) (called_stay document added place (xades (codes "CRLValues")) holder (inside_apart document place holder i))) holders_inside

  crl_inside : (holder : Spot) → Inside document place holder → AllInside (crls document holder)
  crl_inside holder i = by_bool (is_called (xades (codes "RevocationValues")) holder)
    where
      by_bool : (b : Bool) → AllInside (cond b (called document (xades (codes "CRLValues")) holder) [])
      by_bool true = filtered_inside document place holder (is_called (xades (codes "CRLValues"))) i
      by_bool false = tt

  validation_inside : AllInside (filter is_validation_data (properties document signature))
  validation_inside = each_map (λ p. IsHeld document place p × (is_validation_data p ≡ true)) (Inside document place) _ (λ p h. held_inside document place p h.0)
      (each_filter (IsHeld document place) is_validation_data (properties document signature) one.held)

  data_all_same : flat_map (data_of_values new) (value_holders document signature) ≡ flat_map (data_of_values document) (value_holders document signature)
  data_all_same = flat_same (Inside document place) (data_of_values new) (data_of_values document) (value_holders document signature) (λ v i. data_same document added place v i) holders_inside

  data_spots_inside : AllInside (map (λ (datum : Datum). datum.spot) (flat_map (data_of_values document) (value_holders document signature)))
  data_spots_inside = spots_of (Inside document place) (flat_map (data_of_values document) (value_holders document signature))
      (each_flat (Inside document place) (λ (datum : Datum). Inside document place datum.spot) (data_of_values document) (value_holders document signature) (λ v i. data_inside document place v i) holders_inside)

  -- Transforms of References.

  references_apart : (reference : Spot) → IsNamed document (ds (codes "Reference")) reference → Apart document place reference
  references_apart reference r = named_apart document place (ds (codes "Reference")) one.host_name one.setting.setting.place_named one.setting.setting.other.reference reference r

  all_references : Each (IsNamed document (ds (codes "Reference"))) (references document signature)
  all_references = references_named document signature one.setting.setting.signature_named.stands

  transforms_same : flat_map (transforms new) (references new signature) ≡ flat_map (transforms document) (references document signature)
  transforms_same =
      ap (flat_map (transforms new)) (references_stay document added place signature one.host_name one.setting.setting.place_named one.setting.setting.other (signature_apart document added signature place one.host_name one.setting.setting))
      ∙ flat_same (IsNamed document (ds (codes "Reference"))) (transforms new) (transforms document) (references document signature)
      (λ r n. transforms_stay document added place r one.host_name one.setting.setting.place_named one.setting.setting.other (references_apart r n)) all_references

  transforms_named : Each (IsNamed document (ds (codes "Transform"))) (filter (is_called (ds (codes "Transform"))) (flat_map (transforms document) (references document signature)))
  transforms_named = each_map (λ t. IsSpot document t × (is_called (ds (codes "Transform")) t ≡ true)) (IsNamed document (ds (codes "Transform"))) _ (λ t h. record { stands = h.0; named = h.1 })
      (each_filter (IsSpot document) (is_called (ds (codes "Transform"))) (flat_map (transforms document) (references document signature))
      (each_flat (IsNamed document (ds (codes "Reference"))) (IsSpot document) (transforms document) (references document signature) (λ r n. transforms_stand document r n.stands) all_references))

  pub values_again : values_line document signature ≡ [] → values_line new signature ≡ []
  values_again e =
      let all : List Spot = properties document signature in
      let holders : List Spot = value_holders document signature in
      let c = cert_stays document added signature place one.host_name one.setting.setting one.apart one.signed in
      let v2 = filter is_validation_data all ++ holders ++ flat_map (crls document) holders in
      let v3 = map (λ (datum : Datum). datum.spot) (flat_map (data_of_values document) holders) in
      let v4 = filter (is_called (ds (codes "Transform"))) (flat_map (transforms document) (references document signature)) in
      let certificates = filter_without (is_called (xades (codes "CertificateValues"))) all the_property (is.certificates one.path one.tags one.number) in
      let lists = filter_without (is_called (xades (codes "RevocationValues"))) all the_property (is.revocations one.path one.tags one.number) in
      let validation = filter_without is_validation_data all the_property (is.validation one.path one.tags one.number) in
      let n0 : paths (drop 1 (filter (is_called (xades (codes "CertificateValues"))) (properties new signature))) ≡ paths (drop 1 (filter (is_called (xades (codes "CertificateValues"))) all)) =
      ap (λ spots. paths (drop 1 (filter (is_called (xades (codes "CertificateValues"))) spots))) one.grown ∙ ap (λ spots. paths (drop 1 spots)) certificates in
      let n1 : paths (drop 1 (filter (is_called (xades (codes "RevocationValues"))) (properties new signature))) ≡ paths (drop 1 (filter (is_called (xades (codes "RevocationValues"))) all)) =
      ap (λ spots. paths (drop 1 (filter (is_called (xades (codes "RevocationValues"))) spots))) one.grown ∙ ap (λ spots. paths (drop 1 spots)) lists in
      let n2 : with_stray_text new (filter is_validation_data (properties new signature) ++ value_holders new signature ++ flat_map (crls new) (value_holders new signature)) ≡ with_stray_text document v2 =
      (λ i. with_stray_text new (filter is_validation_data (one.grown i) ++ holders_same i ++ flat_map (crls new) (holders_same i)))
      ∙ (λ i. with_stray_text new (validation i ++ holders ++ crls_same i))
      ∙ words.stray_stays document added place v2 (each_append (Apart document place) (filter is_validation_data all ++ holders) (flat_map (crls document) holders)
      (each_append (Apart document place) (filter is_validation_data all) holders (to_apart _ validation_inside) (to_apart _ holders_inside))
      (to_apart _ (each_flat (Inside document place) (Inside document place) (crls document) holders crl_inside holders_inside))) in
      let n3 : without_value new (map (λ (datum : Datum). datum.spot) (flat_map (data_of_values new) (value_holders new signature))) ≡ without_value document v3 =
      ap (λ spots. without_value new (map (λ (datum : Datum). datum.spot) (flat_map (data_of_values new) spots))) holders_same
      ∙ ap (λ data_. without_value new (map (λ (datum : Datum). datum.spot) data_)) data_all_same
      ∙ words.value_stays document added place v3 (to_apart v3 data_spots_inside) in
      let n4 = ap (λ spots. with_stray_text new (filter (is_called (ds (codes "Transform"))) spots)) transforms_same
      ∙ words.stray_stays document added place v4 (all_apart document place (ds (codes "Transform")) one.host_name one.setting.setting.place_named one.setting.setting.other.transform v4 transforms_named) in
      let n5 = ap (with_stray_text new) (methods_stay document added place one.host_name (xades (codes "CertDigest")) one.setting.setting.place_named one.apart.cert_digest _ (certificate_digest document signature) c.same c.named)
      ∙ words.stray_stays document added place (digest_methods document (certificate_digest document signature))
      (all_apart document place (ds (codes "DigestMethod")) one.host_name one.setting.setting.place_named one.apart.digest_method (digest_methods document (certificate_digest document signature))
      (first_in document (ds (codes "DigestMethod")) (xades (codes "CertDigest")) (certificate_digest document signature) c.named)) in
      (λ i. n0 i ++ n1 i ++ n2 i ++ n3 i ++ n4 i ++ n5 i) ∙ e

  -- Read values.

  property_data_same : (p : Spot) → IsHeld document place p → data_of new p ≡ data_of document p
  property_data_same p h =
      let inside = values_inside document place p h in
      let t = ap first (called_stay document added place (xades (codes "EncapsulatedTimeStamp")) p (held_apart document place p h)) in
      let v = ap (flat_map (data_of_values new)) (values_same document added place p h)
      ∙ flat_same (Inside document place) (data_of_values new) (data_of_values document) (values_of document p) (λ s i. data_same document added place s i) inside in
      λ i. cond (parts.is_stamp p) (parts.as_kind parts.Token (t i)) (v i)

  property_data_inside : (p : Spot) → IsHeld document place p → Each (λ (datum : Datum). Inside document place datum.spot) (data_of document p)
  property_data_inside p h = by_bool (parts.is_stamp p)
    where
      by_bool : (b : Bool) → Each (λ (datum : Datum). Inside document place datum.spot) (cond b (parts.as_kind parts.Token (first (token_elements document p))) (flat_map (data_of_values document) (values_of document p)))
      by_bool true = kinds_of (Inside document place) parts.Token (first (token_elements document p))
          (each_first (Inside document place) _ (filtered_inside document place p (is_called (xades (codes "EncapsulatedTimeStamp"))) (held_inside document place p h)))
      by_bool false = each_flat (Inside document place) (λ (datum : Datum). Inside document place datum.spot) (data_of_values document) (values_of document p) (λ v i. data_inside document place v i) (values_inside document place p h)

  keys_named : Each (IsNamed document (ds (codes "X509Certificate"))) (key_certificates document signature)
  keys_named = named_in document (ds (codes "X509Certificate")) (ds (codes "X509Data")) (key_data document signature)
      (named_in document (ds (codes "X509Data")) (ds (codes "KeyInfo")) (key_info document signature) (key_info_named document signature one.setting.setting.signature_named.stands))

  keys_same : key_certificates new signature ≡ key_certificates document signature
  keys_same =
      let named = key_info_named document signature one.setting.setting.signature_named.stands in
      let d : key_data new signature ≡ key_data document signature = ap (called_in new (ds (codes "X509Data"))) (key_info_stays document added signature place one.host_name one.setting.setting)
      ∙ chain_stays document added place one.host_name (ds (codes "X509Data")) (ds (codes "KeyInfo")) one.setting.setting.place_named one.apart.key_info (key_info document signature) named in
      ap (called_in new (ds (codes "X509Certificate"))) d
      ∙ chain_stays document added place one.host_name (ds (codes "X509Certificate")) (ds (codes "X509Data")) one.setting.setting.place_named one.apart.key_data (key_data document signature)
      (named_in document (ds (codes "X509Data")) (ds (codes "KeyInfo")) (key_info document signature) named)

  is_token : data_of new the_property ≡ parts.as_kind parts.Token (first (token_elements new the_property))
  is_token = ap (λ b. cond b (parts.as_kind parts.Token (first (token_elements new the_property))) (flat_map (data_of_values new) (values_of new the_property))) (is.is_stamp one.path one.tags one.number)

  data_grows : data_in new signature ≡ data_in document signature ++ record { kind = parts.Token; spot = the_token } ∷ []
  data_grows =
      let keys : List Datum = parts.as_kind parts.Certificate (key_certificates document signature) in
      let old : List Datum = flat_map (data_of document) (properties document signature) in
      (λ i. parts.as_kind parts.Certificate (keys_same i) ++ flat_map (data_of new) (one.grown i))
      ∙ ap (λ more. keys ++ more) (flat_map-append (data_of new) (properties document signature) (the_property ∷ [])
      ∙ ap (λ more. flat_map (data_of new) (properties document signature) ++ more) (append-nil (data_of new the_property) ∙ is_token ∙ ap (λ spots. parts.as_kind parts.Token (first spots)) (tokens kind is document signature place octets bytes added one))
      ∙ ap (λ front. front ++ record { kind = parts.Token; spot = the_token } ∷ []) (flat_same (IsHeld document place) (data_of new) (data_of document) (properties document signature) property_data_same one.held))
      ∙ sym (append_assoc keys old (record { kind = parts.Token; spot = the_token } ∷ []))

  pub data_again : (is_whole : DatumKind → List ℕ → Bool) → is_whole parts.Token octets ≡ true → bad_data is_whole document signature ≡ [] → bad_data is_whole new signature ≡ []
  data_again is_whole whole e =
      let all : List Datum = data_in document signature in
      let fine : is_bad is_whole new (record { kind = parts.Token; spot = the_token }) ≡ false =
      ap (λ o. not (option_map_or (is_whole parts.Token) o false)) (token_octets kind is document signature place octets bytes added one) ∙ ap not whole in
      let apart : Each (λ (datum : Datum). Apart document place datum.spot) all =
      each_append (λ (datum : Datum). Apart document place datum.spot) (parts.as_kind parts.Certificate (key_certificates document signature)) (flat_map (data_of document) (properties document signature))
      (kinds_of (Apart document place) parts.Certificate (key_certificates document signature)
      (all_apart document place (ds (codes "X509Certificate")) one.host_name one.setting.setting.place_named one.apart.key_certificate (key_certificates document signature) keys_named))
      (each_map (λ (datum : Datum). Inside document place datum.spot) (λ (datum : Datum). Apart document place datum.spot) _ (λ datum i. inside_apart document place datum.spot i)
      (each_flat (IsHeld document place) (λ (datum : Datum). Inside document place datum.spot) (data_of document) (properties document signature) property_data_inside one.held)) in
      ap (λ data_. map (λ (datum : Datum). datum.spot.path) (filter (is_bad is_whole new) data_)) data_grows
      ∙ ap (map (λ (datum : Datum). datum.spot.path)) (filter_without (is_bad is_whole new) all (record { kind = parts.Token; spot = the_token }) fine)
      ∙ ap (map (λ (datum : Datum). datum.spot.path)) (filter_same (λ (datum : Datum). Apart document place datum.spot) (is_bad is_whole new) (is_bad is_whole document) all
      (λ datum a. ap (λ text. not (option_map_or (is_whole datum.kind) (skipping text) false)) (text_stays document added place datum.spot a)) apart)
      ∙ e
