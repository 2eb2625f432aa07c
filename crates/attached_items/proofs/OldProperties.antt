-- What is read of the properties of a document stays in the new one.
use Rattle.std.proofs.Common.{◌≡◌, ℕ, Bool, true, false, cond, not, List, [], ◌∷◌, ◌++◌, Option, ◌∙◌, ap, codes}
use Rattle.std.specs.Prelude.{filter, flat_map, is_none}
use Rattle.std.specs.Option.{option_map_or}
use Rattle.document_model.specs.Canonical.{Form}
use Rattle.document_model.specs.Tree.{Nodes, put_last}
use Rattle.signature_model.specs.Vocabulary.{ds, xades}
use Rattle.signature_model.specs.Base64.{skipping}
use Rattle.signature_model.specs.Spots.{Spot, is_called, elements_in, called, called_in, first, paths}
use Rattle.signature_model.specs.Parts as parts
use Rattle.signature_model.specs.Parts.{DatumKind, Datum, method, stamps, stamp_method, token_elements, form_in, is_validation_data, values_of, data_of_values, data_of, includes}
use Rattle.signature_model.specs.Holding.{with_stray_text, further, not_one, without_value}
use Rattle.signature_model.specs.Shape.{stamp_methods, form_line, is_in_stamp, stamp_line}
use Rattle.signature_model.specs.Readable.{is_bad}
use Rattle.signature_model.proofs.Standing.{Each}
use Rattle.signature_model.proofs.Lists.{each_append, each_first, each_map, each_filter, each_flat, flat_same, filter_same}
use Rattle.signature_model.proofs.Apart.{Apart, called_stay, called_in_stay, elements_stay, text_stays, form_stays}
use Rattle.covered_items.proofs.HoldingStays as words
use Rattle.covered_items.proofs.Lists.{kinds_of}
use Rattle.attached_items.proofs.DeepSpots.{Passes, filtered_pass, called_in_pass, all_apart_pass}

module _ (document added : Nodes) (signature place : Spot) (D : Spot → Type 0) (p : Passes document place D) where
  abbrev pub new : Nodes
  new = put_last added place.path document

  abbrev AllD : List Spot → Type 0
  AllD spots = Each D spots

  to_apart : (spots : List Spot) → AllD spots → Each (Apart document place) spots
  to_apart spots h = all_apart_pass document place D p spots h

  inner : (spot : Spot) (f : Spot → Bool) → D spot → AllD (filter f (elements_in document spot))
  inner spot f d = filtered_pass document place D p spot f d

  -- Time-stamps.

  pub stamps_pass : (properties : List Spot) → AllD properties → AllD (filter parts.is_stamp properties)
  stamps_pass properties h = each_map (λ q. D q × (parts.is_stamp q ≡ true)) D (filter parts.is_stamp properties) (λ q h. h.0) (each_filter D parts.is_stamp properties h)

  module _ (same : stamps new signature ≡ stamps document signature) (held : AllD (stamps document signature)) where
    methods_same : stamp_methods new signature ≡ stamp_methods document signature
    methods_same =
        ap (flat_map (stamp_method new)) same
        ∙ flat_same D (stamp_method new) (stamp_method document) (stamps document signature)
        (λ q d. ap first (called_stay document added place (ds (codes "CanonicalizationMethod")) q (p.apart q d))) held

    methods_pass : AllD (stamp_methods document signature)
    methods_pass = each_flat D D (stamp_method document) (stamps document signature)
        (λ q d. each_first D _ (inner q (is_called (ds (codes "CanonicalizationMethod"))) d)) held

    pub form_same : method new signature ≡ method document signature → Each (Apart document place) (method document signature) → form_line new signature ≡ form_line document signature
    form_same e method_apart =
        let old : List Spot = method document signature ++ stamp_methods document signature in
        let apart = to_apart (stamp_methods document signature) methods_pass in
        let t = ap (with_stray_text new) methods_same ∙ words.stray_stays document added place (stamp_methods document signature) apart in
        let f = (λ i. paths (filter (λ spot. is_none (form_in new spot)) (e i ++ methods_same i)))
        ∙ ap paths (filter_same (Apart document place) (λ spot. is_none (form_in new spot)) (λ spot. is_none (form_in document spot)) old
        (λ spot a. ap (λ (o : Option Form). is_none o) (form_stays document added place spot a))
        (each_append (Apart document place) (method document signature) (stamp_methods document signature) method_apart apart)) in
        λ i. t i ++ f i

    pub stamp_same : stamp_line new signature ≡ stamp_line document signature
    stamp_same =
        let old : List Spot = stamps document signature in
        let apart = to_apart old held in
        let m = ds (codes "CanonicalizationMethod") in
        let x = xades (codes "EncapsulatedTimeStamp") in
        let token_of : Spot → List Spot = λ holder. first (token_elements document holder) in
        let new_token_of : Spot → List Spot = λ holder. first (token_elements new holder) in
        let tokens_pass : AllD (flat_map token_of old) = each_flat D D token_of old (λ q d. each_first D _ (inner q (is_called x) d)) held in
        let n0 = ap (with_stray_text new) same ∙ words.stray_stays document added place old apart in
        let n1 = ap (further new m) same ∙ words.further_stay document added place m old apart in
        let n2 = ap (not_one new x) same ∙ words.not_one_stay document added place x old apart in
        let n3 : paths (filter (λ child. not (is_in_stamp child)) (flat_map (elements_in new) (stamps new signature)))
        ≡ paths (filter (λ child. not (is_in_stamp child)) (flat_map (elements_in document) old)) =
        ap (λ spots. paths (filter (λ child. not (is_in_stamp child)) (flat_map (elements_in new) spots))) same
        ∙ ap (λ spots. paths (filter (λ child. not (is_in_stamp child)) spots))
        (flat_same D (elements_in new) (elements_in document) old (λ q d. elements_stay document added place q (p.apart q d)) held) in
        let n4 : without_value new (flat_map new_token_of (stamps new signature)) ≡ without_value document (flat_map token_of old) =
        ap (λ spots. without_value new (flat_map new_token_of spots)) same
        ∙ ap (without_value new) (flat_same D new_token_of token_of old (λ q d. ap first (called_stay document added place x q (p.apart q d))) held)
        ∙ words.value_stays document added place (flat_map token_of old) (to_apart (flat_map token_of old) tokens_pass) in
        λ i. n0 i ++ n1 i ++ n2 i ++ n3 i ++ n4 i

    pub include_same : includes new signature ≡ includes document signature
    include_same = ap (called_in new (xades (codes "Include"))) same
        ∙ called_in_stay document added place (xades (codes "Include")) (stamps document signature) (to_apart (stamps document signature) held)

  -- Values.

  pub values_same : (q : Spot) → D q → values_of new q ≡ values_of document q
  values_same q d =
      ap (λ spots. cond (parts.is_values q) (q ∷ []) (cond (is_validation_data q) (filter parts.is_values spots) [])) (elements_stay document added place q (p.apart q d))

  pub values_pass : (q : Spot) → D q → AllD (values_of document q)
  values_pass q d = by_two (parts.is_values q) (is_validation_data q)
    where
      by_two : (a b : Bool) → AllD (cond a (q ∷ []) (cond b (filter parts.is_values (elements_in document q)) []))
      by_two true b = (d, tt)
      by_two false true = inner q parts.is_values d
      by_two false false = tt

  pub data_same : (values : Spot) → D values → data_of_values new values ≡ data_of_values document values
  data_same values d =
      let a = p.apart values d in
      let certificates = called_stay document added place (xades (codes "EncapsulatedX509Certificate")) values a in
      let holders = called_stay document added place (xades (codes "CRLValues")) values a in
      let lists : called_in new (xades (codes "EncapsulatedCRLValue")) (called new (xades (codes "CRLValues")) values) ≡ called_in document (xades (codes "EncapsulatedCRLValue")) (called document (xades (codes "CRLValues")) values) =
      ap (called_in new (xades (codes "EncapsulatedCRLValue"))) holders
      ∙ called_in_stay document added place (xades (codes "EncapsulatedCRLValue")) (called document (xades (codes "CRLValues")) values)
      (to_apart (called document (xades (codes "CRLValues")) values) (inner values (is_called (xades (codes "CRLValues"))) d)) in
      λ j. cond (is_called (xades (codes "CertificateValues")) values) (parts.as_kind parts.Certificate (certificates j)) (parts.as_kind parts.RevocationList (lists j))

  abbrev pub DatumD : Datum → Type 0
  DatumD datum = D datum.spot

  pub data_pass : (values : Spot) → D values → Each DatumD (data_of_values document values)
  data_pass values d = by_bool (is_called (xades (codes "CertificateValues")) values)
    where
      by_bool : (b : Bool) → Each DatumD
          (cond b (parts.as_kind parts.Certificate (called document (xades (codes "EncapsulatedX509Certificate")) values))
          (parts.as_kind parts.RevocationList (called_in document (xades (codes "EncapsulatedCRLValue")) (called document (xades (codes "CRLValues")) values))))
      by_bool true = kinds_of D parts.Certificate _ (inner values (is_called (xades (codes "EncapsulatedX509Certificate"))) d)
      by_bool false = kinds_of D parts.RevocationList _ (called_in_pass document place D p (xades (codes "EncapsulatedCRLValue")) (called document (xades (codes "CRLValues")) values)
          (inner values (is_called (xades (codes "CRLValues"))) d))

  abbrev pub crls : Nodes → Spot → List Spot
  crls d holder = cond (is_called (xades (codes "RevocationValues")) holder) (called d (xades (codes "CRLValues")) holder) []

  pub crls_same : (holder : Spot) → D holder → crls new holder ≡ crls document holder
  crls_same holder d = ap (λ spots. cond (is_called (xades (codes "RevocationValues")) holder) spots []) (called_stay document added place (xades (codes "CRLValues")) holder (p.apart holder d))

  pub crls_pass : (holder : Spot) → D holder → AllD (crls document holder)
  crls_pass holder d = by_bool (is_called (xades (codes "RevocationValues")) holder)
    where
      by_bool : (b : Bool) → AllD (cond b (called document (xades (codes "CRLValues")) holder) [])
      by_bool true = inner holder (is_called (xades (codes "CRLValues"))) d
      by_bool false = tt

  -- Read values of a property.

  pub property_data_same : (q : Spot) → D q → data_of new q ≡ data_of document q
  property_data_same q d =
      let t = ap first (called_stay document added place (xades (codes "EncapsulatedTimeStamp")) q (p.apart q d)) in
      let v = ap (flat_map (data_of_values new)) (values_same q d)
      ∙ flat_same D (data_of_values new) (data_of_values document) (values_of document q) data_same (values_pass q d) in
      λ i. cond (parts.is_stamp q) (parts.as_kind parts.Token (t i)) (v i)

  pub property_data_pass : (q : Spot) → D q → Each DatumD (data_of document q)
  property_data_pass q d = by_bool (parts.is_stamp q)
    where
      by_bool : (b : Bool) → Each DatumD (cond b (parts.as_kind parts.Token (first (token_elements document q))) (flat_map (data_of_values document) (values_of document q)))
      by_bool true = kinds_of D parts.Token (first (token_elements document q)) (each_first D _ (inner q (is_called (xades (codes "EncapsulatedTimeStamp"))) d))
      by_bool false = each_flat D DatumD (data_of_values document) (values_of document q) data_pass (values_pass q d)

  pub bad_same : (is_whole : DatumKind → List ℕ → Bool) (datum : Datum) → Apart document place datum.spot → is_bad is_whole new datum ≡ is_bad is_whole document datum
  bad_same is_whole datum a = ap (λ text. not (option_map_or (is_whole datum.kind) (skipping text) false)) (text_stays document added place datum.spot a)
