-- A signature that is read holds whole objects.
use Rattle.std.proofs.Common.{◌≡◌, ℕ, Bool, true, false, cond, not, List, [], ◌∷◌, Option, Some, None, inl, inr, refl, sym, ◌∙◌, ap, subst, codes}
use Rattle.std.proofs.lemmas.Bool.{not-false}
use Rattle.std.proofs.lemmas.List.Elements.{All-nil, All-cons, All-append, All-same, All-head, All-tail}
use Rattle.std.specs.Prelude.{filter, flat_map, map, IfSome, unwrap_or}
use Rattle.std.specs.List.{All}
use Rattle.std.specs.Option.{option_map_or}
use Rattle.document_model.specs.Characters.{is_empty}
use Rattle.document_model.specs.Tree.{Nodes, Path}
use Rattle.doc_spans.specs.declared.documents.Doc.{Doc}
use Rattle.doc_spans.specs.Seen.{document_in}
use Rattle.signature_elements.specs.Standing.{spot_of}
use Rattle.signature_model.specs.Faults.{ShapeFault, first_fault, first_place}
use Rattle.signature_model.specs.Parts.{Datum, DatumKind, Certificate, RevocationList, Token, as_kind, counted, data_of, data_of_values, values_of, includes, is_stamp, key_certificates, octets_in, octets_or_none, properties, stamps, token, token_elements}
use Rattle.signature_model.specs.Parts as model
use Rattle.signature_model.specs.Readable.{Answer, Read, answer, bad_data, by_data, by_include, by_shape, is_bad, only, read_parts}
use Rattle.signature_model.specs.Shape.{shape_faults}
use Rattle.signature_model.specs.Spots.{Spot, called, called_in, first, is_called, paths}
use Rattle.signature_model.specs.Vocabulary.{xades}
use Rattle.signature_model.proofs.Lists.{not_both}
use Rattle.qualifying_props.specs.Data.{all_octets, bad_places}
use Rattle.qualifying_props.specs.Nodes.{IsShaped}
use Rattle.qualifying_props.specs.PartsOf.{AreParts, IsProperty, IsPropertyOf}
use Rattle.qualifying_props.specs.Shown.{Shown, ShownProperty}
use Rattle.qualifying_props.specs.Whole.{is_whole, IsWhole}
use Rattle.qualifying_props.specs.Wholes.{AreWhole, HoldsWhole, IsMaterial}
use Rattle.qualifying_props.proofs.Reading.{all_octets-append, bad_places-append}
use Rattle.signature_model.proofs.ShapeLines.{behind_nothing, front_nothing, map_nothing, not_nothing}
use Rattle.qualifying_props.proofs.Shaped.{no_stamp_lacks}

-- What no test keeps.

split : {A : Type 0} (b : Bool) (x : A) (xs : List A) → cond b (x ∷ xs) xs ≡ [] → (b ≡ false) × (xs ≡ [])
split true x xs e = absurd (not_nothing x xs e)
split false x xs e = (refl, e)

none_bad : (document : Nodes) (all : List Datum) → bad_places document all ≡ [] → filter (is_bad is_whole document) all ≡ []
none_bad document all e = map_nothing (λ datum. datum.spot.path) (filter (is_bad is_whole document) all) e

-- One object.

datum_whole : (document : Nodes) (kind : DatumKind) (spot : Spot) → is_bad is_whole document (record { kind = kind; spot = spot }) ≡ false
    → IsWhole kind (unwrap_or (octets_in document spot) [])
datum_whole document kind spot e = by_octets (octets_in document spot) e
  where
    by_octets : (o : Option (List ℕ)) → not (option_map_or (is_whole kind) o false) ≡ false → IsWhole kind (unwrap_or o [])
    by_octets None f = absurd (not_both f)
    by_octets (Some octets) f = not-false (is_whole kind octets) f

-- Several of one kind.

kind_whole : (document : Nodes) (kind : DatumKind) (spots : List Spot) → filter (is_bad is_whole document) (as_kind kind spots) ≡ []
    → All (IsWhole kind) (map (λ spot. unwrap_or (octets_in document spot) []) spots)
kind_whole document kind [] e = All-nil (IsWhole kind)
kind_whole document kind (spot ∷ spots) e =
    let s = split (is_bad is_whole document (record { kind = kind; spot = spot })) (record { kind = kind; spot = spot }) (filter (is_bad is_whole document) (as_kind kind spots)) e in
    All-cons (IsWhole kind) _ _ (datum_whole document kind spot s.0) (kind_whole document kind spots s.1)

kind_material : (document : Nodes) (kind : DatumKind) → ((octets : List ℕ) → IsWhole kind octets → IsMaterial octets) → (spots : List Spot)
    → filter (is_bad is_whole document) (as_kind kind spots) ≡ [] → All IsMaterial (all_octets document (as_kind kind spots))
kind_material document kind h [] e = All-nil IsMaterial
kind_material document kind h (spot ∷ spots) e =
    let s = split (is_bad is_whole document (record { kind = kind; spot = spot })) (record { kind = kind; spot = spot }) (filter (is_bad is_whole document) (as_kind kind spots)) e in
    All-cons IsMaterial _ _ (h _ (datum_whole document kind spot s.0)) (kind_material document kind h spots s.1)

-- Certificates and CRLs of properties.

abbrev certificates_in : Nodes → Spot → List Datum
certificates_in document values = as_kind Certificate (called document (xades (codes "EncapsulatedX509Certificate")) values)

abbrev lists_in : Nodes → Spot → List Datum
lists_in document values = as_kind RevocationList (called_in document (xades (codes "EncapsulatedCRLValue")) (called document (xades (codes "CRLValues")) values))

one_material : (document : Nodes) (values : Spot) → bad_places document (data_of_values document values) ≡ [] → All IsMaterial (all_octets document (data_of_values document values))
one_material document values e = by_name (is_called (xades (codes "CertificateValues")) values) e
  where
    by_name : (b : Bool) → bad_places document (cond b (certificates_in document values) (lists_in document values)) ≡ []
        → All IsMaterial (all_octets document (cond b (certificates_in document values) (lists_in document values)))
    by_name true f =
        kind_material document Certificate (λ octets w. inl w) (called document (xades (codes "EncapsulatedX509Certificate")) values) (none_bad document (certificates_in document values) f)
    by_name false f =
        kind_material document RevocationList (λ octets w. inr w) (called_in document (xades (codes "EncapsulatedCRLValue")) (called document (xades (codes "CRLValues")) values))
        (none_bad document (lists_in document values) f)

all_material : (document : Nodes) (values : List Spot) → bad_places document (flat_map (data_of_values document) values) ≡ []
    → All IsMaterial (all_octets document (flat_map (data_of_values document) values))
all_material document [] e = All-nil IsMaterial
all_material document (v ∷ values) e =
    let both = sym (bad_places-append document (data_of_values document v) (flat_map (data_of_values document) values)) ∙ e in
    All-same IsMaterial _ _ (all_octets-append document (data_of_values document v) (flat_map (data_of_values document) values))
    (All-append IsMaterial _ _ (one_material document v (front_nothing _ (bad_places document (flat_map (data_of_values document) values)) both))
    (all_material document values (behind_nothing (bad_places document (data_of_values document v)) _ both)))

-- A property.

token_whole : (document : Nodes) (property : Spot) → is_empty (token_elements document property) ≡ false
    → bad_places document (as_kind Token (first (token_elements document property))) ≡ [] → IsWhole Token (token document property)
token_whole document property h e = by_elements (token_elements document property) h e
  where
    by_elements : (spots : List Spot) → is_empty spots ≡ false → bad_places document (as_kind Token (first spots)) ≡ [] → IsWhole Token (octets_or_none document spots)
    by_elements [] g f = absurd (not_both g)
    by_elements (spot ∷ spots) g f = All-head (IsWhole Token) (unwrap_or (octets_in document spot) []) [] (kind_whole document Token (spot ∷ []) (none_bad document (as_kind Token (spot ∷ [])) f))

property_whole : (document : Nodes) (spot : Spot) (property : ShownProperty) → IsPropertyOf document spot property
    → (is_stamp spot ≡ true → is_empty (token_elements document spot) ≡ false) → bad_places document (data_of document spot) ≡ [] → HoldsWhole property
property_whole document spot property p h e = by_kind (is_stamp spot) refl
  where
    by_kind : (b : Bool) → is_stamp spot ≡ b → HoldsWhole property
    by_kind true s =
        let tokens : List Datum = as_kind Token (first (token_elements document spot)) in
        let others : List Datum = flat_map (data_of_values document) (values_of document spot) in
        let bad : bad_places document tokens ≡ [] = ap (λ b. bad_places document (cond b tokens others)) (sym s) ∙ e in
        let T : Option (List ℕ) → Type 0 = λ o. IfSome o (IsWhole Token) in
        let told : property.token ≡ Some (token document spot) = p.token ∙ ap (λ b. cond b (Some (token document spot)) None) s in
        record {
          token = subst T (sym told) (token_whole document spot (h s) bad);
          parts = All-same IsMaterial _ [] (p.parts ∙ ap (λ b. cond b [] (all_octets document (data_of document spot))) s) (All-nil IsMaterial);
        }
    by_kind false s =
        let tokens : List Datum = as_kind Token (first (token_elements document spot)) in
        let others : List Datum = flat_map (data_of_values document) (values_of document spot) in
        let bad : bad_places document others ≡ [] = ap (λ b. bad_places document (cond b tokens others)) (sym s) ∙ e in
        let T : Option (List ℕ) → Type 0 = λ o. IfSome o (IsWhole Token) in
        let told : property.token ≡ None = p.token ∙ ap (λ b. cond b (Some (token document spot)) None) s in
        record {
          token = subst T (sym told) tt;
          parts = All-same IsMaterial _ _ (p.parts ∙ ap (λ b. cond b [] (all_octets document (cond b tokens others))) s) (all_material document (values_of document spot) bad);
        }

-- All properties.

properties_whole : (doc : Doc) (found : List ShownProperty) → All (IsProperty doc) found
    → filter (λ stamp. is_empty (token_elements (document_in doc) stamp)) (filter is_stamp (map (spot_of doc) (map (λ property. property.node) found))) ≡ []
    → bad_places (document_in doc) (flat_map (data_of (document_in doc)) (map (spot_of doc) (map (λ property. property.node) found))) ≡ [] → All HoldsWhole found
properties_whole doc [] each lacks e = All-nil HoldsWhole
properties_whole doc (property ∷ found) each lacks e =
    let document = document_in doc in
    let spot : Spot = spot_of doc property.node in
    let spots : List Spot = map (spot_of doc) (map (λ p. p.node) found) in
    let both = sym (bad_places-append document (data_of document spot) (flat_map (data_of document) spots)) ∙ e in
    let s = stamps_split (is_stamp spot) (λ stamp. is_empty (token_elements document stamp)) spot (filter is_stamp spots) lacks in
    All-cons HoldsWhole property found
    (property_whole document spot property (All-head (IsProperty doc) property found each) s.0 (front_nothing _ (bad_places document (flat_map (data_of document) spots)) both))
    (properties_whole doc found (All-tail (IsProperty doc) property found each) s.1 (behind_nothing (bad_places document (data_of document spot)) _ both))
  where
    stamps_split : (b : Bool) (lacks : Spot → Bool) (spot : Spot) (spots : List Spot) → filter lacks (cond b (spot ∷ spots) spots) ≡ [] → (b ≡ true → lacks spot ≡ false) × (filter lacks spots ≡ [])
    stamps_split true lacks spot spots f = let r = split (lacks spot) spot (filter lacks spots) f in ((λ g. r.0), r.1)
    stamps_split false lacks spot spots f = ((λ g. absurd (not_both (sym g))), f)

-- A signature that is read.

record NoFault (document : Nodes) (signature : Spot) : Type 0 where
  shaped : IsShaped document signature
  none_bad : bad_places document (model.data_in document signature) ≡ []

no_place : (places : List Path) → first_place places ≡ None → places ≡ []
no_place [] e = refl
no_place (place ∷ places) e = cc

no_fault : (document : Nodes) (signature : Spot) → read_parts is_whole document signature ≡ Read signature → NoFault document signature
no_fault document signature e = by_shaped (first_fault (shape_faults document signature)) refl
  where
    by_bad : (o : Option Path) → by_data signature o ≡ Read signature → o ≡ None
    by_bad None f = refl
    by_bad (Some place) f = cc

    by_included : (next : Answer) (o : Option Path) → by_include next o ≡ Read signature → next ≡ Read signature
    by_included next None f = f
    by_included next (Some place) f = cc

    by_shaped : (o : Option ShapeFault) → first_fault (shape_faults document signature) ≡ o → NoFault document signature
    by_shaped None f =
        let next = by_include (by_data signature (first_place (bad_data is_whole document signature))) (first_place (paths (includes document signature))) in
        let read : next ≡ Read signature = ap (by_shape next) (sym f) ∙ e in
        let values = by_included (by_data signature (first_place (bad_data is_whole document signature))) (first_place (paths (includes document signature))) read in
        record { shaped = record { none = f }; none_bad = no_place (bad_data is_whole document signature) (by_bad (first_place (bad_data is_whole document signature)) values) }
    by_shaped (Some fault) f =
        let next = by_include (by_data signature (first_place (bad_data is_whole document signature))) (first_place (paths (includes document signature))) in
        let shape : by_shape next (Some fault) ≡ Read signature = ap (by_shape next) (sym f) ∙ e in cc

pub are_whole : (doc : Doc) (parts : Shown) → answer is_whole (document_in doc) ≡ Read (spot_of doc parts.signature) → AreParts doc parts → AreWhole parts
are_whole doc parts e p =
    let document = document_in doc in
    let signature : Spot = spot_of doc parts.signature in
    let n = no_fault document signature (ap (only (read_parts is_whole document)) p.counted.spot ∙ e) in
    let both = sym (bad_places-append document (as_kind Certificate (key_certificates document signature)) (flat_map (data_of document) (properties document signature))) ∙ n.none_bad in
    let keys = front_nothing _ (bad_places document (flat_map (data_of document) (properties document signature))) both in
    let others = behind_nothing (bad_places document (as_kind Certificate (key_certificates document signature))) _ both in
    let are = sym p.properties.elements.are in
    record {
      key_certs = All-same (IsWhole Certificate) _ _ p.key_certs (kind_whole document Certificate (key_certificates document signature) (none_bad document (as_kind Certificate (key_certificates document signature)) keys));
      properties = properties_whole doc parts.properties p.properties.each
          (ap (λ spots. filter (λ stamp. is_empty (token_elements document stamp)) (filter is_stamp spots)) (sym are) ∙ no_stamp_lacks document signature n.shaped)
          (ap (λ spots. bad_places document (flat_map (data_of document) spots)) (sym are) ∙ others);
    }
