-- What the parts of a signature show is what stands in it.
use Rattle.std.proofs.Common.{◌≡◌, ℕ, zero, suc, ◌+◌, ◌≤◌, Bool, true, false, cond, List, [], ◌∷◌, ◌++◌, length, map, filter, take, take_all, Some, None, Ok, slice_get, refl, sym, ap, ◌∙◌, subst, append_assoc, append-nil, arith}
use Rattle.std.specs.Prelude.{flat_map}
use Rattle.std.specs.List.{All}
use Rattle.std.specs.Option.{option_map_or}
use Rattle.std.proofs.lemmas.List.{length-map, take_more}
use Rattle.std.proofs.lemmas.List.Concat.{flat_map-append}
use Rattle.std.proofs.lemmas.Option.{get_or_from_slice_get, slice_get_within}
use Rattle.std.proofs.lemmas.List.Elements.{All-append, All-cons, All-head, All-nil, All-same, All-tail, filter-append}
use Rattle.std.proofs.lemmas.Slice.Eq.{bytes_eq-Decides}
use Rattle.doc_spans.specs.declared.documents.Doc.{Doc}
use Rattle.doc_spans.specs.Seen.{document_in}
use Rattle.document_model.specs.Tree.{Nodes}
use Rattle.signature_elements.specs.Standing.{spot_of}
use Rattle.signature_model.specs.Parts as model
use Rattle.signature_model.specs.Parts.{Datum, DatumKind, data_of, data_of_values, is_stamp, octets_or_none, values_of}
use Rattle.signature_model.specs.Readable.{is_bad}
use Rattle.signature_model.specs.Spots.{Spot}
use Rattle.signature_model.proofs.Lists.{not_both}
use Rattle.signature_model.proofs.ShapeLines.{behind_nothing, front_nothing}
use Rattle.qualifying_props.specs.Answers.{IsAnswer}
use Rattle.qualifying_props.specs.PartsOf.{IsProperty, IsPropertyOf}
use Rattle.qualifying_props.specs.Shown.{Shown, ShownProperty}
use Rattle.qualifying_props.specs.Whole.{is_whole, IsWhole}
use Rattle.qualifying_props.specs.Wholes.{HoldsWhole}
use Rattle.signature_objects.specs.Objects.{Object, Octets, Value, Certificate, RevocationList, Token, octets_from, with_objects}
use Rattle.signature_objects.specs.Held.{material_in, objects, objects_in, objects_in_front, objects_of_datum, objects_of_token, objects_to}
use Rattle.signature_objects.specs.Met.{bytes_of_token}
use Rattle.signature_objects.proofs.Bytes.{IsKept, bytes_of}
use Rattle.signature_objects.proofs.Counted.{bad_in, none_bad, spots_of}
use Rattle.signature_objects.proofs.Standing.{IsNoToken, objects_of_data, property_bytes, property_kept, values_no_token}
use Rattle.signature_objects.proofs.Whole.{certificate_no_list}
use Rattle.existence_times.specs.Shown as cases
use Rattle.signature_evidence.proofs.Numbers.{with_both}
use Rattle.case_steps.specs.Built.{IsPart, ShowsObjects}
use Rattle.case_objects.specs.Walks.{front_objects, object_in, property_objects}

-- Whole certificates and revocation lists are told apart by their octets.

list_is_none : (octets : List ℕ) → IsWhole model.RevocationList octets → is_whole model.Certificate octets ≡ false
list_is_none octets l = by_bool (is_whole model.Certificate octets) refl
  where
    by_bool : (b : Bool) → is_whole model.Certificate octets ≡ b → is_whole model.Certificate octets ≡ false
    by_bool true c = absurd (not_both (sym ((bytes_eq-Decides octets octets).1 refl) ∙ certificate_no_list octets octets c l))
    by_bool false e = e

pub certificate_in : (octets : List ℕ) → IsWhole model.Certificate octets → object_in octets ≡ Certificate octets
certificate_in octets c = ap (λ b. cond b (Certificate octets) (RevocationList octets)) c

pub list_in : (octets : List ℕ) → is_whole model.Certificate octets ≡ false → object_in octets ≡ RevocationList octets
list_in octets e = ap (λ b. cond b (Certificate octets) (RevocationList octets)) e

material_same : (objects : List Object) → All IsKept objects → All IsPart objects → objects ≡ map object_in (bytes_of objects)
material_same [] k p = refl
material_same (Certificate octets ∷ objects) k p =
    let rest = material_same objects (All-tail IsKept (Certificate octets) objects k) (All-tail IsPart (Certificate octets) objects p) in
    λ i. sym (certificate_in octets (All-head IsKept (Certificate octets) objects k)) i ∷ rest i
material_same (RevocationList octets ∷ objects) k p =
    let rest = material_same objects (All-tail IsKept (RevocationList octets) objects k) (All-tail IsPart (RevocationList octets) objects p) in
    λ i. sym (list_in octets (list_is_none octets (All-head IsKept (RevocationList octets) objects k))) i ∷ rest i
material_same (Octets k ∷ objects) kept p = absurd (All-head IsPart (Octets k) objects p)
material_same (Value ∷ objects) kept p = absurd (All-head IsPart Value objects p)
material_same (Token octets ∷ objects) kept p = absurd (All-head IsPart (Token octets) objects p)

data_parts : (document : Nodes) (data_ : List Datum) → All IsNoToken data_ → All IsPart (objects_of_data document data_)
data_parts document [] n = All-nil IsPart
data_parts document (datum ∷ data_) n =
    All-append IsPart (objects_of_datum datum.kind (octets_or_none document (datum.spot ∷ []))) (objects_of_data document data_)
    (by_kind datum.kind (octets_or_none document (datum.spot ∷ [])) (All-head IsNoToken datum data_ n))
    (data_parts document data_ (All-tail IsNoToken datum data_ n))
  where
    by_kind : (kind : DatumKind) (octets : List ℕ) → (kind ≡ model.Token → ⊥) → All IsPart (objects_of_datum kind octets)
    by_kind model.Certificate octets m = All-cons IsPart (Certificate octets) [] tt (All-nil IsPart)
    by_kind model.RevocationList octets m = All-cons IsPart (RevocationList octets) [] tt (All-nil IsPart)
    by_kind model.Token octets m = absurd (m refl)

-- A property.

property_same : (document : Nodes) (spot : Spot) (property : ShownProperty) → IsPropertyOf document spot property → HoldsWhole property
    → filter (is_bad is_whole document) (data_of document spot) ≡ [] → property_objects property ≡ objects_in document spot
property_same document spot property p w e = by_kind (is_stamp spot) refl
  where
    by_kind : (b : Bool) → is_stamp spot ≡ b → property_objects property ≡ objects_in document spot
    by_kind true s =
        let told = p.token ∙ ap (λ b. cond b (Some (model.token document spot)) None) s in
        ap (λ token. option_map_or objects_of_token token (map object_in property.parts)) told
        ∙ sym (ap (λ b. cond b (objects_of_token (model.token document spot)) (material_in document spot)) s)
    by_kind false s =
        let told = p.token ∙ ap (λ b. cond b (Some (model.token document spot)) None) s in
        let others : List Datum = flat_map (data_of_values document) (values_of document spot) in
        let are : All IsPart (objects_in document spot) =
        All-same IsPart _ _ (ap (λ b. cond b (objects_of_token (model.token document spot)) (material_in document spot)) s)
        (data_parts document others (values_no_token document (values_of document spot))) in
        let bytes : bytes_of (objects_in document spot) ≡ property.parts =
        property_bytes document spot property p ∙ ap (λ token. option_map_or bytes_of_token token property.parts) told in
        ap (λ token. option_map_or objects_of_token token (map object_in property.parts)) told
        ∙ sym (material_same (objects_in document spot) (property_kept document spot property p w e) are ∙ ap (map object_in) bytes)

-- what it shows is what stands in its element
abbrev pub IsSame : Doc → ShownProperty → Type 0
IsSame doc property = property_objects property ≡ objects_in (document_in doc) (spot_of doc property.node)

properties_same : (doc : Doc) (found : List ShownProperty) → All (IsProperty doc) found → All HoldsWhole found
    → bad_in (document_in doc) (flat_map (data_of (document_in doc)) (spots_of doc found)) ≡ [] → All (IsSame doc) found
properties_same doc [] each whole e = All-nil (IsSame doc)
properties_same doc (property ∷ found) each whole e =
    let document = document_in doc in
    let spot : Spot = spot_of doc property.node in
    let both = sym (filter-append (is_bad is_whole document) (data_of document spot) (flat_map (data_of document) (spots_of doc found))) ∙ e in
    All-cons (IsSame doc) property found
    (property_same document spot property (All-head (IsProperty doc) property found each) (All-head HoldsWhole property found whole)
    (front_nothing _ (bad_in document (flat_map (data_of document) (spots_of doc found))) both))
    (properties_same doc found (All-tail (IsProperty doc) property found each) (All-tail HoldsWhole property found whole)
    (behind_nothing (bad_in document (data_of document spot)) _ both))

taken_same : (doc : Doc) (n : ℕ) (found : List ShownProperty) → All (IsSame doc) found
    → flat_map property_objects (take n found) ≡ flat_map (objects_in (document_in doc)) (take n (spots_of doc found))
taken_same doc zero found same = refl
taken_same doc (suc n) [] same = refl
taken_same doc (suc n) (property ∷ found) same =
    let head = All-head (IsSame doc) property found same in
    let rest = taken_same doc n found (All-tail (IsSame doc) property found same) in
    λ i. head i ++ rest i

-- All properties up to a number.

front_same : (doc : Doc) (parts : Shown) → IsAnswer doc (Ok parts) → front_objects parts ≡ objects_in_front (document_in doc) (spot_of doc parts.signature)
front_same doc parts (e, p, w) =
    let count : length parts.references ≡ length (model.references (document_in doc) (spot_of doc parts.signature)) =
    sym (length-map parts.references (spot_of doc)) ∙ ap (λ (spots : List Spot). length spots) p.references.are in
    ap (λ (n : ℕ). octets_from 1 n ++ Value ∷ map (λ octets. Certificate octets) parts.key_certs) count
    ∙ ap (λ (keys : List (List ℕ)). octets_from 1 (length (model.references (document_in doc) (spot_of doc parts.signature))) ++ Value ∷ map (λ octets. Certificate octets) keys) p.key_certs

pub walked_to : (doc : Doc) (parts : Shown) → IsAnswer doc (Ok parts) → (n : ℕ)
    → with_objects (with_objects [] (front_objects parts)) (flat_map property_objects (take n parts.properties))
    ≡ objects_to (document_in doc) (spot_of doc parts.signature) (take n (model.properties (document_in doc) (spot_of doc parts.signature)))
walked_to doc parts is n =
    let document = document_in doc in
    let signature : Spot = spot_of doc parts.signature in
    let p = is.1 in
    let are : spots_of doc parts.properties ≡ model.properties document signature = p.properties.elements.are in
    let none = ap (λ spots. bad_in document (flat_map (data_of document) spots)) are ∙ none_bad doc parts is in
    let taken = taken_same doc n parts.properties (properties_same doc parts.properties p.properties.each is.2.properties none)
    ∙ ap (λ (spots : List Spot). flat_map (objects_in document) (take n spots)) are in
    let front = front_same doc parts is in
    λ i. with_objects (with_objects [] (front i)) (taken i)

pub walked_all : (doc : Doc) (parts : Shown) → IsAnswer doc (Ok parts) → (n : ℕ) → length parts.properties ≤ n
    → with_objects (with_objects [] (front_objects parts)) (flat_map property_objects (take n parts.properties))
    ≡ objects (document_in doc) (spot_of doc parts.signature) []
walked_all doc parts is n past =
    let spots : List Spot = model.properties (document_in doc) (spot_of doc parts.signature) in
    let many : length spots ≡ length parts.properties =
    sym (ap (λ (ss : List Spot). length ss) is.1.properties.elements.are) ∙ length-map (map (λ property. property.node) parts.properties) (spot_of doc)
    ∙ length-map parts.properties (λ property. property.node) in
    let over : length spots ≤ n = omega (arith, many, past) in
    walked_to doc parts is n ∙ ap (objects_to (document_in doc) (spot_of doc parts.signature)) (take_all n spots over)

-- one property more
pub walked_on : (base : List Object) (found : List ShownProperty) (i : ℕ) (property : ShownProperty) → slice_get found i ≡ Some property
    → with_objects (with_objects base (flat_map property_objects (take i found))) (property_objects property)
    ≡ with_objects base (flat_map property_objects (take (i + 1) found))
walked_on base found i property at =
    let taken : take (i + 1) found ≡ take i found ++ property ∷ [] =
    take_more found i property (slice_get_within found i property at) ∙ ap (λ p. take i found ++ p ∷ []) (get_or_from_slice_get found i property property at) in
    sym (with_both base (flat_map property_objects (take i found)) (property_objects property))
    ∙ ap (λ more. with_objects base (flat_map property_objects (take i found) ++ more)) (sym (append-nil (property_objects property)))
    ∙ ap (with_objects base) (sym (ap (flat_map property_objects) taken ∙ flat_map-append property_objects (take i found) (property ∷ [])))

-- what stands in front, once the certificates of KeyInfo are added
pub front_shown : (parts : Shown) (case : cases.Shown)
    → ShowsObjects (with_objects (with_objects [] (octets_from 1 (length parts.references) ++ Value ∷ [])) (map (λ octets. Certificate octets) parts.key_certs)) case
    → ShowsObjects (with_objects [] (front_objects parts)) case
front_shown parts case s =
    let keys : List Object = map (λ octets. Certificate octets) parts.key_certs in
    let begun : List Object = octets_from 1 (length parts.references) ++ Value ∷ [] in
    subst (λ (all : List Object). ShowsObjects all case)
    (sym (with_both [] begun keys) ∙ ap (with_objects []) (append_assoc (octets_from 1 (length parts.references)) (Value ∷ []) keys)) s
