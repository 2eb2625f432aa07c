-- How many bytes are met is how many objects there are.
use Rattle.std.proofs.Common.{◌≡◌, ℕ, List, [], ◌∷◌, ◌++◌, length, filter, map, Ok, refl, sym, ap, ◌∙◌}
use Rattle.std.specs.Prelude.{flat_map}
use Rattle.std.specs.List.{All}
use Rattle.std.proofs.lemmas.List.Elements.{All-append, All-head, All-nil, All-same, All-tail, filter-append}
use Rattle.doc_spans.specs.declared.documents.Doc.{Doc}
use Rattle.doc_spans.specs.Seen.{document_in}
use Rattle.document_model.specs.Tree.{Nodes}
use Rattle.signature_elements.specs.Standing.{spot_of}
use Rattle.signature_model.specs.Parts as model
use Rattle.signature_model.specs.Parts.{Datum, data_in, data_of}
use Rattle.signature_model.specs.Readable.{is_bad}
use Rattle.signature_model.specs.Spots.{Spot}
use Rattle.signature_model.proofs.ShapeLines.{behind_nothing, front_nothing, map_nothing}
use Rattle.attached_items.proofs.ReadAs.{only_one, read_as}
use Rattle.qualifying_props.specs.Answers.{IsAnswer}
use Rattle.qualifying_props.specs.PartsOf.{IsProperty, key_octets}
use Rattle.qualifying_props.specs.Shown.{Shown, ShownProperty}
use Rattle.qualifying_props.specs.Whole.{is_whole, IsWhole}
use Rattle.qualifying_props.specs.Wholes.{HoldsWhole}
use Rattle.signature_objects.specs.Objects.{Object, limited, with_objects}
use Rattle.signature_objects.specs.Held.{objects, objects_in, objects_in_front}
use Rattle.signature_objects.specs.Met.{all_bytes, bytes_in, with_all, with_bytes}
use Rattle.signature_objects.proofs.Bytes.{IsKept, all_kept, all_met, bytes_of, bytes_of-append, many}
use Rattle.signature_objects.proofs.Standing.{front_bytes, front_kept, property_bytes, property_kept}

-- What was met of two lists, one behind the other.
pub with_all-append : (met xs ys : List (List ℕ)) → with_all met (xs ++ ys) ≡ with_all (with_all met xs) ys
with_all-append met [] ys = refl
with_all-append met (x ∷ xs) ys = with_all-append (with_bytes met x) xs ys

abbrev pub spots_of : Doc → List ShownProperty → List Spot
spots_of doc found = map (spot_of doc) (map (λ property. property.node) found)

abbrev pub bad_in : Nodes → List Datum → List Datum
bad_in document data_ = filter (is_bad is_whole document) data_

properties_bytes : (doc : Doc) (found : List ShownProperty) → All (IsProperty doc) found → bytes_of (flat_map (objects_in (document_in doc)) (spots_of doc found)) ≡ flat_map bytes_in found
properties_bytes doc [] each = refl
properties_bytes doc (property ∷ found) each =
    bytes_of-append (objects_in (document_in doc) (spot_of doc property.node)) (flat_map (objects_in (document_in doc)) (spots_of doc found))
    ∙ ap (λ front. front ++ bytes_of (flat_map (objects_in (document_in doc)) (spots_of doc found)))
    (property_bytes (document_in doc) (spot_of doc property.node) property (All-head (IsProperty doc) property found each))
    ∙ ap (λ behind. bytes_in property ++ behind) (properties_bytes doc found (All-tail (IsProperty doc) property found each))

properties_kept : (doc : Doc) (found : List ShownProperty) → All (IsProperty doc) found → All HoldsWhole found → bad_in (document_in doc) (flat_map (data_of (document_in doc)) (spots_of doc found)) ≡ []
    → All IsKept (flat_map (objects_in (document_in doc)) (spots_of doc found))
properties_kept doc [] each whole e = All-nil IsKept
properties_kept doc (property ∷ found) each whole e =
    let document = document_in doc in
    let spot : Spot = spot_of doc property.node in
    let both = sym (filter-append (is_bad is_whole document) (data_of document spot) (flat_map (data_of document) (spots_of doc found))) ∙ e in
    All-append IsKept (objects_in document spot) (flat_map (objects_in document) (spots_of doc found))
    (property_kept document spot property (All-head (IsProperty doc) property found each) (All-head HoldsWhole property found whole) (front_nothing _ (bad_in document (flat_map (data_of document) (spots_of doc found))) both))
    (properties_kept doc found (All-tail (IsProperty doc) property found each) (All-tail HoldsWhole property found whole) (behind_nothing (bad_in document (data_of document spot)) _ both))

-- No certificate, list or token of a signature that is read is bad.
pub none_bad : (doc : Doc) (parts : Shown) → IsAnswer doc (Ok parts) → bad_in (document_in doc) (flat_map (data_of (document_in doc)) (model.properties (document_in doc) (spot_of doc parts.signature))) ≡ []
none_bad doc parts (e, p, w) =
    let document = document_in doc in
    let signature : Spot = spot_of doc parts.signature in
    let read = read_as is_whole document signature (only_one is_whole document signature e).parts in
    let none = map_nothing (λ datum. datum.spot.path) (bad_in document (data_in document signature)) read.data_ in
    let keys : List Datum = model.as_kind model.Certificate (model.key_certificates document signature) in
    let both = sym (filter-append (is_bad is_whole document) keys (flat_map (data_of document) (model.properties document signature))) ∙ none in
    behind_nothing (bad_in document keys) _ both

-- What is met in a signature that is read are its objects.
pub counted : (doc : Doc) (parts : Shown) → IsAnswer doc (Ok parts) → length (with_all [] (all_bytes parts)) ≡ limited (objects (document_in doc) (spot_of doc parts.signature) [])
counted doc parts is =
    let document = document_in doc in
    let signature : Spot = spot_of doc parts.signature in
    let p = is.1 in
    let w = is.2 in
    let count : ℕ = length (model.references document signature) in
    let front : List Object = objects_in_front document signature in
    let behind : List Object = flat_map (objects_in document) (model.properties document signature) in
    let are : spots_of doc parts.properties ≡ model.properties document signature = p.properties.elements.are in
    let front_is : bytes_of front ≡ parts.key_certs = front_bytes count (key_octets document signature) ∙ sym p.key_certs in
    let behind_is : bytes_of behind ≡ flat_map bytes_in parts.properties =
    ap (λ spots. bytes_of (flat_map (objects_in document) spots)) (sym are) ∙ properties_bytes doc parts.properties p.properties.each in
    let keys : All (IsWhole model.Certificate) (key_octets document signature) = All-same (IsWhole model.Certificate) _ _ (sym p.key_certs) w.key_certs in
    let front_whole : All IsKept front = front_kept count (key_octets document signature) keys in
    let bad = ap (λ spots. bad_in document (flat_map (data_of document) spots)) are ∙ none_bad doc parts is in
    let behind_whole : All IsKept behind = All-same IsKept _ _ (ap (λ spots. flat_map (objects_in document) spots) (sym are)) (properties_kept doc parts.properties p.properties.each w.properties bad) in
    let first : bytes_of (with_objects [] front) ≡ with_all [] parts.key_certs =
    all_met [] front (All-nil IsKept) front_whole ∙ ap (with_all []) front_is in
    let all : bytes_of (objects document signature []) ≡ with_all (with_all [] parts.key_certs) (flat_map bytes_in parts.properties) =
    all_met (with_objects [] front) behind (all_kept [] front (All-nil IsKept) front_whole) behind_whole
    ∙ ap (λ met. with_all met (bytes_of behind)) first ∙ ap (with_all (with_all [] parts.key_certs)) behind_is in
    ap length (with_all-append [] parts.key_certs (flat_map bytes_in parts.properties) ∙ sym all) ∙ many (objects document signature [])
