-- The shape of a signature, one line after another; each line gives the places of its faults. What it asks is this project's own, over
-- the element names and the order of XML Signature 1.1, "Core Signature Syntax", and EN 319 132-1, clauses 4.3 and 5.
--
-- An element that is read has no text between the elements that it holds but white space; comments and PIs may stand there. An element
-- that is read for its value has nothing but text. Where one of these two is broken, the place is that element, and the line is the one
-- that tells its content; if none does, the first that mentions it; if none does, `Values`. Neither is asked of an Object without
-- QualifyingProperties, nor of what is not read.
--
-- Something that is missing is a fault of the element in which it should stand (if several might hold it, of the first). If that element
-- is missing too, an earlier line has a fault at the nearest one that is there. Of elements that are too many, the later ones are faults.
use Rattle.std.specs.Prelude.{ℕ, Bool, true, false, not, ◌&&◌, ◌||◌, if◌then◌else◌, List, [], ◌∷◌, ◌++◌, drop, filter, flat_map, map, Option, Some, None, is_none, codes}
use Rattle.std.specs.List.{list_any}
use Rattle.std.specs.Option.{option_map_or}
use Rattle.document_model.specs.Characters.{◌is◌, is_empty}
use Rattle.document_model.specs.Items.{Attribute}
use Rattle.document_model.specs.Tree.{Nodes, Path}
use Rattle.signature_model.specs.Vocabulary.{ds, xades, enveloped_name, base64_name, fragment}
use Rattle.signature_model.specs.Spots.{Spot, is_called, attribute, has_attribute, attributes_in, elements_in, called, called_in, first, paths}
use Rattle.signature_model.specs.Holding.{one, at_most_one, any_number, one_or_more, misfits, lacking, further, not_one, without_attribute, with_stray_text, without_value, without_octets, without_text}
use Rattle.signature_model.specs.Parts.{signed_info, value, key_info, objects, method, signature_method, references, qualifying_objects, qualifying, signed_properties, unsigned, unsigned_signature, properties, stamps, is_validation_data, values_of, form_in, stamp_method, token_elements, key_data, key_certificates, signed_signature_properties, signing_time, signing_certificate_property, certificate_digest, digest_methods, digest_values, digest_kind, data_of_values, is_typed, uri, transform_lists, transforms}
use Rattle.signature_model.specs.Faults.{ShapeFault, of_line}
use Rattle.signature_model.specs.Faults as words

-- Children of the Signature, in order: one SignedInfo, one SignatureValue, one KeyInfo, any number of Objects
abbrev pub parts_line : Nodes → Spot → List Path
parts_line document signature =
    with_stray_text document (signature ∷ [])
    ++ misfits document
    (one (ds (codes "SignedInfo")) ∷ one (ds (codes "SignatureValue")) ∷ one (ds (codes "KeyInfo")) ∷ any_number (ds (codes "Object")) ∷ [])
    (signature ∷ [])

-- Children of SignedInfo, in order: one CanonicalizationMethod, one SignatureMethod, and References, at least one
abbrev pub info_line : Nodes → Spot → List Path
info_line document signature =
    with_stray_text document (signed_info document signature ++ method document signature ++ signature_method document signature)
    ++ misfits document
    (one (ds (codes "CanonicalizationMethod")) ∷ one (ds (codes "SignatureMethod")) ∷ one_or_more (ds (codes "Reference")) ∷ [])
    (signed_info document signature)

-- The methods of SignedInfo and of stamps: each names one of the four canonical forms
abbrev pub stamp_methods : Nodes → Spot → List Spot
stamp_methods document signature = flat_map (stamp_method document) (stamps document signature)

abbrev pub form_line : Nodes → Spot → List Path
form_line document signature =
    with_stray_text document (stamp_methods document signature)
    ++ paths (filter (λ spot. is_none (form_in document spot)) (method document signature ++ stamp_methods document signature))

-- The signature's algorithm is named
abbrev pub method_line : Nodes → Spot → List Path
method_line document signature = without_attribute (codes "Algorithm") (signature_method document signature)

-- Each Reference names its target and its digest: a URI, then perhaps Transforms, a DigestMethod that names its algorithm, and a
-- DigestValue in base64
abbrev pub reference_line_of : Nodes → Spot → List Path
reference_line_of document reference =
    let digest = digest_methods document (reference ∷ []) in
    with_stray_text document (reference ∷ first (transform_lists document reference) ++ digest)
    ++ without_attribute (codes "URI") (reference ∷ [])
    ++ misfits document
    (at_most_one (ds (codes "Transforms")) ∷ one (ds (codes "DigestMethod")) ∷ one (ds (codes "DigestValue")) ∷ []) (reference ∷ [])
    ++ without_attribute (codes "Algorithm") digest
    ++ without_octets document (digest_values document (reference ∷ []))

abbrev pub reference_line : Nodes → Spot → List Path
reference_line document signature = flat_map (reference_line_of document) (references document signature)

-- The qualifying properties: one of them, in one of the Objects, and pointing by its Target to the Signature's Id
abbrev pub or_first : List Spot → Spot → List Path
or_first [] holder = holder.path ∷ []
or_first (spot ∷ spots) holder = spot.path ∷ []

-- whether an attribute of the one is `#` and the Id of the other, where that has an Id
abbrev pub points_to : Option (List ℕ) → Option (List ℕ) → Bool
points_to uri None = true
points_to None (Some id) = false
points_to (Some uri) (Some id) = uri is fragment id

abbrev pub id_of : Spot → Option (List ℕ)
id_of spot = attribute (codes "Id") spot

abbrev pub qualifying_line : Nodes → Spot → List Path
qualifying_line document signature =
    let holders = qualifying_objects document signature in
    with_stray_text document holders
    ++ (if is_empty holders then or_first (objects document signature) signature else [])
    ++ paths (drop 1 holders)
    ++ further document (xades (codes "QualifyingProperties")) (first holders)
    ++ without_attribute (codes "Id") (signature ∷ [])
    ++ without_attribute (codes "Target") (qualifying document signature)
    ++ paths (filter (λ spot. not (points_to (attribute (codes "Target") spot) (id_of signature))) (qualifying document signature))

-- Their children, in order: one SignedProperties, which has an Id, and perhaps UnsignedProperties, in which only one
-- UnsignedSignatureProperties may stand
abbrev pub properties_line : Nodes → Spot → List Path
properties_line document signature =
    with_stray_text document
    (qualifying document signature ++ signed_properties document signature ++ unsigned document signature ++ unsigned_signature document signature)
    ++ misfits document (one (xades (codes "SignedProperties")) ∷ at_most_one (xades (codes "UnsignedProperties")) ∷ []) (qualifying document signature)
    ++ without_attribute (codes "Id") (signed_properties document signature)
    ++ misfits document (at_most_one (xades (codes "UnsignedSignatureProperties")) ∷ []) (unsigned document signature)

-- The signed properties are covered: by the one Reference with their Type, which points to their Id and reaches them as they stand
abbrev pub is_reaching_out : Spot → Bool
is_reaching_out transform = is_called (ds (codes "Transform")) transform
    && option_map_or (λ name. (name is enveloped_name) || (name is base64_name)) (attribute (codes "Algorithm") transform) false

abbrev pub points_to_one : List Spot → Spot → Bool
points_to_one [] reference = true
points_to_one (spot ∷ spots) reference = is_none (attribute (codes "URI") reference) || points_to (attribute (codes "URI") reference) (id_of spot)

abbrev pub covered_line : Nodes → Spot → List Path
covered_line document signature =
    let typed = filter is_typed (references document signature) in
    (if is_empty typed then paths (first (references document signature)) else [])
    ++ paths (drop 1 typed)
    ++ paths (filter (λ reference. not (points_to_one (signed_properties document signature) reference)) (first typed))
    ++ paths (filter is_reaching_out (flat_map (transforms document) (first typed)))

-- The signed properties of the signature: a SigningTime that isn't blank, and a SigningCertificateV2, in which the first Cert gives a
-- digest by one of the three functions, in base64
abbrev pub signed_line : Nodes → Spot → List Path
signed_line document signature =
    let holders = signed_signature_properties document signature in
    let property = signing_certificate_property document signature in
    let cert = first (called_in document (xades (codes "Cert")) property) in
    let digest = certificate_digest document signature in
    with_stray_text document (holders ++ property ++ cert ++ digest)
    ++ not_one document (xades (codes "SignedSignatureProperties")) (signed_properties document signature)
    ++ not_one document (xades (codes "SigningTime")) holders
    ++ without_text document (signing_time document signature)
    ++ not_one document (xades (codes "SigningCertificateV2")) holders
    ++ lacking document (xades (codes "Cert")) property
    ++ lacking document (xades (codes "CertDigest")) cert
    ++ lacking document (ds (codes "DigestMethod")) digest
    ++ paths (filter (λ spot. is_none (digest_kind (spot ∷ []))) (digest_methods document digest))
    ++ lacking document (ds (codes "DigestValue")) digest
    ++ without_octets document (digest_values document digest)

-- The signed properties of data objects: a Reference other than that to the signed properties, and other than one to KeyInfo, has an Id,
-- and one DataObjectFormat points to it, with a MimeType that isn't blank
abbrev pub is_identifying : List ℕ → Attribute → Bool
is_identifying uri a = is_empty a.name.prefix && not (is_empty a.value) && (uri is fragment a.value)
    && ((a.name.local is codes "Id") || (a.name.local is codes "ID") || (a.name.local is codes "id"))

abbrev pub is_to_key_info : Nodes → Spot → Spot → Bool
is_to_key_info document signature reference =
    list_any (λ key. list_any (is_identifying (uri reference)) (attributes_in key.tags)) (key_info document signature)

abbrev pub wants_format : Nodes → Spot → Spot → Bool
wants_format document signature reference = not (is_typed reference) && not (is_to_key_info document signature reference)

abbrev pub signed_data_properties : Nodes → Spot → List Spot
signed_data_properties document signature = first (called_in document (xades (codes "SignedDataObjectProperties")) (signed_properties document signature))

abbrev pub formats_for : Nodes → Spot → Spot → List Spot
formats_for document signature reference =
    filter (λ format. option_map_or (λ id. option_map_or (λ target. target is fragment id) (attribute (codes "ObjectReference") format) false) (id_of reference) false)
    (called_in document (xades (codes "DataObjectFormat")) (signed_data_properties document signature))

abbrev pub format_faults : Nodes → Spot → Spot → List Path
format_faults document signature reference =
    let formats = formats_for document signature reference in
    let types = first (called_in document (xades (codes "MimeType")) (first formats)) in
    (if is_empty formats then paths (signed_data_properties document signature) else [])
    ++ paths (drop 1 formats)
    ++ with_stray_text document (first formats)
    ++ lacking document (xades (codes "MimeType")) (first formats)
    ++ without_text document types

abbrev pub data_object_line_of : Nodes → Spot → Spot → List Path
data_object_line_of document signature reference =
    if has_attribute (codes "Id") reference then format_faults document signature reference else reference.path ∷ []

abbrev pub data_object_line : Nodes → Spot → List Path
data_object_line document signature =
    let wanting = filter (wants_format document signature) (references document signature) in
    with_stray_text document (signed_data_properties document signature)
    ++ (if is_empty wanting then [] else lacking document (xades (codes "SignedDataObjectProperties")) (signed_properties document signature))
    ++ flat_map (data_object_line_of document signature) wanting

-- There is a certificate: an X509Certificate in an X509Data of KeyInfo
abbrev pub key_line : Nodes → Spot → List Path
key_line document signature =
    with_stray_text document (key_info document signature ++ key_data document signature)
    ++ lacking document (ds (codes "X509Data")) (key_info document signature)
    ++ (if is_empty (key_certificates document signature) then paths (first (key_data document signature)) else [])
    ++ without_value document (key_certificates document signature)

-- The value is base64, or blank
abbrev pub value_line : Nodes → Spot → List Path
value_line document signature = without_octets document (value document signature)

-- Children of a stamp, in any order: one EncapsulatedTimeStamp, perhaps a CanonicalizationMethod, and Includes, which are judged apart
abbrev pub is_in_stamp : Spot → Bool
is_in_stamp child = is_called (ds (codes "CanonicalizationMethod")) child || is_called (xades (codes "EncapsulatedTimeStamp")) child
    || is_called (xades (codes "Include")) child

abbrev pub stamp_line : Nodes → Spot → List Path
stamp_line document signature =
    let holders = stamps document signature in
    with_stray_text document holders
    ++ further document (ds (codes "CanonicalizationMethod")) holders
    ++ not_one document (xades (codes "EncapsulatedTimeStamp")) holders
    ++ paths (filter (λ child. not (is_in_stamp child)) (flat_map (elements_in document) holders))
    ++ without_value document (flat_map (λ holder. first (token_elements document holder)) holders)

-- The unsigned properties have one CertificateValues and one RevocationValues at most, those in TimeStampValidationData aside. What no
-- line mentions is here, too
abbrev pub value_holders : Nodes → Spot → List Spot
value_holders document signature = flat_map (values_of document) (properties document signature)

abbrev pub values_line : Nodes → Spot → List Path
values_line document signature =
    let all = properties document signature in
    let holders = value_holders document signature in
    paths (drop 1 (filter (is_called (xades (codes "CertificateValues"))) all))
    ++ paths (drop 1 (filter (is_called (xades (codes "RevocationValues"))) all))
    ++ with_stray_text document (filter is_validation_data all ++ holders
    ++ flat_map (λ holder. if is_called (xades (codes "RevocationValues")) holder then called document (xades (codes "CRLValues")) holder else []) holders)
    ++ without_value document (map (λ datum. datum.spot) (flat_map (data_of_values document) holders))
    ++ with_stray_text document (filter (is_called (ds (codes "Transform"))) (flat_map (transforms document) (references document signature)))
    ++ with_stray_text document (digest_methods document (certificate_digest document signature))

-- all lines, in their order
abbrev pub shape_faults : Nodes → Spot → List ShapeFault
shape_faults document signature =
    of_line words.Parts (parts_line document signature)
    ++ of_line words.Info (info_line document signature)
    ++ of_line words.Form (form_line document signature)
    ++ of_line words.Method (method_line document signature)
    ++ of_line words.Reference (reference_line document signature)
    ++ of_line words.Qualifying (qualifying_line document signature)
    ++ of_line words.Properties (properties_line document signature)
    ++ of_line words.Covered (covered_line document signature)
    ++ of_line words.Signed (signed_line document signature)
    ++ of_line words.DataObject (data_object_line document signature)
    ++ of_line words.Key (key_line document signature)
    ++ of_line words.Value (value_line document signature)
    ++ of_line words.Stamp (stamp_line document signature)
    ++ of_line words.Values (values_line document signature)
