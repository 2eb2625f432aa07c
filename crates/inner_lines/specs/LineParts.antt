-- What the lines of a signature's shape ask of one element after another.
use Rattle.std.specs.Prelude.{Bool, false, not, ◌||◌, if◌then◌else◌, List, [], ◌∷◌, ◌++◌, drop, filter, flat_map, map, is_none, codes}
use Rattle.std.specs.Option.{option_map_or}
use Rattle.document_model.specs.Characters.{◌is◌, is_empty}
use Rattle.document_model.specs.Tree.{Nodes, Path}
use Rattle.signature_model.specs.Vocabulary.{ds, xades, enveloped_name, base64_name, fragment}
use Rattle.signature_model.specs.Spots.{Spot, is_called, attribute, elements_in, called, called_in, first, paths}
use Rattle.signature_model.specs.Parts.{references, signed_properties, key_data, key_certificates, is_validation_data, values_of, data_of_values, token_elements, transforms, digest_methods, digest_values, digest_kind}
use Rattle.signature_model.specs.Holding.{lacking, further, not_one, with_stray_text, without_value, without_octets, without_text}
use Rattle.signature_model.specs.Shape.{id_of, wants_format, data_object_line_of, is_in_stamp}

-- Key: what X509Data elements, and the certificates in them, have to hold

abbrev pub key_data_faults : Nodes → List Spot → List Path
key_data_faults document holders = with_stray_text document holders ++ without_value document (called_in document (ds (codes "X509Certificate")) holders)

-- the first of them, where none has a certificate
abbrev pub without_certificate : Nodes → Spot → List Path
without_certificate document signature = if is_empty (key_certificates document signature) then paths (first (key_data document signature)) else []

-- Covered: whether a transform names an algorithm that leads away from the elements as they stand

abbrev pub names_way_out : Spot → Bool
names_way_out transform = option_map_or (λ name. (name is enveloped_name) || (name is base64_name)) (attribute (codes "Algorithm") transform) false

-- Signed: the time of signing, one and not blank

abbrev pub time_faults : Nodes → List Spot → List Spot → List Path
time_faults document holders time = not_one document (xades (codes "SigningTime")) holders ++ without_text document time

-- methods that name none of the digest functions
abbrev pub nameless_methods : List Spot → List Path
nameless_methods methods = paths (filter (λ spot. is_none (digest_kind (spot ∷ []))) methods)

-- the digest of the certificate
abbrev pub digest_faults : Nodes → List Spot → List Path
digest_faults document digest =
    lacking document (ds (codes "DigestMethod")) digest
    ++ nameless_methods (digest_methods document digest)
    ++ lacking document (ds (codes "DigestValue")) digest
    ++ without_octets document (digest_values document digest)

-- the property of the certificate, the first Cert in it, and its digest
abbrev pub certificate_faults : Nodes → List Spot → List Spot → List Spot → List Path
certificate_faults document property cert digest =
    with_stray_text document property
    ++ with_stray_text document cert
    ++ with_stray_text document digest
    ++ lacking document (xades (codes "Cert")) property
    ++ lacking document (xades (codes "CertDigest")) cert
    ++ digest_faults document digest

-- DataObject: the References among some that want a format

abbrev pub wanting : Nodes → Spot → List Spot → List Spot
wanting document signature spots = filter (wants_format document signature) spots

-- the signed properties, where one wants a format and there is no element for it
abbrev pub without_data_properties : Nodes → Spot → List Path
without_data_properties document signature =
    if is_empty (wanting document signature (references document signature)) then []
    else lacking document (xades (codes "SignedDataObjectProperties")) (signed_properties document signature)

-- the faults of those among some that want a format
abbrev pub wanting_faults : Nodes → Spot → List Spot → List Path
wanting_faults document signature spots = flat_map (data_object_line_of document signature) (wanting document signature spots)

-- whether a format points to a Reference by its Id
abbrev pub is_format_of : Spot → Spot → Bool
is_format_of reference format =
    option_map_or (λ id. option_map_or (λ target. target is fragment id) (attribute (codes "ObjectReference") format) false) (id_of reference) false

-- what one format holds
abbrev pub format_text_faults : Nodes → List Spot → List Path
format_text_faults document formats =
    with_stray_text document formats
    ++ lacking document (xades (codes "MimeType")) formats
    ++ without_text document (first (called_in document (xades (codes "MimeType")) formats))

-- the faults of a Reference by the formats that point to it, in the properties of data objects
abbrev pub faults_by_formats : Nodes → List Spot → List Spot → List Path
faults_by_formats document holders formats =
    (if is_empty formats then paths holders else [])
    ++ paths (drop 1 formats)
    ++ with_stray_text document (first formats)
    ++ lacking document (xades (codes "MimeType")) (first formats)
    ++ without_text document (first (called_in document (xades (codes "MimeType")) (first formats)))

-- Stamp: what stamps hold

abbrev pub stamp_faults : Nodes → List Spot → List Path
stamp_faults document holders =
    with_stray_text document holders
    ++ further document (ds (codes "CanonicalizationMethod")) holders
    ++ not_one document (xades (codes "EncapsulatedTimeStamp")) holders
    ++ paths (filter (λ child. not (is_in_stamp child)) (flat_map (elements_in document) holders))
    ++ without_value document (flat_map (λ holder. first (token_elements document holder)) holders)

-- Values: CertificateValues and RevocationValues

-- the lists of CRLs in one of them
abbrev pub revocation_lists : Nodes → Spot → List Spot
revocation_lists document holder = if is_called (xades (codes "RevocationValues")) holder then called document (xades (codes "CRLValues")) holder else []

-- the elements in some of them that hold a certificate or a CRL each
abbrev pub data_in_values : Nodes → List Spot → List Spot
data_in_values document holders = map (λ datum. datum.spot) (flat_map (data_of_values document) holders)

-- what some of them hold
abbrev pub values_faults : Nodes → List Spot → List Path
values_faults document holders =
    with_stray_text document holders ++ with_stray_text document (flat_map (revocation_lists document) holders) ++ without_value document (data_in_values document holders)

-- what those among some unsigned properties hold, inside TimeStampValidationData too
abbrev pub material_faults : Nodes → List Spot → List Path
material_faults document properties =
    with_stray_text document (filter is_validation_data properties) ++ values_faults document (flat_map (values_of document) properties)

-- the transforms of some References
abbrev pub transform_faults : Nodes → List Spot → List Path
transform_faults document spots = with_stray_text document (filter (is_called (ds (codes "Transform"))) (flat_map (transforms document) spots))

-- and those of some lists of transforms
abbrev pub transforms_faults : Nodes → List Spot → List Path
transforms_faults document lists = with_stray_text document (filter (is_called (ds (codes "Transform"))) (flat_map (elements_in document) lists))
