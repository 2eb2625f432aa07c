-- The parts of a signature: XML Signature 1.1, "Core Signature Syntax"; EN 319 132-1, clauses 4.3 and 4.4. Each part is a list of
-- elements, which is empty where the part doesn't exist.
use Rattle.std.specs.Prelude.{ℕ, Bool, true, false, not, ◌||◌, if◌then◌else◌, List, [], ◌∷◌, ◌++◌, filter, flat_map, map, Option, Some, None, codes, unwrap_or, option_and_then}
use Rattle.std.specs.List.{list_any, find}
use Rattle.std.specs.Option.{option_map_or}
use Rattle.document_model.specs.Characters.{is_white, ◌is◌, is_empty}
use Rattle.document_model.specs.Tree.{Nodes}
use Rattle.document_model.specs.Canonical.{Form, Inclusive}
use Rattle.document_model.specs.Methods.{form_named, prefixes_of, exclusive_name}
use Rattle.signature_model.specs.Vocabulary.{ds, xades, xadesv141, DigestKind, digest_named, signed_properties_type}
use Rattle.signature_model.specs.Spots.{Spot, is_called, attribute, elements_in, called, called_in, first, text_in, outermost}
use Rattle.signature_model.specs.Base64.{skipping}

-- the signatures that are counted: those without a signature around them
abbrev pub counted : Nodes → List Spot
counted document = outermost (ds (codes "Signature")) [] [] 0 document

-- Its first level: XML Signature 1.1, "The Signature element".

abbrev pub signed_info : Nodes → Spot → List Spot
signed_info document signature = first (called document (ds (codes "SignedInfo")) signature)

abbrev pub value : Nodes → Spot → List Spot
value document signature = first (called document (ds (codes "SignatureValue")) signature)

abbrev pub key_info : Nodes → Spot → List Spot
key_info document signature = first (called document (ds (codes "KeyInfo")) signature)

abbrev pub objects : Nodes → Spot → List Spot
objects document signature = called document (ds (codes "Object")) signature

-- SignedInfo: XML Signature 1.1, "The SignedInfo Element".

abbrev pub method : Nodes → Spot → List Spot
method document signature = first (called_in document (ds (codes "CanonicalizationMethod")) (signed_info document signature))

abbrev pub signature_method : Nodes → Spot → List Spot
signature_method document signature = first (called_in document (ds (codes "SignatureMethod")) (signed_info document signature))

abbrev pub references : Nodes → Spot → List Spot
references document signature = called_in document (ds (codes "Reference")) (signed_info document signature)

-- Properties: EN 319 132-1, clauses 4.3 and 4.4.

abbrev pub is_qualifying : Nodes → Spot → Bool
is_qualifying document object = not (is_empty (called document (xades (codes "QualifyingProperties")) object))

abbrev pub qualifying_objects : Nodes → Spot → List Spot
qualifying_objects document signature = filter (is_qualifying document) (objects document signature)

abbrev pub other_objects : Nodes → Spot → List Spot
other_objects document signature = filter (λ object. not (is_qualifying document object)) (objects document signature)

abbrev pub qualifying : Nodes → Spot → List Spot
qualifying document signature = first (called_in document (xades (codes "QualifyingProperties")) (first (qualifying_objects document signature)))

abbrev pub signed_properties : Nodes → Spot → List Spot
signed_properties document signature = first (called_in document (xades (codes "SignedProperties")) (qualifying document signature))

abbrev pub unsigned : Nodes → Spot → List Spot
unsigned document signature = first (called_in document (xades (codes "UnsignedProperties")) (qualifying document signature))

abbrev pub unsigned_signature : Nodes → Spot → List Spot
unsigned_signature document signature = first (called_in document (xades (codes "UnsignedSignatureProperties")) (unsigned document signature))

-- the unsigned signature properties, in order
abbrev pub properties : Nodes → Spot → List Spot
properties document signature = flat_map (elements_in document) (unsigned_signature document signature)

-- the innermost of the three that exists: new properties are put last into it
abbrev pub host : Nodes → Spot → List Spot
host document signature =
    first (unsigned_signature document signature ++ unsigned document signature ++ qualifying document signature)

-- Kinds of properties: EN 319 132-1, clauses 5.3 to 5.5. All others are passed on.

pub data PropertyKind : Type 0 where
  SignatureStamp : PropertyKind
  ArchiveStamp : PropertyKind
  Material : PropertyKind
  Passed : PropertyKind

abbrev pub is_values : Spot → Bool
is_values property = is_called (xades (codes "CertificateValues")) property || is_called (xades (codes "RevocationValues")) property

abbrev pub is_validation_data : Spot → Bool
is_validation_data property = is_called (xadesv141 (codes "TimeStampValidationData")) property

abbrev pub kind_of : Spot → PropertyKind
kind_of property =
    if is_called (xades (codes "SignatureTimeStamp")) property then SignatureStamp
    else (if is_called (xadesv141 (codes "ArchiveTimeStamp")) property then ArchiveStamp
    else (if is_values property || is_validation_data property then Material else Passed))

abbrev pub is_stamp_kind : PropertyKind → Bool
is_stamp_kind SignatureStamp = true
is_stamp_kind ArchiveStamp = true
is_stamp_kind Material = false
is_stamp_kind Passed = false

abbrev pub is_stamp : Spot → Bool
is_stamp property = is_stamp_kind (kind_of property)

abbrev pub stamps : Nodes → Spot → List Spot
stamps document signature = filter is_stamp (properties document signature)

-- whether there are CertificateValues or RevocationValues outside TimeStampValidationData
abbrev pub has_values : Nodes → Spot → Bool
has_values document signature = list_any is_values (properties document signature)

-- Canonical forms: XML Signature 1.1, "The CanonicalizationMethod Element"; Exclusive XML Canonicalization 1.0, "Use in XML Security".
-- The prefix list is that of the first `InclusiveNamespaces`.

abbrev pub prefix_list : List Spot → List (List ℕ)
prefix_list [] = []
prefix_list (spot ∷ spots) = option_map_or prefixes_of (attribute (codes "PrefixList") spot) []

-- the form that a method or a transform names
abbrev pub form_in : Nodes → Spot → Option Form
form_in document spot = option_and_then
    (form_named (prefix_list (called document (record { space = exclusive_name; local = codes "InclusiveNamespaces" }) spot)))
    (attribute (codes "Algorithm") spot)

-- Canonical XML 1.0 without comments
abbrev pub plain_form : Form
plain_form = record { rule = Inclusive; comments = false }

-- the form of the first method, where there is one
abbrev pub form_or : Form → Nodes → List Spot → Form
form_or form document [] = form
form_or form document (spot ∷ spots) = unwrap_or (form_in document spot) form

-- the form of a stamp, which is Canonical XML 1.0 where it has no method: EN 319 132-1, clause 5.1.4
abbrev pub stamp_method : Nodes → Spot → List Spot
stamp_method document property = first (called document (ds (codes "CanonicalizationMethod")) property)

abbrev pub stamp_form : Nodes → Spot → Form
stamp_form document property = form_or plain_form document (stamp_method document property)

-- Octets of elements that hold base64, with white space skipped: XML Signature 1.1, "The SignatureValue Element"; EN 319 132-1,
-- clause 5.1.3.

abbrev pub octets_in : Nodes → Spot → Option (List ℕ)
octets_in document spot = skipping (text_in document spot)

-- of the first element, and none where there is none
abbrev pub octets_or_none : Nodes → List Spot → List ℕ
octets_or_none document [] = []
octets_or_none document (spot ∷ spots) = unwrap_or (octets_in document spot) []

abbrev pub value_octets : Nodes → Spot → List ℕ
value_octets document signature = octets_or_none document (value document signature)

-- an element that holds nothing, or white space alone
abbrev pub is_blank : Nodes → Spot → Bool
is_blank document spot = is_empty (value_text document spot)
  where
    value_text : Nodes → Spot → List ℕ
    value_text document spot = filter (λ c. not (is_white c)) (text_in document spot)

abbrev pub is_signed : Nodes → Spot → Bool
is_signed document signature = list_any (λ spot. not (is_blank document spot)) (value document signature)

abbrev pub token_elements : Nodes → Spot → List Spot
token_elements document property = called document (xades (codes "EncapsulatedTimeStamp")) property

abbrev pub token : Nodes → Spot → List ℕ
token document property = octets_or_none document (token_elements document property)

-- Certificates of KeyInfo, and the signing certificate: XML Signature 1.1, "The X509Data Element"; EN 319 132-1, clause 5.2.2.

abbrev pub key_data : Nodes → Spot → List Spot
key_data document signature = called_in document (ds (codes "X509Data")) (key_info document signature)

abbrev pub key_certificates : Nodes → Spot → List Spot
key_certificates document signature = called_in document (ds (codes "X509Certificate")) (key_data document signature)

abbrev pub signed_signature_properties : Nodes → Spot → List Spot
signed_signature_properties document signature =
    first (called_in document (xades (codes "SignedSignatureProperties")) (signed_properties document signature))

abbrev pub signing_time : Nodes → Spot → List Spot
signing_time document signature = first (called_in document (xades (codes "SigningTime")) (signed_signature_properties document signature))

abbrev pub signing_certificate_property : Nodes → Spot → List Spot
signing_certificate_property document signature =
    first (called_in document (xades (codes "SigningCertificateV2")) (signed_signature_properties document signature))

abbrev pub certificate_digest : Nodes → Spot → List Spot
certificate_digest document signature =
    first (called_in document (xades (codes "CertDigest")) (first (called_in document (xades (codes "Cert")) (signing_certificate_property document signature))))

abbrev pub digest_methods : Nodes → List Spot → List Spot
digest_methods document spots = first (called_in document (ds (codes "DigestMethod")) spots)

abbrev pub digest_values : Nodes → List Spot → List Spot
digest_values document spots = first (called_in document (ds (codes "DigestValue")) spots)

-- the digest that the first of some methods names
abbrev pub digest_kind : List Spot → Option DigestKind
digest_kind [] = None
digest_kind (spot ∷ spots) = option_and_then digest_named (attribute (codes "Algorithm") spot)

-- whether a certificate of KeyInfo has the digest of the first Cert, for digests of octets that are handed in
abbrev pub has_digest : (DigestKind → List ℕ → List ℕ) → Option DigestKind → List ℕ → List ℕ → Bool
has_digest digest None wanted octets = false
has_digest digest (Some kind) wanted octets = digest kind octets is wanted

abbrev pub signing_certificate : (DigestKind → List ℕ → List ℕ) → Nodes → Spot → Option (List ℕ)
signing_certificate digest document signature =
    let cert = certificate_digest document signature in
    find (has_digest digest (digest_kind (digest_methods document cert)) (octets_or_none document (digest_values document cert)))
    (map (λ spot. unwrap_or (octets_in document spot) []) (key_certificates document signature))

-- Read values: certificates, CRLs and tokens, in document order: EN 319 132-1, clauses 5.3, 5.4 and 5.5.

pub data DatumKind : Type 0 where
  Certificate : DatumKind
  RevocationList : DatumKind
  Token : DatumKind

pub record Datum : Type 0 where
  pub kind : DatumKind
  pub spot : Spot

abbrev pub as_kind : DatumKind → List Spot → List Datum
as_kind kind spots = map (λ spot. record { kind = kind; spot = spot }) spots

-- those of CertificateValues and of RevocationValues
abbrev pub data_of_values : Nodes → Spot → List Datum
data_of_values document values =
    if is_called (xades (codes "CertificateValues")) values
    then as_kind Certificate (called document (xades (codes "EncapsulatedX509Certificate")) values)
    else as_kind RevocationList (called_in document (xades (codes "EncapsulatedCRLValue")) (called document (xades (codes "CRLValues")) values))

-- the CertificateValues and RevocationValues of a property
abbrev pub values_of : Nodes → Spot → List Spot
values_of document property =
    if is_values property then property ∷ []
    else (if is_validation_data property then filter is_values (elements_in document property) else [])

abbrev pub data_of : Nodes → Spot → List Datum
data_of document property =
    if is_stamp property then as_kind Token (first (token_elements document property))
    else flat_map (data_of_values document) (values_of document property)

abbrev pub data_in : Nodes → Spot → List Datum
data_in document signature =
    as_kind Certificate (key_certificates document signature) ++ flat_map (data_of document) (properties document signature)

-- `Include` children of stamps
abbrev pub includes : Nodes → Spot → List Spot
includes document signature = called_in document (xades (codes "Include")) (stamps document signature)

-- the Type, the URI and the transforms of a Reference: XML Signature 1.1, "The Reference Element"
abbrev pub is_typed : Spot → Bool
is_typed reference = option_map_or (λ type. type is signed_properties_type) (attribute (codes "Type") reference) false

abbrev pub uri : Spot → List ℕ
uri reference = unwrap_or (attribute (codes "URI") reference) []

abbrev pub transform_lists : Nodes → Spot → List Spot
transform_lists document reference = called document (ds (codes "Transforms")) reference

abbrev pub transforms : Nodes → Spot → List Spot
transforms document reference = flat_map (elements_in document) (transform_lists document reference)
