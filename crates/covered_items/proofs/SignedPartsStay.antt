-- Where content is put into the value or as a property, what is read of KeyInfo, of the methods and of the signed properties stays.
use Rattle.std.proofs.Common.{◌≡◌, ℕ, false, List, [], ◌∙◌, ap, codes}
use Rattle.std.specs.Prelude.{map, unwrap_or, find}
use Rattle.document_model.specs.Names.{Expanded, same_expanded}
use Rattle.document_model.specs.Tree.{Nodes, put_last}
use Rattle.signature_model.specs.Vocabulary.{ds, xades, DigestKind}
use Rattle.signature_model.specs.Base64.{skipping}
use Rattle.signature_model.specs.Spots.{Spot, called_in, first}
use Rattle.signature_model.specs.Parts.{signed_info, key_info, qualifying, signed_properties, signature_method, key_data, key_certificates, signed_signature_properties, signing_certificate_property, certificate_digest, digest_methods, digest_values, digest_kind, octets_in, octets_or_none, has_digest, signing_certificate}
use Rattle.signature_model.specs.Keeping.{IsSpot}
use Rattle.signature_model.proofs.Standing.{Each}
use Rattle.signature_model.proofs.Lists.{each_first, each_map, map_same}
use Rattle.signature_model.proofs.Apart.{Apart, IsNamed, text_stays, called_in_stay, called_named, called_in_named, named_stand, all_apart}
use Rattle.signature_model.proofs.References.{signed_info_named}
use Rattle.signature_model.proofs.Covered.{Setting}
use Rattle.signature_model.proofs.PropertyKept.{octets_or_none_stay}
use Rattle.signature_model.proofs.Hosts.{InnerNamed, qualifying_inner}
use Rattle.covered_items.proofs.NewHolders.{IsApart}
use Rattle.signature_model.proofs.PartsStay.{info_stays, key_info_stays}

-- elements with a name that isn't the host's
pub chain_stays : (document added : Nodes) (place : Spot) (host_name x y : Expanded) → IsNamed document host_name place → same_expanded y host_name ≡ false
    → (spots : List Spot) → Each (IsNamed document y) spots → called_in (put_last added place.path document) x spots ≡ called_in document x spots
chain_stays document added place host_name x y h d spots e = called_in_stay document added place x spots (all_apart document place y host_name h d spots e)

pub named_in : (document : Nodes) (x y : Expanded) (spots : List Spot) → Each (IsNamed document y) spots → Each (IsNamed document x) (called_in document x spots)
named_in document x y spots e = called_in_named document x spots (named_stand document y spots e)

pub first_in : (document : Nodes) (x y : Expanded) (spots : List Spot) → Each (IsNamed document y) spots → Each (IsNamed document x) (first (called_in document x spots))
first_in document x y spots e = each_first (IsNamed document x) _ (named_in document x y spots e)

-- the first of a name, in elements that stay
pub first_stays : (document added : Nodes) (place : Spot) (host_name x y : Expanded) → IsNamed document host_name place → same_expanded y host_name ≡ false
    → (now spots : List Spot) → now ≡ spots → Each (IsNamed document y) spots
    → first (called_in (put_last added place.path document) x now) ≡ first (called_in document x spots)
first_stays document added place host_name x y h d now spots same e =
    ap (λ ss. first (called_in (put_last added place.path document) x ss)) same ∙ ap first (chain_stays document added place host_name x y h d spots e)

-- The method.

pub signature_method_stays : (document added : Nodes) (signature place : Spot) (host_name : Expanded) → Setting document added signature place host_name
    → signature_method (put_last added place.path document) signature ≡ signature_method document signature
signature_method_stays document added signature place host_name s =
    first_stays document added place host_name (ds (codes "SignatureMethod")) (ds (codes "SignedInfo")) s.place_named s.other.signed_info
    _ (signed_info document signature) (info_stays document added signature place host_name s) (signed_info_named document signature s.signature_named.stands)

-- KeyInfo.

pub key_info_named : (document : Nodes) (signature : Spot) → IsSpot document signature → Each (IsNamed document (ds (codes "KeyInfo"))) (key_info document signature)
key_info_named document signature s = each_first (IsNamed document (ds (codes "KeyInfo"))) _ (called_named document (ds (codes "KeyInfo")) signature s)

pub octets_stay : (document added : Nodes) (place spot : Spot) → Apart document place spot
    → unwrap_or (octets_in (put_last added place.path document) spot) [] ≡ unwrap_or (octets_in document spot) []
octets_stay document added place spot a = ap (λ text. unwrap_or (skipping text) []) (text_stays document added place spot a)

pub key_octets_stay : (document added : Nodes) (signature place : Spot) (host_name : Expanded) → Setting document added signature place host_name → IsApart host_name
    → map (λ spot. unwrap_or (octets_in (put_last added place.path document) spot) []) (key_certificates (put_last added place.path document) signature)
    ≡ map (λ spot. unwrap_or (octets_in document spot) []) (key_certificates document signature)
key_octets_stay document added signature place host_name s a =
    let new : Nodes = put_last added place.path document in
    let named = key_info_named document signature s.signature_named.stands in
    let data_named = named_in document (ds (codes "X509Data")) (ds (codes "KeyInfo")) (key_info document signature) named in
    let data_same : key_data new signature ≡ key_data document signature =
    ap (λ spots. called_in new (ds (codes "X509Data")) spots) (key_info_stays document added signature place host_name s)
    ∙ chain_stays document added place host_name (ds (codes "X509Data")) (ds (codes "KeyInfo")) s.place_named a.key_info (key_info document signature) named in
    let same : key_certificates new signature ≡ key_certificates document signature =
    ap (λ spots. called_in new (ds (codes "X509Certificate")) spots) data_same
    ∙ chain_stays document added place host_name (ds (codes "X509Certificate")) (ds (codes "X509Data")) s.place_named a.key_data (key_data document signature) data_named in
    ap (λ spots. map (λ spot. unwrap_or (octets_in new spot) []) spots) same
    ∙ map_same (Apart document place) (λ spot. unwrap_or (octets_in new spot) []) (λ spot. unwrap_or (octets_in document spot) []) (key_certificates document signature)
    (octets_stay document added place)
    (all_apart document place (ds (codes "X509Certificate")) host_name s.place_named a.key_certificate (key_certificates document signature)
    (named_in document (ds (codes "X509Certificate")) (ds (codes "X509Data")) (key_data document signature) data_named))

-- The signed properties, and what the first Cert says.

pub signed_named : (document : Nodes) (signature : Spot) → IsSpot document signature → Each (IsNamed document (xades (codes "SignedProperties"))) (signed_properties document signature)
signed_named document signature s =
    first_in document (xades (codes "SignedProperties")) (xades (codes "QualifyingProperties")) (qualifying document signature)
    (each_map (InnerNamed document signature (xades (codes "QualifyingProperties"))) (IsNamed document (xades (codes "QualifyingProperties"))) (qualifying document signature)
    (λ spot i. i.0) (qualifying_inner document signature s))

pub record CertStays (document added : Nodes) (signature place : Spot) : Type 0 where
  pub same : certificate_digest (put_last added place.path document) signature ≡ certificate_digest document signature
  pub named : Each (IsNamed document (xades (codes "CertDigest"))) (certificate_digest document signature)

pub cert_stays : (document added : Nodes) (signature place : Spot) (host_name : Expanded) → Setting document added signature place host_name → IsApart host_name
    → signed_properties (put_last added place.path document) signature ≡ signed_properties document signature → CertStays document added signature place
cert_stays document added signature place host_name s a e =
    let new : Nodes = put_last added place.path document in
    let h = s.place_named in
    let n0 = signed_named document signature s.signature_named.stands in
    let e1 : signed_signature_properties new signature ≡ signed_signature_properties document signature =
    first_stays document added place host_name (xades (codes "SignedSignatureProperties")) (xades (codes "SignedProperties")) h a.signed_properties _ (signed_properties document signature) e n0 in
    let n1 = first_in document (xades (codes "SignedSignatureProperties")) (xades (codes "SignedProperties")) (signed_properties document signature) n0 in
    let e2 : signing_certificate_property new signature ≡ signing_certificate_property document signature =
    first_stays document added place host_name (xades (codes "SigningCertificateV2")) (xades (codes "SignedSignatureProperties")) h a.signed_signature _ (signed_signature_properties document signature) e1 n1 in
    let n2 = first_in document (xades (codes "SigningCertificateV2")) (xades (codes "SignedSignatureProperties")) (signed_signature_properties document signature) n1 in
    let e3 : first (called_in new (xades (codes "Cert")) (signing_certificate_property new signature)) ≡ first (called_in document (xades (codes "Cert")) (signing_certificate_property document signature)) =
    first_stays document added place host_name (xades (codes "Cert")) (xades (codes "SigningCertificateV2")) h a.signing_certificate _ (signing_certificate_property document signature) e2 n2 in
    let n3 = first_in document (xades (codes "Cert")) (xades (codes "SigningCertificateV2")) (signing_certificate_property document signature) n2 in
    record {
      same = first_stays document added place host_name (xades (codes "CertDigest")) (xades (codes "Cert")) h a.cert _ (first (called_in document (xades (codes "Cert")) (signing_certificate_property document signature))) e3 n3;
      named = first_in document (xades (codes "CertDigest")) (xades (codes "Cert")) (first (called_in document (xades (codes "Cert")) (signing_certificate_property document signature))) n3;
    }

-- The digest that elements with a name tell: its method and its value.

pub methods_stay : (document added : Nodes) (place : Spot) (host_name y : Expanded) → IsNamed document host_name place → same_expanded y host_name ≡ false
    → (now spots : List Spot) → now ≡ spots → Each (IsNamed document y) spots
    → digest_methods (put_last added place.path document) now ≡ digest_methods document spots
methods_stay document added place host_name y h d now spots same e = first_stays document added place host_name (ds (codes "DigestMethod")) y h d now spots same e

pub values_stay : (document added : Nodes) (place : Spot) (host_name y : Expanded) → IsNamed document host_name place → same_expanded y host_name ≡ false → IsApart host_name
    → (now spots : List Spot) → now ≡ spots → Each (IsNamed document y) spots
    → octets_or_none (put_last added place.path document) (digest_values (put_last added place.path document) now) ≡ octets_or_none document (digest_values document spots)
values_stay document added place host_name y h d a now spots same e =
    ap (octets_or_none (put_last added place.path document)) (first_stays document added place host_name (ds (codes "DigestValue")) y h d now spots same e)
    ∙ octets_or_none_stay document added place (digest_values document spots)
    (all_apart document place (ds (codes "DigestValue")) host_name h a.digest_value (digest_values document spots) (first_in document (ds (codes "DigestValue")) y spots e))

pub signing_certificate_stays : (digest : DigestKind → List ℕ → List ℕ) (document added : Nodes) (signature place : Spot) (host_name : Expanded) → Setting document added signature place host_name
    → IsApart host_name → signed_properties (put_last added place.path document) signature ≡ signed_properties document signature
    → signing_certificate digest (put_last added place.path document) signature ≡ signing_certificate digest document signature
signing_certificate_stays digest document added signature place host_name s a e =
    let c = cert_stays document added signature place host_name s a e in
    let h = s.place_named in
    let methods = methods_stay document added place host_name (xades (codes "CertDigest")) h a.cert_digest _ (certificate_digest document signature) c.same c.named in
    let values = values_stay document added place host_name (xades (codes "CertDigest")) h a.cert_digest a _ (certificate_digest document signature) c.same c.named in
    let keys = key_octets_stay document added signature place host_name s a in
    λ i. find (has_digest digest (digest_kind (methods i)) (values i)) (keys i)
