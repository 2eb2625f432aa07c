-- The signing certificate is among the objects.
use Rattle.std.proofs.Common.{◌≡◌, ℕ, List, ◌∷◌, Some, length, map, slice_get, true, sym, ap, ◌∙◌}
use Rattle.std.specs.Prelude.{option_and_then}
use Rattle.doc_spans.specs.declared.documents.Doc.{Doc}
use Rattle.doc_spans.specs.Seen.{document_in}
use Rattle.document_model.specs.Tree.{Nodes}
use Rattle.qualifying_props.specs.Digests.{digest}
use Rattle.qualifying_props.specs.PartsOf.{AreParts, key_octets}
use Rattle.qualifying_props.specs.Shown.{Shown}
use Rattle.signature_elements.specs.Standing.{spot_of}
use Rattle.signature_model.specs.Parts.{properties, references, signing_certificate}
use Rattle.signature_model.specs.Spots.{Spot}
use Rattle.signature_objects.specs.Objects.{Certificate, Object, Value, has, octets_from}
use Rattle.signature_objects.specs.Held.{objects}
use Rattle.signature_evidence.proofs.InRange.{all_had, certificate_had, front_had}
use Rattle.signature_evidence.proofs.Numbers.{has_behind}

pub signer_is : (doc : Doc) (parts : Shown) (number : ℕ) (octets : List ℕ) → AreParts doc parts → Some number ≡ parts.signing_cert → slice_get parts.key_certs number ≡ Some octets
    → signing_certificate digest (document_in doc) (spot_of doc parts.signature) ≡ Some octets
signer_is doc parts number octets p is at = sym p.signer ∙ ap (option_and_then (slice_get parts.key_certs)) (sym is) ∙ at

pub signer_had : (document : Nodes) (signature : Spot) (more : List Object) (octets : List ℕ) → signing_certificate digest document signature ≡ Some octets
    → has (objects document signature more) (Certificate octets) ≡ true
signer_had document signature more octets e =
    all_had document signature more (Certificate octets)
    (front_had document signature (properties document signature) (Certificate octets)
    (has_behind (octets_from 1 (length (references document signature))) (Value ∷ map (λ cert. Certificate cert) (key_octets document signature)) (Certificate octets)
    (certificate_had (key_octets document signature) _ octets e)))
