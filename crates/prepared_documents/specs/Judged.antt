-- The laws that the References and digests of a prepared document are right, and that its method and its certificate are the draft's:
-- XML Signature 1.1, "Reference Validation" and "Core Generation"; EN 319 132-1, clause 5.2.2.
use Rattle.std.specs.Prelude.{◌≡◌, ℕ, Bool, true, List, [], ◌∷◌, Some, None, codes}
use Rattle.std.specs.List.{list_all}
use Rattle.document_model.specs.Tree.{Nodes}
use Rattle.signature_model.specs.Vocabulary.{DigestKind}
use Rattle.signature_model.specs.Spots.{Spot, attribute}
use Rattle.signature_model.specs.Parts.{DatumKind, references, signature_method, signing_certificate}
use Rattle.signature_model.specs.Chains.{Handed, Place, Document, Named, External, place_named, fault}
use Rattle.signature_model.specs.Octets.{has_its_digest}
use Rattle.signature_model.specs.Prepared.{Draft, first_certificate, prepared}
use Rattle.insertion_fragments.specs.Drafts.{GivesBytes}
use Rattle.prepared_documents.specs.Places.{signature_in}
use Rattle.prepared_documents.specs.Preparable.{IsPreparable}
use Rattle.prepared_documents.specs.PreparedRead.{IsComplete}

-- the octets of external References are handed in
abbrev pub IsHanded : Handed → Place → List ℕ → Type 0
IsHanded handed Document uri = Unit {0}
IsHanded handed (Named identifier) uri = Unit {0}
IsHanded handed External uri = (octets : List ℕ) × (handed uri ≡ Some octets)

abbrev pub AreHanded : Handed → List (List ℕ) → Type 0
AreHanded handed [] = Unit {0}
AreHanded handed (uri ∷ uris) = IsHanded handed (place_named uri) uri × AreHanded handed uris

-- The law: each Reference of the prepared document has the digest that it tells, the one to the SignedProperties too.
abbrev pub DigestsAreRight : Type 0
DigestsAreRight = (digest : DigestKind → List ℕ → List ℕ) (handed : Handed) (document : Nodes) (draft : Draft) → GivesBytes digest → IsPreparable document draft
    → list_all (has_its_digest digest handed (prepared digest handed document draft) (signature_in document draft).path)
    (references (prepared digest handed document draft) (signature_in document draft)) ≡ true

-- The law: where the external octets are handed in, no Reference of the prepared document has a fault.
abbrev pub ReferencesAreSound : Type 0
ReferencesAreSound = (digest : DigestKind → List ℕ → List ℕ) (handed : Handed) (document : Nodes) (draft : Draft) → AreHanded handed draft.references → IsPreparable document draft
    → fault handed (prepared digest handed document draft) (signature_in document draft).path (references (prepared digest handed document draft) (signature_in document draft)) ≡ None

-- The law: the signing certificate of the prepared document is the first certificate of the draft.
abbrev pub CertificateIsFirst : Type 0
CertificateIsFirst = (is_whole : DatumKind → List ℕ → Bool) (digest : DigestKind → List ℕ → List ℕ) (handed : Handed) (document : Nodes) (draft : Draft) → GivesBytes digest → IsComplete is_whole draft → IsPreparable document draft
    → signing_certificate digest (prepared digest handed document draft) (signature_in document draft) ≡ Some (first_certificate draft)

-- the signature has a SignatureMethod with this name
abbrev pub HasMethod : Nodes → Spot → List ℕ → Type 0
HasMethod document signature name = (method : Spot) × (signature_method document signature ≡ method ∷ []) × (attribute (codes "Algorithm") method ≡ Some name)

-- The law: the SignatureMethod of the prepared document is the draft's.
abbrev pub MethodIsTheDrafts : Type 0
MethodIsTheDrafts = (digest : DigestKind → List ℕ → List ℕ) (handed : Handed) (document : Nodes) (draft : Draft) → IsPreparable document draft
    → HasMethod (prepared digest handed document draft) (signature_in document draft) draft.method
