-- What the signature of a document shows for its judgement, whatever the policy and the moment: its objects, its time-stamps with what they
-- cover, the digests that it names, and its value: EN 319 132-1, clauses 5.2.2 and 5.3 to 5.5; XML Signature 1.1, "Core Validation".
use Rattle.std.specs.Prelude.{ℕ, suc, true, if◌then◌else◌, List, [], ◌∷◌, ◌++◌, encode_utf8_all, Option, Some, None}
use Rattle.algorithms.specs.Digests.{digest_of}
use Rattle.algorithms.specs.declared.digest_kinds.DigestKind.{DigestKind}
use Rattle.algorithms.specs.declared.digest_kinds.DigestKind.TheVariants.{Sha256}
use Rattle.document_model.specs.Tree.{Nodes}
use Rattle.signature_model.specs.Spots.{Spot}
use Rattle.signature_model.specs.Parts as parts
use Rattle.signature_model.specs.Parts.{PropertyKind, kind_of}
use Rattle.signature_model.specs.Chains.{Handed}
use Rattle.signature_model.specs.Octets.{digest_octets, has_its_digest, value_octets, octets_at}
use Rattle.signature_model.specs.Vocabulary as vocabulary
use Rattle.qualifying_props.specs.Digests.{algorithm, digest}
use Rattle.qualifying_props.specs.PartsOf.{name_in}
use Rattle.acceptance.specs.Verdict.{DigestUse}
use Rattle.signature_objects.specs.Objects.{Object, Octets, Certificate, number_of}
use Rattle.signature_objects.specs.Held.{covers_of, objects, objects_to}

-- Time-stamps.

-- A time-stamp: its token, the octets that its property covers, and the numbers of the objects that it covers.
pub record Stamped : Type 0 where
  pub kind : PropertyKind
  pub token : List ℕ
  pub octets : List ℕ
  pub covers : List ℕ

abbrev pub stamp_of : Handed → Nodes → Spot → List Spot → Spot → Stamped
stamp_of handed document signature before property = record {
  kind = kind_of property;
  token = parts.token document property;
  octets = octets_at handed document signature before property;
  covers = covers_of (kind_of property) (objects_to document signature before);
}

-- the time-stamps among properties that stand behind some others
abbrev pub stamps_from : Handed → Nodes → Spot → List Spot → List Spot → List Stamped
stamps_from handed document signature before [] = []
stamps_from handed document signature before (property ∷ properties) =
    (if parts.is_stamp property then stamp_of handed document signature before property ∷ [] else [])
    ++ stamps_from handed document signature (before ++ property ∷ []) properties

abbrev pub stamps : Handed → Nodes → Spot → List Stamped
stamps handed document signature = stamps_from handed document signature [] (parts.properties document signature)

-- Digests that the signature names.

abbrev pub kind_named : List Spot → DigestKind
kind_named methods = kind_or (parts.digest_kind methods)
  where
    kind_or : Option vocabulary.DigestKind → DigestKind
    kind_or None = Sha256
    kind_or (Some kind) = algorithm kind

-- of the octets of each Reference, from the k-th on
abbrev pub reference_digests : Handed → Nodes → Spot → List Object → ℕ → List Spot → List DigestUse
reference_digests handed document signature objects k [] = []
reference_digests handed document signature objects k (reference ∷ references) =
    record {
      object = number_of objects (Octets k);
      kind = kind_named (parts.digest_methods document (reference ∷ []));
      matches = has_its_digest digest handed document signature.path reference;
    } ∷ reference_digests handed document signature objects (suc k) references

-- the digests of the octets of References
abbrev pub computed_digests : Handed → Nodes → Spot → List Spot → List (List ℕ)
computed_digests handed document signature [] = []
computed_digests handed document signature (reference ∷ references) =
    digest_of (kind_named (parts.digest_methods document (reference ∷ []))) (digest_octets handed document signature.path reference)
    ∷ computed_digests handed document signature references

-- of the signing certificate, where a certificate of KeyInfo has the digest of the first Cert
abbrev pub certificate_digests : List Object → DigestKind → Option (List ℕ) → List DigestUse
certificate_digests objects kind None = []
certificate_digests objects kind (Some bytes) = record { object = number_of objects (Certificate bytes); kind = kind; matches = true } ∷ []

-- the URI that the first of some methods names, as bytes; empty where there is none
abbrev pub uri_in : List Spot → List ℕ
uri_in methods = encode_utf8_all (name_in methods)

-- All of it.

pub record Evidence : Type 0 where
  pub objects : List Object
  pub stamps : List Stamped
  -- the digests of the References' octets: how they are used, and what they are
  pub references : List DigestUse
  pub computed : List (List ℕ)
  -- the algorithm of the signing certificate's digest, and the certificate of KeyInfo that has it
  pub certificate_kind : DigestKind
  pub certificate : Option (List ℕ)
  pub method : List ℕ
  pub value : List ℕ
  pub signed : List ℕ

abbrev pub evidence_of : Handed → Nodes → Spot → List Object → Evidence
evidence_of handed document signature more = record {
  objects = objects document signature more;
  stamps = stamps handed document signature;
  references = reference_digests handed document signature (objects document signature more) 1 (parts.references document signature);
  computed = computed_digests handed document signature (parts.references document signature);
  certificate_kind = kind_named (parts.digest_methods document (parts.certificate_digest document signature));
  certificate = parts.signing_certificate digest document signature;
  method = uri_in (parts.signature_method document signature);
  value = parts.value_octets document signature;
  signed = value_octets document signature;
}
