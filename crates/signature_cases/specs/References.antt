-- The digest of a Reference's octets: XML Signature 1.1, "Reference Validation".
use Rattle.std.specs.Prelude.{[], ◌∷◌}
use Rattle.algorithms.specs.Digests.{digest_of}
use Rattle.document_model.specs.Tree.{Nodes, Path}
use Rattle.qualifying_props.specs.Digests.{digest}
use Rattle.signature_model.specs.Chains.{Handed}
use Rattle.signature_model.specs.Octets.{digest_octets, has_its_digest}
use Rattle.signature_model.specs.Parts.{digest_methods}
use Rattle.signature_model.specs.Spots.{Spot}
use Rattle.signature_evidence.specs.Evidence.{kind_named}
use Rattle.signature_cases.specs.declared.cases.ReferenceDigest.{ReferenceDigest}

abbrev pub row_of : Handed → Nodes → Path → Spot → ReferenceDigest
row_of handed document signature reference = record {
  kind = kind_named (digest_methods document (reference ∷ []));
  matches = has_its_digest digest handed document signature reference;
  computed = digest_of (kind_named (digest_methods document (reference ∷ []))) (digest_octets handed document signature reference);
}
