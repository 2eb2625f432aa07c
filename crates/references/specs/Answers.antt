-- What is returned for the References of a signature, by the fault of the definitions.
use Rattle.std.specs.Prelude.{◌≡◌, min, Option, Some, option_map}
use Rattle.doc_spans.specs.declared.documents.Doc.{Doc}
use Rattle.doc_spans.specs.declared.documents.NodeId.{NodeId}
use Rattle.doc_spans.specs.Seen.{document_in, path_in}
use Rattle.signature_model.specs.Chains.{Handed, Fault, TargetMissing, TargetTwice, NoChain, DigestName, NotHandedIn, NotBase64, fault}
use Rattle.reference_chains.specs.Decoding.{last_told}
use Rattle.references.specs.declared.faults.RefFault.{RefFault}
use Rattle.references.specs.declared.faults.RefFault.TheVariants as faults
use Rattle.references.specs.RefsOf.{references_in}

-- the fault of the References of a signature, with octets that are handed in
abbrev pub fault_in : Handed → Doc → NodeId → Option Fault
fault_in handed doc signature = fault handed (document_in doc) (path_in doc signature) (references_in doc signature)

-- with its place as far as it is told
abbrev pub as_told : Fault → Fault
as_told (TargetMissing k) = TargetMissing k
as_told (TargetTwice k) = TargetTwice k
as_told (NoChain k) = NoChain k
as_told (DigestName k) = DigestName k
as_told (NotHandedIn k) = NotHandedIn k
as_told (NotBase64 k at) = NotBase64 k (min at last_told)

-- a fault is this one. Memory may always be wanting
abbrev pub IsFault : Option Fault → RefFault → Type 0
IsFault found (faults.TargetMissing k) = found ≡ Some (TargetMissing k)
IsFault found (faults.TargetTwice k) = found ≡ Some (TargetTwice k)
IsFault found (faults.Chain k) = found ≡ Some (NoChain k)
IsFault found (faults.DigestName k) = found ≡ Some (DigestName k)
IsFault found (faults.External k) = found ≡ Some (NotHandedIn k)
IsFault found (faults.Base64 k at) = option_map as_told found ≡ Some (NotBase64 k at)
IsFault found faults.OutOfMemory = Unit {0}
