use Rattle.doc_spans.specs.declared.documents.NodeId.{NodeId}
use Rattle.signature_elements.specs.Standing.{spot_of}
use Rattle.references.specs.declared.targets.Sought.{Sought}
use Rattle.references.specs.Found.{IsSought}
use Rattle.references.proofs.Building.{Building}
use Rattle.references.proofs.targets.seek_all.Given as goal

abbrev pub invariant-loop-number : goal.invariant-loop-number
invariant-loop-number l =
    Building (IsSought l.doc) (λ (n : NodeId). spot_of l.doc n) (λ (s : Sought). spot_of l.doc s.node) l.parts.references l.number l.all.items
