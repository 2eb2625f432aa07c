use Rattle.std.proofs.Common.{◌≡◌, length}
use Rattle.signature_elements.specs.NamedLeft.{called_doc, called_left}
use Rattle.signature_parts.specs.QualifyingLeft.{qualifying_left}
use Rattle.signature_parts.proofs.object_elements.QualifyingObjectsIterator.next.Given as goal

-- only other objects were passed
abbrev pub invariant-objects : goal.invariant-objects
invariant-objects l =
    (called_doc l.self.objects ≡ l.self.doc) × (l.self.doc ≡ l.fn.self.doc) × (qualifying_left l.self ≡ qualifying_left l.fn.self)

abbrev pub decreases-objects : goal.decreases-objects
decreases-objects l = length (called_left l.self.objects)
