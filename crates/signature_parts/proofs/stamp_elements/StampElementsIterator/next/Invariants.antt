use Rattle.std.proofs.Common.{◌≡◌, length}
use Rattle.signature_parts.specs.ListsLeft.{all_doc, all_left}
use Rattle.signature_parts.specs.StampsLeft.{stamps_left}
use Rattle.signature_parts.proofs.stamp_elements.StampElementsIterator.next.Given as goal

-- only other properties were passed
abbrev pub invariant-properties : goal.invariant-properties
invariant-properties l =
    (all_doc l.self.properties ≡ l.self.doc) × (l.self.doc ≡ l.fn.self.doc) × (stamps_left l.self ≡ stamps_left l.fn.self)

abbrev pub decreases-properties : goal.decreases-properties
decreases-properties l = length (all_left l.self.properties)
