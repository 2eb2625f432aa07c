use Rattle.std.proofs.Common.{◌≡◌, length}
use Rattle.signature_elements.specs.ElementsLeft.{elements_doc, elements_left}
use Rattle.signature_elements.specs.NamedLeft.{called_left}
use Rattle.signature_elements.proofs.named_elements.NamedElementsIterator.next.Given as goal

-- only elements with other names were passed
abbrev pub invariant-elements : goal.invariant-elements
invariant-elements l =
    (elements_doc l.self.elements ≡ l.self.doc) × (l.self.doc ≡ l.fn.self.doc) × (called_left l.self ≡ called_left l.fn.self)

abbrev pub decreases-elements : goal.decreases-elements
decreases-elements l = length (elements_left l.self.elements)
