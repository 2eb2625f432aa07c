use Rattle.std.proofs.Common.{◌≡◌, ◌<◌, length}
use Rattle.std.specs.List.{All}
use Rattle.doc_spans.specs.Rest.{rest}
use Rattle.doc_spans.specs.Seen.{shown_in}
use Rattle.signature_elements.specs.ElementsLeft.{elements_left}
use Rattle.signature_elements.proofs.child_elements.ChildElementsIterator.next.Given as goal

-- only other nodes were passed
abbrev pub invariant-nodes : goal.invariant-nodes
invariant-nodes l =
    All (λ k. k < length (shown_in l.self.doc).places) (rest l.self.children)
    × (l.self.doc ≡ l.fn.self.doc)
    × (elements_left l.self ≡ elements_left l.fn.self)

abbrev pub decreases-nodes : goal.decreases-nodes
decreases-nodes l = length (rest l.self.children)
