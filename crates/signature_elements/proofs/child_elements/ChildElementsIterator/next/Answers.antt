use Rattle.doc_spans.specs.Seen.{shown_in}
use Rattle.signature_elements.proofs.Spotted.{within_rest}
use Rattle.signature_elements.proofs.child_elements.ChildElementsIterator.next.Goals as goal

pub invariant_of-self : goal.invariant_of-self
invariant_of-self c =
    record { within = within_rest (shown_in c.nodes.self.doc).places c.nodes.self.children c.next.new.self c.next.result c.next.ensures.steps c.nodes.invariant.0 }
