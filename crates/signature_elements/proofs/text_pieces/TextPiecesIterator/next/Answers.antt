use Rattle.doc_spans.specs.Seen.{shown_in}
use Rattle.signature_elements.proofs.Spotted.{within_rest}
use Rattle.signature_elements.proofs.text_pieces.TextPiecesIterator.next.Goals as goal

pub invariant_of-self-in-nodes : goal.invariant_of-self-in-nodes
invariant_of-self-in-nodes c =
    record { within = within_rest (shown_in c.nodes.self.doc).places c.nodes.self.children c.next.new.self c.next.result c.next.ensures.steps c.nodes.invariant.0 }
