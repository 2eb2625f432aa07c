use Rattle.std.proofs.Common.{◌≡◌, ◌<◌, length}
use Rattle.std.specs.List.{All}
use Rattle.doc_spans.specs.Rest.{rest}
use Rattle.doc_spans.specs.Seen.{shown_in}
use Rattle.signature_elements.specs.TextsLeft.{text_left}
use Rattle.signature_elements.proofs.text_pieces.TextPiecesIterator.next.Given as goal

-- what was passed has no characters
abbrev pub invariant-nodes : goal.invariant-nodes
invariant-nodes l =
    All (λ k. k < length (shown_in l.self.doc).places) (rest l.self.children)
    × (text_left l.self ≡ text_left l.fn.self)

abbrev pub decreases-nodes : goal.decreases-nodes
decreases-nodes l = length (rest l.self.children)
