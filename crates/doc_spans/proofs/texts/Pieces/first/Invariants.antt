use Rattle.std.proofs.Common.{◌≡◌, ◌≤◌}
use Rattle.doc_spans.specs.Pieces.{items_size, characters_left, size_left}
use Rattle.doc_spans.proofs.texts.Pieces.first.Given as goal

-- the same characters are left, in no more bytes
abbrev pub invariant-sections : goal.invariant-sections
invariant-sections l = (characters_left l.self ≡ characters_left l.pieces) × (size_left l.pieces ≤ size_left l.self)

abbrev pub decreases-sections : goal.decreases-sections
decreases-sections l = items_size l.pieces.items
