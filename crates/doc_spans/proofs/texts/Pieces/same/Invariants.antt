use Rattle.std.proofs.Common.{◌≡◌}
use denote.Text.{Utf8}
use denote.Shadow.{shadow}
use Rattle.std.specs.Str.{chars, bytes_eq}
use Rattle.doc_spans.specs.Pieces.{characters_left, size_left}
use Rattle.doc_spans.proofs.texts.Pieces.same.Given as goal

-- the characters are the same where those that are left are
abbrev pub invariant-pieces : goal.invariant-pieces
invariant-pieces l = shadow (Utf8 l.rest) × (bytes_eq (characters_left l.self) (chars l.text) ≡ bytes_eq (characters_left l.pieces) (chars l.rest))

abbrev pub decreases-pieces : goal.decreases-pieces
decreases-pieces l = size_left l.pieces
