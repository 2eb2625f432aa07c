use Rattle.std.proofs.Common.{◌∙◌, sym}
use Rattle.std.specs.Str.{chars}
use Rattle.doc_spans.specs.Pieces.{characters_left, characters_in}
use Rattle.doc_spans.proofs.SameTexts.{same_behind, same_none}
use Rattle.doc_spans.proofs.texts.Pieces.same.Goals as goal

pub pieces-preserved : goal.pieces-preserved
pieces-preserved c = (
  c.in-Some-behind_piece.ensures.utf8,
  c.pieces.invariant.1
      ∙ same_behind (characters_in c.in-Some.piece) (characters_left c.in-Some.behind) (chars c.in-Some-behind_piece.further.now) _ _ c.in-Some.ensures.first c.in-Some-behind_piece.ensures.found,
)

pub returns-in-None : goal.returns-in-None
returns-in-None c = c.is_empty.ensures ∙ sym (c.pieces.invariant.1 ∙ same_none (characters_left c.pieces.pieces) c.pieces.rest.now c.in-None.ensures.first c.pieces.invariant.0)
