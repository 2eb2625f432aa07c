use Rattle.std.proofs.Common.{sym, ap, ◌∙◌}
use Rattle.doc_spans.specs.Pieces.{characters_in, characters_left}
use Rattle.reference_chains.proofs.HeldTexts.{taken_further}
use Rattle.reference_chains.proofs.set_texts.hand_on_pieces.Goals as goal

pub loop-piece-preserved : goal.loop-piece-preserved
loop-piece-preserved g c = (
  tt,
  tt,
  taken_further g.T.TakesText.after c.loop-piece.taker c.take.new.self _ (characters_left c.loop-piece.piece-iterator) (characters_in c.in-Some.piece) (characters_left c.next.new.self)
      g.T.TakesText.joined c.in_ok-take.ensures c.in-Some.ensures.steps c.loop-piece.invariant.2,
)

pub returns : goal.returns
returns g c =
    sym (g.T.TakesText.stays c.loop-piece.taker) ∙ ap (g.T.TakesText.after c.loop-piece.taker) (sym c.in-None.ensures.steps.0) ∙ c.loop-piece.invariant.2
