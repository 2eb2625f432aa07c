use Rattle.std.proofs.Common.{ap, sym, ◌∙◌}
use Rattle.base64_texts.specs.Readings.{read_on, read_on-append}
use Rattle.doc_spans.specs.Pieces.{characters_in}
use Rattle.signature_elements.specs.TextsLeft.{text_left}
use Rattle.qualifying_props.proofs.decoding.decode.Goals as goal

pub loop-piece-preserved : goal.loop-piece-preserved
loop-piece-preserved c =
    let left = text_left c.next.new.self in (
      tt,
      tt,
      ap (λ reading. read_on reading left) c.in-Ok.ensures ∙ sym (read_on-append c.loop-piece.decoder (characters_in c.in-Some.piece) left)
          ∙ sym (ap (read_on c.loop-piece.decoder) c.in-Some.ensures.steps.0) ∙ c.loop-piece.invariant.2,
    )
