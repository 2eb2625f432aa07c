use Rattle.std.proofs.Common.{◌++◌, ap, ◌∙◌}
use Rattle.std.proofs.lemmas.Str.{chars-nil}
use Rattle.std.specs.Str.{chars}
use Rattle.doc_spans.specs.Pieces.{characters_left}
use Rattle.qualifying_props.proofs.method_names.text_of.Goals as goal

pub loop-piece-init : goal.loop-piece-init
loop-piece-init c =
    let left = characters_left c.into_iter-piece-iterator.result in (
      tt,
      tt,
      ap (λ text. chars text ++ left) c.new-text.ensures.bytes ∙ ap (λ cs. cs ++ left) chars-nil ∙ ap characters_left c.into_iter-piece-iterator.ensures.into_iter_gives,
    )
