use Rattle.std.proofs.Common.{[], ◌∷◌, ◌++◌, ◌∙◌, ap}
use Rattle.std.proofs.lemmas.Str.{chars-nil}
use Rattle.std.specs.Str.{chars}
use Rattle.doc_spans.specs.Pieces.{characters_left}
use Rattle.node_index.proofs.texts.fragment.Goals as goal

pub returns : goal.returns
returns c =
    let left = characters_left c.args.identifier in
    c.in_ok-push_pieces.ensures
    ∙ ap (λ cs. cs ++ left) (c.in_ok-push_char.ensures ∙ ap (λ text. chars text ++ 35 ∷ []) c.new-text.ensures.bytes ∙ ap (λ cs. cs ++ 35 ∷ []) chars-nil)
