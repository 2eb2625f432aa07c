use Rattle.std.proofs.Common.{◌++◌, ◌∙◌, ap}
use Rattle.std.proofs.lemmas.Str.{chars-nil}
use Rattle.std.specs.Str.{chars}
use Rattle.doc_spans.specs.Pieces.{characters_left}
use Rattle.node_index.proofs.texts.gathered.Goals as goal

pub returns : goal.returns
returns c =
    let left = characters_left c.args.pieces in
    c.in_ok-push_pieces.ensures ∙ ap (λ text. chars text ++ left) c.new-text.ensures.bytes ∙ ap (λ cs. cs ++ left) chars-nil
