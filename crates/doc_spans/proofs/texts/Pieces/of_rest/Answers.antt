use Rattle.std.proofs.Common.{◌++◌, ap}
use Rattle.std.proofs.lemmas.Str.{chars-nil}
use Rattle.doc_spans.specs.Pieces.{items_left}
use Rattle.doc_spans.proofs.texts.Pieces.of_rest.Goals as goal

pub returns-clause-characters : goal.returns-clause-characters
returns-clause-characters c = ap (λ cs. cs ++ items_left c.args.items) chars-nil
