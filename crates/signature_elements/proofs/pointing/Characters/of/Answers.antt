use Rattle.std.proofs.Common.{◌++◌, ap}
use Rattle.std.proofs.lemmas.Str.{chars-nil}
use Rattle.doc_spans.specs.Pieces.{characters_left}
use Rattle.signature_elements.proofs.pointing.Characters.of.Goals as goal

pub returns : goal.returns
returns c = ap (λ cs. cs ++ characters_left c.args.pieces) chars-nil
