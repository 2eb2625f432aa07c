use Rattle.std.proofs.Common.{◌∙◌, ap}
use Rattle.std.proofs.lemmas.Str.{chars-nil}
use Rattle.std.specs.Prelude.{map}
use Rattle.document_model.specs.Methods.{words_at, prefix_named}
use Rattle.canon_methods.specs.Words.{is_comma}
use Rattle.canon_methods.proofs.rules.Prefixes.none.Goals as goal

pub returns : goal.returns
returns c = c.of_words.ensures ∙ ap (λ cs. map prefix_named (words_at is_comma cs)) chars-nil
