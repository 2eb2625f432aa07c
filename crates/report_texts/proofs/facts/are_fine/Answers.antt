use Rattle.std.proofs.Common.{◌∙◌, sym}
use Rattle.std.proofs.lemmas.List.Folds.{list_all-map}
use Rattle.report_texts.specs.Facts.{is_fine, token_shown}
use Rattle.report_texts.proofs.facts.are_fine.Goals as goal

pub returns : goal.returns
returns c = c.each_fine.ensures ∙ sym (list_all-map is_fine token_shown c.args.facts.now)
