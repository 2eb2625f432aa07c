use Rattle.std.proofs.Common.{sym, ◌∙◌}
use Rattle.der_values.proofs.DistinctLaws.{not_found}
use Rattle.der_values.proofs.distinct.is_in.Goals as goal

pub returns : goal.returns
returns c miss has = not_found c.args.block.now c.args.first.now c.binary_search.result c.requires c.binary_search.ensures.position (sym c.is_ok.ensures.value ∙ miss) has
