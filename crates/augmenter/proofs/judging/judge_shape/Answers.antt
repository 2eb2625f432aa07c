use Rattle.std.proofs.Common.{map}
use Rattle.der_values.specs.Distinct.{octets}
use Rattle.augmenter.proofs.OneItem.{is_material}
use Rattle.augmenter.proofs.judging.judge_shape.Goals as goal

pub returns : goal.returns
returns c = is_material c.args.octets.now (map octets c.in-Ok.field-0.certificates.items) (map octets c.in-Ok.field-0.lists.items) c.in-Ok.ensures.ok
