use Rattle.attached_items.proofs.ValueAgain.{value_is_covered_alone}
use Rattle.attached_items.proofs.value_is_covered_alone.Goals as goal

pub returns : goal.returns
returns c = value_is_covered_alone
