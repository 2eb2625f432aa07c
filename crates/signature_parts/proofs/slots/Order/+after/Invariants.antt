use Rattle.std.proofs.Common.{length}
use Rattle.signature_parts.proofs.slots.Order.+after.Given as goal

abbrev pub decreases-after : goal.decreases-after
decreases-after l = length l.self.left.now
