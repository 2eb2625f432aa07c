use Rattle.std.proofs.Common.{length}
use Rattle.signature_parts.proofs.slots.+lacks_one.Given as goal

abbrev pub decreases-lacks_one : goal.decreases-lacks_one
decreases-lacks_one l = length l.slots.now
