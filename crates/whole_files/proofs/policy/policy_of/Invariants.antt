use Rattle.std.proofs.Common.{◌≡◌, length, map}
use Rattle.whole_files.specs.Wants.{held_of, policy_of}
use Rattle.whole_files.proofs.policy.policy_of.Given as goal

abbrev pub invariant-files : goal.invariant-files
invariant-files l = policy_of (map held_of l.rest) ≡ policy_of (map held_of l.files)

abbrev pub decreases-files : goal.decreases-files
decreases-files l = length l.rest
