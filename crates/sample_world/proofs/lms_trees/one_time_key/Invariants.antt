use Rattle.std.proofs.Common.{◌++◌}
use Rattle.sha2.specs.Hashers.{Holds256}
use Rattle.lms_verify.specs.LmOts.{u16str, u32str, chain}
use Rattle.sample_world.specs.Joined.{joined}
use Rattle.sample_world.specs.LmsKeys.{secret}
use Rattle.sample_world.proofs.lms_trees.one_time_key.Given as goal

abbrev pub invariant-chains : goal.invariant-chains
invariant-chains l =
    Holds256 l.hasher (l.id ++ u32str l.q ++ u16str 0x8080 ++ joined (λ i. chain l.id l.q i 0 255 (secret l.seed l.id l.q i)) l.i)
