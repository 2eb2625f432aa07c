use Rattle.std.proofs.Common.{◌≡◌, take, length}
use Rattle.sample_world.specs.Joined.{listed}
use Rattle.sample_world.specs.World.{xmss_secret}
use Rattle.sample_world.specs.XmssKeys.{chain_end}
use Rattle.sample_world.proofs.xmss_trees.chain_ends.Given as goal

abbrev pub invariant-chains : goal.invariant-chains
invariant-chains l = (length l.ends ≡ 67) × (take l.i l.ends ≡ listed (chain_end l.prf (xmss_secret l.secret) l.leaf) l.i)
