use Rattle.std.proofs.Common.{◌≡◌, take, length}
use Rattle.sample_world.specs.Joined.{listed}
use Rattle.sample_world.specs.World.{xmssmt_secret}
use Rattle.sample_world.specs.XmssKeys.{chain_end}
use Rattle.sample_world.proofs.xmssmt_trees.chain_ends.Given as goal

abbrev pub invariant-chains : goal.invariant-chains
invariant-chains l = (length l.ends ≡ 67) × (take l.i l.ends ≡ listed (chain_end l.prf (xmssmt_secret l.secret l.layer l.number) l.leaf) l.i)
