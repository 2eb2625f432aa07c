use Rattle.std.proofs.Common.{◌≡◌, ◌++◌}
use Rattle.xmss_definitions.specs.Wots.{chain, digit}
use Rattle.xmss_definitions.specs.Address.{only_tree}
use Rattle.sample_world.specs.Joined.{joined}
use Rattle.sample_world.specs.World.{xmss_secret, xmss_seed}
use Rattle.sample_world.proofs.xmss_trees.XmssTree.put_values.Given as goal

abbrev pub invariant-chains : goal.invariant-chains
invariant-chains l =
    l.out ≡ l.fn.out ++ joined (λ i. chain (only_tree (xmss_seed l.self)) l.idx i 0 (digit l.digits i) (xmss_secret l.self l.idx i)) l.i
