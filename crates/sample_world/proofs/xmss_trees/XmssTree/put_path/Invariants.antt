use Rattle.std.proofs.Common.{◌≡◌, ◌++◌, ◌/◌, ◌^◌}
use Rattle.xmss_definitions.specs.Address.{only_tree}
use Rattle.sample_world.specs.Joined.{joined, sibling}
use Rattle.sample_world.specs.World.{xmss_secret, xmss_seed}
use Rattle.sample_world.specs.XmssKeys.{node}
use Rattle.sample_world.proofs.xmss_trees.XmssTree.put_path.Given as goal

abbrev pub invariant-heights : goal.invariant-heights
invariant-heights l =
    (l.i ≡ l.idx / 2 ^ l.n)
    × (l.out ≡ l.fn.out ++ joined (λ k. node (only_tree (xmss_seed l.self)) (xmss_secret l.self) (sibling (l.idx / 2 ^ k)) k) l.n)
