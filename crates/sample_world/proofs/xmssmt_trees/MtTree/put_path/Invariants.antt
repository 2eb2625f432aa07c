use Rattle.std.proofs.Common.{◌≡◌, ◌++◌, ◌/◌, ◌^◌}
use Rattle.sample_world.specs.Joined.{joined, sibling}
use Rattle.sample_world.specs.MtTrees.{tree_of, secrets_of}
use Rattle.sample_world.specs.XmssKeys.{node}
use Rattle.sample_world.proofs.xmssmt_trees.MtTree.put_path.Given as goal

abbrev pub invariant-heights : goal.invariant-heights
invariant-heights l =
    (l.i ≡ l.idx / 2 ^ l.n)
    × (l.out ≡ l.fn.out ++ joined (λ k. node (tree_of l.self) (secrets_of l.self) (sibling (l.idx / 2 ^ k)) k) l.n)
