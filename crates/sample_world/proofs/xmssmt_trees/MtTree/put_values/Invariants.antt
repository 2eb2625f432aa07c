use Rattle.std.proofs.Common.{◌≡◌, ◌++◌}
use Rattle.xmss_definitions.specs.Wots.{chain, digit}
use Rattle.sample_world.specs.Joined.{joined}
use Rattle.sample_world.specs.MtTrees.{tree_of, secrets_of}
use Rattle.sample_world.proofs.xmssmt_trees.MtTree.put_values.Given as goal

abbrev pub invariant-chains : goal.invariant-chains
invariant-chains l =
    l.out ≡ l.fn.out ++ joined (λ i. chain (tree_of l.self) l.idx i 0 (digit l.digits i) (secrets_of l.self l.idx i)) l.i
