use Rattle.sample_world.proofs.xmssmt_trees.MtTree.+node.Given as goal

abbrev pub decreases-node : goal.decreases-node
decreases-node l = l.n
