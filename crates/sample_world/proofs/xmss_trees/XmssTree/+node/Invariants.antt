use Rattle.sample_world.proofs.xmss_trees.XmssTree.+node.Given as goal

abbrev pub decreases-node : goal.decreases-node
decreases-node l = l.n
