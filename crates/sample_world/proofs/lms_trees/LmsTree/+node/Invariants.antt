use Rattle.sample_world.proofs.lms_trees.LmsTree.+node.Given as goal

abbrev pub decreases-node : goal.decreases-node
decreases-node l = l.n
