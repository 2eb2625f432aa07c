use Rattle.std.proofs.Common.{◌≡◌, ◌*◌, ◌++◌, take, drop, length}
use Rattle.xmss_definitions.specs.Nodes.{paired}
use Rattle.xmss_verify.proofs.tree.pair_up.Given as goal

abbrev pub invariant-pairs : goal.invariant-pairs
invariant-pairs l =
    (length l.nodes ≡ length l.initial.nodes)
    × (take l.i l.nodes ++ paired l.prf l.leaf l.height l.i (drop (2 * l.i) l.nodes) ≡ paired l.prf l.leaf l.height 0 l.initial.nodes)
