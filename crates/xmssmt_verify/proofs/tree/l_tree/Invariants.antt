use Rattle.std.proofs.Common.{◌≡◌, ◌≤◌, take, length}
use Rattle.xmss_definitions.specs.Nodes.{lifted}
use Rattle.xmssmt_verify.proofs.tree.l_tree.Given as goal

abbrev pub invariant-heights : goal.invariant-heights
invariant-heights l =
    (length l.nodes ≡ 67) × (1 ≤ l.count) × (l.count ≤ 67) × (take l.count l.nodes ≡ lifted l.prf l.leaf l.fn.ends l.height)
