use Rattle.std.proofs.Common.{◌≡◌, ◌/◌, ◌^◌}
use Rattle.xmss_definitions.specs.Nodes.{node_over}
use Rattle.xmssmt_verify.proofs.tree.root.Given as goal

abbrev pub invariant-heights : goal.invariant-heights
invariant-heights l =
    (l.i ≡ l.idx / 2 ^ l.n) × (l.value ≡ node_over l.prf l.idx l.path l.fn.leaf l.n)
