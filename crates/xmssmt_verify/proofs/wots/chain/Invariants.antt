use Rattle.std.proofs.Common.{◌≡◌}
use Rattle.xmss_definitions.specs.Wots.{chain}
use Rattle.xmssmt_verify.proofs.wots.chain.Given as goal

abbrev pub invariant-steps : goal.invariant-steps
invariant-steps l = l.value ≡ chain l.prf l.leaf l.i l.from l.n l.fn.start
