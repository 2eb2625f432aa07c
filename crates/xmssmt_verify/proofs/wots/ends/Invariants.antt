use Rattle.std.proofs.Common.{◌≡◌, take, length}
use Rattle.xmss_definitions.specs.Wots.{ends}
use Rattle.xmssmt_verify.proofs.wots.ends.Given as goal

abbrev pub invariant-chains : goal.invariant-chains
invariant-chains l = (length l.nodes ≡ 67) × (take l.i l.nodes ≡ ends l.prf l.leaf l.digits l.ots l.i)
