use Rattle.std.proofs.Common.{◌≡◌, ◌*◌, ◌≤◌}
use Rattle.xmss_definitions.specs.Wots.{lacking}
use Rattle.xmssmt_verify.proofs.wots.lacking.Given as goal

abbrev pub invariant-digits : goal.invariant-digits
invariant-digits l = (l.sum ≡ lacking l.digest l.i) × (l.sum ≤ 15 * l.i)
