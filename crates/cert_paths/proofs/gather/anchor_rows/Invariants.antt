use Rattle.std.proofs.Common.{◌≡◌, map, take}
use Rattle.policy_rules.specs.View.{rules}
use Rattle.acceptance.specs.Objects.{certificate_of}
use Rattle.cert_paths.specs.Rows.{issuer_of}
use Rattle.cert_paths.proofs.gather.anchor_rows.Given as goal

abbrev pub invariant-loop-number : goal.invariant-loop-number
invariant-loop-number l = map issuer_of l.rows.items ≡ map certificate_of (take l.number (rules l.policy).anchors)
