use Rattle.std.proofs.Common.{ap}
use Rattle.policy_rules.specs.View.{rules}
use Rattle.x509_certs.specs.View.{certificate_bytes}
use Rattle.acceptance.specs.Objects.{certificate_of}
use Rattle.cert_paths.specs.Rows.{issuer_of}
use Rattle.cert_paths.proofs.TableLaws.{map_taken}
use Rattle.cert_paths.proofs.gather.anchor_rows.Goals as goal

pub loop-number-preserved : goal.loop-number-preserved
loop-number-preserved c =
    map_taken issuer_of certificate_of c.loop-number.rows.items c.push.new.self.items (rules c.args.policy.now).anchors c.loop-number.number c.issuer_row.result
    (certificate_bytes c.anchor.result) c.in_ok-push.ensures.items c.anchor.ensures.found (ap certificate_of c.issuer_row.ensures) c.loop-number.invariant
