use Rattle.std.proofs.Common.{refl}
use Rattle.std.proofs.lemmas.Option.{slice_get_read}
use Rattle.cert_paths.specs.declared.rows.CertRow.{CertRow}
use Rattle.cert_paths.specs.Rows.{dates_of}
use Rattle.cert_paths.proofs.TableLaws.{map_taken}
use Rattle.cert_paths.proofs.gather.dates.Goals as goal

pub loop-cert-preserved : goal.loop-cert-preserved
loop-cert-preserved c =
    map_taken (λ d. d.items) (λ (r : CertRow). dates_of r c.args.rows.now) c.loop-cert.all.items c.push.new.self.items c.args.certs.now c.loop-cert.cert-index c.in_ok-row.row
    c.cert-item.result c.in_ok-push.ensures.items (slice_get_read c.args.certs.now _ c.loop-cert.cert-index c.cert-item.result refl c.loop-cert-test.true c.cert-item.is)
    c.in_ok-row.ensures c.loop-cert.invariant
