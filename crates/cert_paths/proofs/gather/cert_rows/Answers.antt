use Rattle.std.proofs.Common.{List, subst, sym, arith}
use Rattle.cert_paths.specs.declared.rows.CertRow.{CertRow}
use Rattle.cert_paths.specs.Rows.{AreCertificatesTo}
use Rattle.cert_paths.proofs.GatherLaws.{certificates_none, certificates_all}
use Rattle.cert_paths.proofs.gather.cert_rows.Goals as goal

pub loop-number-init : goal.loop-number-init
loop-number-init c = subst (λ (rows : List CertRow). AreCertificatesTo c.args.pool.now rows 0) (sym c.new-rows.ensures.items) (certificates_none c.args.pool.now)

pub loop-number-preserved : goal.loop-number-preserved
loop-number-preserved c =
    c.in_ok-put_cert.ensures c.args.pool.now c.loop-number.number c.loop-number.invariant c.part.ensures (c.read.ensures c.part.result.number c.part.ensures)

pub returns-clause-rows : goal.returns-clause-rows
returns-clause-rows c =
    let end = c.parts-number-end.ensures.count in
    let test = c.loop-number-test.false in
    certificates_all c.args.pool.now c.loop-number.rows.items c.loop-number.number (omega arith) c.loop-number.invariant
