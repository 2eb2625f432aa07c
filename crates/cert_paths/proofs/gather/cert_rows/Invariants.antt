use Rattle.cert_paths.specs.Rows.{AreCertificatesTo}
use Rattle.cert_paths.proofs.gather.cert_rows.Given as goal

abbrev pub invariant-loop-number : goal.invariant-loop-number
invariant-loop-number l = AreCertificatesTo l.pool l.rows.items l.number
