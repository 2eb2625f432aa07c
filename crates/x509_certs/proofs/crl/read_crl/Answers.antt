use Rattle.std.proofs.Common.{refl}
use Rattle.x509_certs.proofs.TimeLaws.{update_stands}
use Rattle.x509_certs.proofs.crl.read_crl.Goals as goal

pub returns-in-Ok-clause-times : goal.returns-in-Ok-clause-times
returns-in-Ok-clause-times c = update_stands c.args.bytes.now (c.in-Ok.ensures.exact.0 refl)
