use Rattle.std.proofs.Common.{refl}
use Rattle.x509_certs.proofs.TimeLaws.{times_stand}
use Rattle.x509_certs.proofs.certificate.read_certificate.Goals as goal

pub returns-in-Ok-clause-times : goal.returns-in-Ok-clause-times
returns-in-Ok-clause-times c = times_stand c.args.bytes.now (c.in-Ok.ensures.exact.0 refl)
