use Rattle.x509_certs.proofs.TimeLaws.{times_stand}
use Rattle.x509_certs.proofs.certificate.whole_certificate.Goals as goal

pub returns-clause-times : goal.returns-clause-times
returns-clause-times c = times_stand c.args.bytes.now c.requires
