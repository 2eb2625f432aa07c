use Rattle.x509_certs.proofs.TimeLaws.{update_stands}
use Rattle.x509_certs.proofs.crl.whole_crl.Goals as goal

pub returns-clause-times : goal.returns-clause-times
returns-clause-times c = update_stands c.args.bytes.now c.requires
