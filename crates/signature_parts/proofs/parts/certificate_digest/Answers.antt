use Rattle.std.proofs.Common.{refl, codes}
use Rattle.signature_model.specs.Vocabulary.{xades}
use Rattle.signature_parts.proofs.Named.{xades_name, part_in}
use Rattle.signature_parts.proofs.parts.certificate_digest.Goals as goal

pub returns : goal.returns
returns c =
    part_in c.args.doc _ (xades (codes "CertDigest")) _ _ _ (xades_name _ (codes "CertDigest") refl c.xades.ensures)
    c.certificate.ensures c.first_in.ensures.spot c.first_in.ensures.there
