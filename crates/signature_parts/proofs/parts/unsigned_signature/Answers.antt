use Rattle.std.proofs.Common.{refl, codes}
use Rattle.signature_model.specs.Vocabulary.{xades}
use Rattle.signature_parts.proofs.Named.{xades_name, part_in}
use Rattle.signature_parts.proofs.parts.unsigned_signature.Goals as goal

pub returns : goal.returns
returns c =
    part_in c.args.doc _ (xades (codes "UnsignedSignatureProperties")) _ _ _ (xades_name _ (codes "UnsignedSignatureProperties") refl c.xades.ensures)
    c.unsigned.ensures c.first_in.ensures.spot c.first_in.ensures.there
