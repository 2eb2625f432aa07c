use Rattle.std.proofs.Common.{refl, codes}
use Rattle.doc_spans.specs.Seen.{document_in}
use Rattle.signature_model.specs.Holding.{not_one, without_text}
use Rattle.signature_model.specs.Vocabulary.{xades}
use Rattle.signature_elements.specs.Standing.{spot_or_none}
use Rattle.signature_parts.proofs.Adding.{adds_more}
use Rattle.signature_parts.proofs.FromNone.{adds_xades}
use Rattle.inner_lines.proofs.signed.add_time.Goals as goal

pub returns : goal.returns
returns c =
    let document = document_in c.args.doc in
    let holders = spot_or_none c.args.doc c.args.properties in
    adds_more c.args.doc (not_one document (xades (codes "SigningTime")) holders) (without_text document (spot_or_none c.args.doc c.args.time)) _ _ _
    (adds_xades c.args.doc (λ name. not_one document name holders) (codes "SigningTime") _ _ _ refl c.xades.ensures c.add_not_one.ensures)
    c.add_without_text.ensures
