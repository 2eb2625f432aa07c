use Rattle.std.proofs.Common.{refl, codes}
use Rattle.doc_spans.specs.Seen.{document_in}
use Rattle.signature_model.specs.Holding.{lacking, without_octets}
use Rattle.signature_model.specs.Parts.{digest_methods, digest_values}
use Rattle.signature_model.specs.Vocabulary.{ds}
use Rattle.signature_elements.specs.Standing.{spot_or_none}
use Rattle.inner_lines.specs.LineParts.{nameless_methods}
use Rattle.signature_parts.proofs.Adding.{adds_more}
use Rattle.signature_parts.proofs.FromNone.{adds_part, adds_ds}
use Rattle.inner_lines.proofs.signed.add_digest.Goals as goal

pub returns : goal.returns
returns c =
    let document = document_in c.args.doc in
    let digest = spot_or_none c.args.doc c.args.digest in
    adds_more c.args.doc _ (without_octets document (digest_values document digest)) _ _ _
    (adds_more c.args.doc _ (lacking document (ds (codes "DigestValue")) digest) _ _ _
    (adds_more c.args.doc (lacking document (ds (codes "DigestMethod")) digest) (nameless_methods (digest_methods document digest)) _ _ _
    (adds_ds c.args.doc (λ name. lacking document name digest) (codes "DigestMethod") _ _ _ refl c.ds.ensures c.add_lacking.ensures)
    (adds_part c.args.doc nameless_methods _ _ _ _ c.digest_method.ensures.spot c.add_nameless.ensures))
    (adds_ds c.args.doc (λ name. lacking document name digest) (codes "DigestValue") _ _ _ refl c.ds-2.ensures c.add_lacking-2.ensures))
    (adds_part c.args.doc (without_octets document) _ _ _ _ c.digest_value.ensures.spot c.add_without_octets.ensures)
