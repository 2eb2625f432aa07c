use Rattle.std.proofs.Common.{[], ◌∷◌, ◌∙◌, ap, refl, codes}
use Rattle.doc_spans.specs.Seen.{document_in}
use Rattle.document_model.specs.Names.{Expanded}
use Rattle.signature_model.specs.Vocabulary.{ds}
use Rattle.signature_model.specs.Spots.{called_in, first}
use Rattle.signature_model.specs.Parts.{digest_kind}
use Rattle.signature_elements.specs.Standing.{spot_of}
use Rattle.signature_elements.proofs.AsciiNames.{word}
use Rattle.reference_chains.proofs.digest_methods.digest_kind_of.Goals as goal

pub returns-in-Some : goal.returns-in-Some
returns-in-Some c =
    c.digest_kind.ensures
    ∙ ap digest_kind (c.in-Some.ensures.spot
    ∙ ap (λ (name : Expanded). first (called_in (document_in c.args.doc) name (spot_of c.args.doc c.args.reference ∷ []))) (c.ds.ensures ∙ ap ds (word (codes "DigestMethod") refl)))

pub returns-in-None : goal.returns-in-None
returns-in-None c =
    ap digest_kind (c.in-None.ensures.spot
    ∙ ap (λ (name : Expanded). first (called_in (document_in c.args.doc) name (spot_of c.args.doc c.args.reference ∷ []))) (c.ds.ensures ∙ ap ds (word (codes "DigestMethod") refl)))
