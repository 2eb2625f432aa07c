use Rattle.std.proofs.Common.{Bool, cond, sym, ◌∙◌, ap, codes, []}
use Rattle.doc_spans.specs.Seen.{document_in}
use Rattle.signature_elements.specs.Standing.{spot_of}
use Rattle.signature_model.specs.Holding.{with_stray_text}
use Rattle.signature_model.specs.Spots.{called}
use Rattle.signature_model.specs.Vocabulary.{xades}
use Rattle.signature_parts.proofs.Adding.{adds_as, adds_none}
use Rattle.inner_lines.proofs.values.add_lists.Goals as goal

pub returns-then-is_revocation_values : goal.returns-then-is_revocation_values
returns-then-is_revocation_values c =
    let document = document_in c.args.doc in
    let spot = spot_of c.args.doc c.args.holder in
    let choice = λ (b : Bool). with_stray_text document (cond b (called document (xades (codes "CRLValues")) spot) []) in
    adds_as c.args.doc _ _ _ _ (sym (ap choice (sym c.is_revocation_values.ensures ∙ c.if-is_revocation_values.true))) (adds_as c.args.doc _ _ _ _ (ap (with_stray_text document) c.revocation_lists.ensures.spots) c.add_each_with_stray_text.ensures)

pub returns-else-is_revocation_values : goal.returns-else-is_revocation_values
returns-else-is_revocation_values c =
    let document = document_in c.args.doc in
    let spot = spot_of c.args.doc c.args.holder in
    let choice = λ (b : Bool). with_stray_text document (cond b (called document (xades (codes "CRLValues")) spot) []) in
    adds_as c.args.doc _ _ _ _ (sym (ap choice (sym c.is_revocation_values.ensures ∙ c.if-is_revocation_values.false))) (adds_none c.args.doc c.args.place.now c.requires.within)
