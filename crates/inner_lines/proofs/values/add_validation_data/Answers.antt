use Rattle.std.proofs.Common.{Bool, cond, sym, ◌∙◌, ap, [], ◌∷◌}
use Rattle.doc_spans.specs.Seen.{document_in}
use Rattle.signature_elements.specs.Standing.{spot_of}
use Rattle.signature_model.specs.Holding.{with_stray_text}
use Rattle.signature_parts.proofs.Adding.{adds_as, adds_none}
use Rattle.inner_lines.proofs.values.add_validation_data.Goals as goal

pub returns-then-is_validation_data : goal.returns-then-is_validation_data
returns-then-is_validation_data c =
    let document = document_in c.args.doc in
    let spot = spot_of c.args.doc c.args.property in
    let choice = λ (b : Bool). with_stray_text document (cond b (spot ∷ []) []) in
    adds_as c.args.doc _ _ _ _ (sym (ap choice (sym c.is_validation_data.ensures ∙ c.if-is_validation_data.true))) c.add_with_stray_text.ensures

pub returns-else-is_validation_data : goal.returns-else-is_validation_data
returns-else-is_validation_data c =
    let document = document_in c.args.doc in
    let spot = spot_of c.args.doc c.args.property in
    let choice = λ (b : Bool). with_stray_text document (cond b (spot ∷ []) []) in
    adds_as c.args.doc _ _ _ _ (sym (ap choice (sym c.is_validation_data.ensures ∙ c.if-is_validation_data.false))) (adds_none c.args.doc c.args.place.now c.requires.within)
