use Rattle.std.proofs.Common.{Bool, cond, sym, ◌∙◌, ap, [], ◌∷◌}
use Rattle.doc_spans.specs.Seen.{document_in}
use Rattle.signature_elements.specs.Standing.{spot_of}
use Rattle.inner_lines.specs.LineParts.{values_faults}
use Rattle.signature_parts.proofs.Adding.{adds_as, adds_none}
use Rattle.inner_lines.proofs.values.add_where_values.Goals as goal

pub returns-then-is_values : goal.returns-then-is_values
returns-then-is_values c =
    let document = document_in c.args.doc in
    let spot = spot_of c.args.doc c.args.child in
    let choice = λ (b : Bool). values_faults document (cond b (spot ∷ []) []) in
    adds_as c.args.doc _ _ _ _ (sym (ap choice (sym c.is_values.ensures ∙ c.if-is_values.true))) c.add_values.ensures

pub returns-else-is_values : goal.returns-else-is_values
returns-else-is_values c =
    let document = document_in c.args.doc in
    let spot = spot_of c.args.doc c.args.child in
    let choice = λ (b : Bool). values_faults document (cond b (spot ∷ []) []) in
    adds_as c.args.doc _ _ _ _ (sym (ap choice (sym c.is_values.ensures ∙ c.if-is_values.false))) (adds_none c.args.doc c.args.place.now c.requires.within)
