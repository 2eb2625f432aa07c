use Rattle.std.proofs.Common.{Bool, cond, sym, ◌∙◌, ap, [], ◌∷◌}
use Rattle.std.specs.Prelude.{filter}
use Rattle.doc_spans.specs.Seen.{document_in}
use Rattle.signature_elements.specs.Standing.{spot_of}
use Rattle.signature_model.specs.Parts.{is_values, is_validation_data}
use Rattle.signature_model.specs.Spots.{elements_in}
use Rattle.inner_lines.specs.LineParts.{values_faults}
use Rattle.signature_parts.proofs.Adding.{adds_as, adds_none}
use Rattle.inner_lines.proofs.values.add_values_of.Goals as goal

pub returns-then-is_values : goal.returns-then-is_values
returns-then-is_values c =
    let document = document_in c.args.doc in
    let spot = spot_of c.args.doc c.args.property in
    let within = filter is_values (elements_in document spot) in
    let choice = λ (b : Bool). values_faults document (cond b (spot ∷ []) (cond (is_validation_data spot) within [])) in
    adds_as c.args.doc _ _ _ _ (sym (ap choice (sym c.is_values.ensures ∙ c.if-is_values.true))) c.add_values.ensures

pub returns-then-is_validation_data : goal.returns-then-is_validation_data
returns-then-is_validation_data c =
    let document = document_in c.args.doc in
    let spot = spot_of c.args.doc c.args.property in
    let within = filter is_values (elements_in document spot) in
    let values = sym c.is_values.ensures ∙ c.if-is_values.false in
    let kind = sym c.is_validation_data.ensures ∙ c.if-is_validation_data.true in
    adds_as c.args.doc _ _ _ _ (sym (λ i. values_faults document (cond (values i) (spot ∷ []) (cond (kind i) within [])))) c.add_values_in.ensures

pub returns-else-is_validation_data : goal.returns-else-is_validation_data
returns-else-is_validation_data c =
    let document = document_in c.args.doc in
    let spot = spot_of c.args.doc c.args.property in
    let within = filter is_values (elements_in document spot) in
    let values = sym c.is_values.ensures ∙ c.if-is_values.false in
    let kind = sym c.is_validation_data.ensures ∙ c.if-is_validation_data.false in
    adds_as c.args.doc _ _ _ _ (sym (λ i. values_faults document (cond (values i) (spot ∷ []) (cond (kind i) within [])))) (adds_none c.args.doc c.args.place.now c.requires.within)
