use Rattle.std.proofs.Common.{◌∷◌, cond, ap, sym, ◌∙◌}
use Rattle.std.specs.Prelude.{filter, flat_map}
use Rattle.doc_spans.specs.Seen.{document_in}
use Rattle.signature_elements.specs.ElementsLeft.{elements_doc, elements_left}
use Rattle.signature_elements.specs.Standing.{spot_of}
use Rattle.signature_elements.proofs.Laws.{next_spot}
use Rattle.signature_model.specs.Parts.{data_of_values, is_values}
use Rattle.qualifying_props.proofs.Reading.{reading_goes_on}
use Rattle.qualifying_props.proofs.material.read_inner_values.Goals as goal

pub loop-values-preserved : goal.loop-values-preserved
loop-values-preserved c =
    let doc = c.args.doc in
    let document = document_in doc in
    let spot = spot_of doc c.in-Some.values in
    let before = elements_left c.loop-values.values-iterator in
    let left = elements_left c.next.new.self in
    let next = next_spot elements_doc elements_left doc c.loop-values.values-iterator c.next.new.self c.in-Some.values c.loop-values.invariant.2 c.in-Some.ensures.steps in
    let kept = ap (filter is_values) next.spots ∙ ap (λ b. cond b (spot ∷ filter is_values left) (filter is_values left)) (sym c.is_values.ensures ∙ c.if-not-is_values.false) in (
      tt,
      tt,
      next.doc_is,
      reading_goes_on doc (data_of_values document spot) (flat_map (data_of_values document) (filter is_values left)) (flat_map (data_of_values document) (filter is_values before)) _ _ _ _ _ _ _
          (ap (flat_map (data_of_values document)) kept) c.loop-values.invariant.3 c.in_ok-read_values.ensures,
    )
