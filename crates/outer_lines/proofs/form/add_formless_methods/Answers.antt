use Rattle.std.proofs.Common.{ap, sym, ◌∙◌}
use Rattle.std.specs.Prelude.{filter, flat_map, is_none}
use Rattle.signature_model.specs.Parts.{form_in, stamp_method}
use Rattle.signature_model.specs.Spots.{paths}
use Rattle.signature_parts.proofs.Adding.{adds_at, tests_joined, adding_goes_on, adding_ends}
use Rattle.doc_spans.specs.Seen.{document_in}
use Rattle.signature_elements.specs.Standing.{spot_of}
use Rattle.signature_elements.proofs.Laws.{next_spot}
use Rattle.signature_parts.specs.StampsLeft.{stamps_doc, stamps_left}
use Rattle.outer_lines.proofs.form.add_formless_methods.Goals as goal

pub stamp_method-requires : goal.stamp_method-requires
stamp_method-requires c =
    let next = next_spot stamps_doc stamps_left c.args.doc c.loop-stamp.stamp-iterator c.next.new.self c.in-Some.stamp c.loop-stamp.invariant.2 c.in-Some.ensures.steps in
    next.there.0

pub loop-stamp-preserved : goal.loop-stamp-preserved
loop-stamp-preserved c =
    let next = next_spot stamps_doc stamps_left c.args.doc c.loop-stamp.stamp-iterator c.next.new.self c.in-Some.stamp c.loop-stamp.invariant.2 c.in-Some.ensures.steps in
    let more = ap (λ spots. paths (filter (λ spot. is_none (form_in (document_in c.args.doc) spot)) (flat_map (stamp_method (document_in c.args.doc)) spots))) next.spots
    ∙ sym (tests_joined (λ spot. is_none (form_in (document_in c.args.doc) spot)) (stamp_method (document_in c.args.doc) (spot_of c.args.doc c.in-Some.stamp)) _) in
    (tt, tt, next.doc_is, adding_goes_on c.args.doc _ _ _ _ _ _ _ more c.loop-stamp.invariant.3 (adds_at (λ spots. paths (filter (λ spot. is_none (form_in (document_in c.args.doc) spot)) spots)) c.args.doc _ _ _ _ c.stamp_method.ensures c.add_without_form.ensures))

pub returns : goal.returns
returns c = adding_ends c.args.doc _ _ _ _ (ap (λ spots. paths (filter (λ spot. is_none (form_in (document_in c.args.doc) spot)) (flat_map (stamp_method (document_in c.args.doc)) spots))) c.in-None.ensures.steps.1.0) c.loop-stamp.invariant.3
