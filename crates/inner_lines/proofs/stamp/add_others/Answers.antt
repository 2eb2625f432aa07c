use Rattle.std.proofs.Common.{ap, ◌∷◌, []}
use Rattle.std.specs.Prelude.{List}
use Rattle.std.specs.Prelude.{filter, not}
use Rattle.signature_model.specs.Spots.{Spot, elements_in, paths}
use Rattle.signature_model.specs.Shape.{is_in_stamp}
use Rattle.doc_spans.specs.Seen.{document_in}
use Rattle.signature_elements.specs.ElementsLeft.{elements_doc, elements_left}
use Rattle.signature_elements.specs.Standing.{spot_of}
use Rattle.signature_elements.proofs.Laws.{next_spot}
use Rattle.signature_parts.proofs.Adding.{adding_goes_on, adding_ends, adds_tested}
use Rattle.signature_parts.proofs.AnyOrder.{alike_back, adds_alike}
use Rattle.signature_parts.proofs.Spread.{one_each, each_tested}
use Rattle.inner_lines.proofs.stamp.add_others.Goals as goal

pub is_in_stamp-requires : goal.is_in_stamp-requires
is_in_stamp-requires c =
    let next = next_spot elements_doc elements_left c.args.doc c.loop-child.child-iterator c.next.new.self c.in-Some.child c.loop-child.invariant.2 c.in-Some.ensures.steps in
    next.there

pub add_where-requires : goal.add_where-requires
add_where-requires c =
    let next = next_spot elements_doc elements_left c.args.doc c.loop-child.child-iterator c.next.new.self c.in-Some.child c.loop-child.invariant.2 c.in-Some.ensures.steps in
    record { within = c.loop-child.invariant.3.within; node = next.there.0 }

pub loop-child-preserved : goal.loop-child-preserved
loop-child-preserved c =
    let next = next_spot elements_doc elements_left c.args.doc c.loop-child.child-iterator c.next.new.self c.in-Some.child c.loop-child.invariant.2 c.in-Some.ensures.steps in
    (tt, tt, next.doc_is, adding_goes_on c.args.doc ((λ (spots : List Spot). paths (filter (λ child. not (is_in_stamp child)) spots)) (spot_of c.args.doc c.in-Some.child ∷ [])) _ _ _ _ _ _ (ap (one_each (λ (spots : List Spot). paths (filter (λ child. not (is_in_stamp child)) spots))) next.spots) c.loop-child.invariant.3 (adds_tested (λ child. not (is_in_stamp child)) c.args.doc c.in-Some.child _ _ _ (ap not c.is_in_stamp.ensures) c.add_where.ensures))

pub returns : goal.returns
returns c = adds_alike c.args.doc _ _ _ _ (alike_back _ _ ((each_tested (λ child. not (is_in_stamp child))).same (elements_in (document_in c.args.doc) (spot_of c.args.doc c.args.stamp)))) (adding_ends c.args.doc _ _ _ _ (ap (one_each (λ (spots : List Spot). paths (filter (λ child. not (is_in_stamp child)) spots))) c.in-None.ensures.steps.1.0) c.loop-child.invariant.3)
