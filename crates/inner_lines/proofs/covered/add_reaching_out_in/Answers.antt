use Rattle.std.proofs.Common.{ap, ◌∷◌, []}
use Rattle.std.specs.Prelude.{List}
use Rattle.std.specs.Prelude.{filter}
use Rattle.signature_model.specs.Spots.{Spot, elements_in, paths}
use Rattle.signature_model.specs.Shape.{is_reaching_out}
use Rattle.doc_spans.specs.Seen.{document_in}
use Rattle.signature_elements.specs.ElementsLeft.{elements_doc, elements_left}
use Rattle.signature_elements.specs.Standing.{spot_of}
use Rattle.signature_elements.proofs.Laws.{next_spot}
use Rattle.signature_parts.proofs.Adding.{adding_goes_on, adding_ends, adds_tested}
use Rattle.signature_parts.proofs.AnyOrder.{alike_back, adds_alike}
use Rattle.signature_parts.proofs.Spread.{one_each, each_tested}
use Rattle.inner_lines.proofs.covered.add_reaching_out_in.Goals as goal

pub is_reaching_out-requires : goal.is_reaching_out-requires
is_reaching_out-requires c =
    let next = next_spot elements_doc elements_left c.args.doc c.loop-transform.transform-iterator c.next.new.self c.in-Some.transform c.loop-transform.invariant.2 c.in-Some.ensures.steps in
    next.there

pub add_where-requires : goal.add_where-requires
add_where-requires c =
    let next = next_spot elements_doc elements_left c.args.doc c.loop-transform.transform-iterator c.next.new.self c.in-Some.transform c.loop-transform.invariant.2 c.in-Some.ensures.steps in
    record { within = c.loop-transform.invariant.3.within; node = next.there.0 }

pub loop-transform-preserved : goal.loop-transform-preserved
loop-transform-preserved c =
    let next = next_spot elements_doc elements_left c.args.doc c.loop-transform.transform-iterator c.next.new.self c.in-Some.transform c.loop-transform.invariant.2 c.in-Some.ensures.steps in
    (tt, tt, next.doc_is, adding_goes_on c.args.doc ((λ (spots : List Spot). paths (filter is_reaching_out spots)) (spot_of c.args.doc c.in-Some.transform ∷ [])) _ _ _ _ _ _ (ap (one_each (λ (spots : List Spot). paths (filter is_reaching_out spots))) next.spots) c.loop-transform.invariant.3 (adds_tested is_reaching_out c.args.doc c.in-Some.transform _ _ _ (c.is_reaching_out.ensures) c.add_where.ensures))

pub returns : goal.returns
returns c = adds_alike c.args.doc _ _ _ _ (alike_back _ _ ((each_tested is_reaching_out).same (elements_in (document_in c.args.doc) (spot_of c.args.doc c.args.list)))) (adding_ends c.args.doc _ _ _ _ (ap (one_each (λ (spots : List Spot). paths (filter is_reaching_out spots))) c.in-None.ensures.steps.1.0) c.loop-transform.invariant.3)
