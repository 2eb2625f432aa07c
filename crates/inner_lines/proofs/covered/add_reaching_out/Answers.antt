use Rattle.std.proofs.Common.{ap, sym, ◌∷◌, []}
use Rattle.std.specs.Prelude.{List}
use Rattle.std.proofs.lemmas.List.{append-nil}
use Rattle.std.specs.Prelude.{filter, flat_map}
use Rattle.signature_model.specs.Spots.{Spot, elements_in, paths}
use Rattle.signature_model.specs.Shape.{is_reaching_out}
use Rattle.signature_model.specs.Parts.{transform_lists}
use Rattle.doc_spans.specs.Seen.{document_in}
use Rattle.signature_elements.specs.NamedLeft.{called_doc, called_left}
use Rattle.signature_elements.specs.Standing.{spot_of}
use Rattle.signature_elements.proofs.Laws.{next_spot}
use Rattle.signature_parts.proofs.Adding.{adds_as, adding_goes_on, adding_ends}
use Rattle.signature_parts.proofs.AnyOrder.{alike_back, adds_alike}
use Rattle.signature_parts.proofs.Spread.{one_each, each_tested, each_of, spread_flat}
use Rattle.inner_lines.proofs.covered.add_reaching_out.Goals as goal

pub add_reaching_out_in-requires : goal.add_reaching_out_in-requires
add_reaching_out_in-requires c =
    let next = next_spot called_doc called_left c.args.doc c.loop-list.list-iterator c.next.new.self c.in-Some.list c.loop-list.invariant.2 c.in-Some.ensures.steps in
    record { within = c.loop-list.invariant.3.within; there = next.there }

pub loop-list-preserved : goal.loop-list-preserved
loop-list-preserved c =
    let next = next_spot called_doc called_left c.args.doc c.loop-list.list-iterator c.next.new.self c.in-Some.list c.loop-list.invariant.2 c.in-Some.ensures.steps in
    (tt, tt, next.doc_is, adding_goes_on c.args.doc ((λ (spots : List Spot). paths (filter is_reaching_out (flat_map (elements_in (document_in c.args.doc)) spots))) (spot_of c.args.doc c.in-Some.list ∷ [])) _ _ _ _ _ _ (ap (one_each (λ (spots : List Spot). paths (filter is_reaching_out (flat_map (elements_in (document_in c.args.doc)) spots)))) next.spots) c.loop-list.invariant.3 (adds_as c.args.doc _ _ _ _ (ap (λ spots. paths (filter is_reaching_out spots)) (sym (append-nil (elements_in (document_in c.args.doc) (spot_of c.args.doc c.in-Some.list))))) c.add_reaching_out_in.ensures))

pub returns : goal.returns
returns c = adds_alike c.args.doc _ _ _ _ (alike_back _ _ ((each_of (λ spots. paths (filter is_reaching_out spots)) (flat_map (elements_in (document_in c.args.doc))) (each_tested is_reaching_out) (spread_flat (elements_in (document_in c.args.doc)))).same (transform_lists (document_in c.args.doc) (spot_of c.args.doc c.args.reference)))) (adding_ends c.args.doc _ _ _ _ (ap (one_each (λ (spots : List Spot). paths (filter is_reaching_out (flat_map (elements_in (document_in c.args.doc)) spots)))) c.in-None.ensures.steps.1.0) c.loop-list.invariant.3)
