use Rattle.std.proofs.Common.{ap, ◌∷◌, []}
use Rattle.std.specs.Prelude.{List}
use Rattle.std.specs.Prelude.{filter}
use Rattle.signature_model.specs.Spots.{Spot, paths}
use Rattle.signature_model.specs.Parts.{is_typed}
use Rattle.signature_parts.specs.ListsLeft.{named_doc, named_left}
use Rattle.signature_elements.specs.Standing.{spot_of}
use Rattle.signature_elements.proofs.Laws.{next_spot}
use Rattle.signature_parts.proofs.Adding.{adding_goes_on, adding_ends, adds_tested}
use Rattle.signature_parts.proofs.AnyOrder.{alike_back, adds_alike}
use Rattle.signature_parts.proofs.Spread.{one_each, each_tested}
use Rattle.inner_lines.proofs.typed.add_typed.Goals as goal

pub is_typed-requires : goal.is_typed-requires
is_typed-requires c =
    let next = next_spot named_doc named_left c.args.doc c.loop-reference.reference-iterator c.next.new.self c.in-Some.reference c.loop-reference.invariant.2 c.in-Some.ensures.steps in
    next.there

pub add_where-requires : goal.add_where-requires
add_where-requires c =
    let next = next_spot named_doc named_left c.args.doc c.loop-reference.reference-iterator c.next.new.self c.in-Some.reference c.loop-reference.invariant.2 c.in-Some.ensures.steps in
    record { within = c.loop-reference.invariant.3.within; node = next.there.0 }

pub loop-reference-preserved : goal.loop-reference-preserved
loop-reference-preserved c =
    let next = next_spot named_doc named_left c.args.doc c.loop-reference.reference-iterator c.next.new.self c.in-Some.reference c.loop-reference.invariant.2 c.in-Some.ensures.steps in
    (tt, tt, next.doc_is, adding_goes_on c.args.doc ((λ (spots : List Spot). paths (filter is_typed spots)) (spot_of c.args.doc c.in-Some.reference ∷ [])) _ _ _ _ _ _ (ap (one_each (λ (spots : List Spot). paths (filter is_typed spots))) next.spots) c.loop-reference.invariant.3 (adds_tested is_typed c.args.doc c.in-Some.reference _ _ _ (c.is_typed.ensures) c.add_where.ensures))

pub returns : goal.returns
returns c = adds_alike c.args.doc _ _ _ _ (alike_back _ _ ((each_tested is_typed).same (named_left c.args.references))) (adding_ends c.args.doc _ _ _ _ (ap (one_each (λ (spots : List Spot). paths (filter is_typed spots))) c.in-None.ensures.steps.1.0) c.loop-reference.invariant.3)
