use Rattle.std.proofs.Common.{ap, ◌∷◌, []}
use Rattle.std.specs.Prelude.{List}
use Rattle.std.specs.Prelude.{codes}
use Rattle.signature_model.specs.Holding.{without_value}
use Rattle.signature_model.specs.Spots.{Spot, called, called_in}
use Rattle.signature_model.specs.Vocabulary.{xades}
use Rattle.doc_spans.specs.Seen.{document_in}
use Rattle.signature_elements.specs.NamedLeft.{called_doc, called_left}
use Rattle.signature_elements.specs.Standing.{spot_of}
use Rattle.signature_elements.proofs.Laws.{next_spot}
use Rattle.signature_parts.proofs.Adding.{adding_goes_on, adding_ends}
use Rattle.signature_parts.proofs.AnyOrder.{alike_back, adds_alike}
use Rattle.signature_parts.proofs.Spread.{one_each, each_of, spread_flat}
use Rattle.inner_lines.proofs.LineEach.{each_alone}
use Rattle.inner_lines.proofs.values.add_revocation_lists.Goals as goal

pub add_list-requires : goal.add_list-requires
add_list-requires c =
    let next = next_spot called_doc called_left c.args.doc c.loop-list.list-iterator c.next.new.self c.in-Some.list c.loop-list.invariant.2 c.in-Some.ensures.steps in
    record { within = c.loop-list.invariant.3.within; there = next.there }

pub loop-list-preserved : goal.loop-list-preserved
loop-list-preserved c =
    let next = next_spot called_doc called_left c.args.doc c.loop-list.list-iterator c.next.new.self c.in-Some.list c.loop-list.invariant.2 c.in-Some.ensures.steps in
    (tt, tt, next.doc_is, adding_goes_on c.args.doc ((λ (spots : List Spot). without_value (document_in c.args.doc) (called_in (document_in c.args.doc) (xades (codes "EncapsulatedCRLValue")) spots)) (spot_of c.args.doc c.in-Some.list ∷ [])) _ _ _ _ _ _ (ap (one_each (λ (spots : List Spot). without_value (document_in c.args.doc) (called_in (document_in c.args.doc) (xades (codes "EncapsulatedCRLValue")) spots))) next.spots) c.loop-list.invariant.3 c.add_list.ensures)

pub returns : goal.returns
returns c = adds_alike c.args.doc _ _ _ _ (alike_back _ _ ((each_of (without_value (document_in c.args.doc)) (called_in (document_in c.args.doc) (xades (codes "EncapsulatedCRLValue"))) (each_alone (document_in c.args.doc)) (spread_flat (called (document_in c.args.doc) (xades (codes "EncapsulatedCRLValue"))))).same (called (document_in c.args.doc) (xades (codes "CRLValues")) (spot_of c.args.doc c.args.holder)))) (adding_ends c.args.doc _ _ _ _ (ap (one_each (λ (spots : List Spot). without_value (document_in c.args.doc) (called_in (document_in c.args.doc) (xades (codes "EncapsulatedCRLValue")) spots))) c.in-None.ensures.steps.1.0) c.loop-list.invariant.3)
