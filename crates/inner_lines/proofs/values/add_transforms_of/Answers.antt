use Rattle.std.proofs.Common.{ap, sym, codes, ◌∷◌, []}
use Rattle.std.proofs.lemmas.List.{append-nil}
use Rattle.std.specs.Prelude.{filter}
use Rattle.signature_model.specs.Holding.{with_stray_text}
use Rattle.signature_model.specs.Vocabulary.{ds}
use Rattle.signature_model.specs.Spots.{is_called}
use Rattle.inner_lines.specs.LineParts.{transforms_faults}
use Rattle.signature_model.specs.Parts.{transform_lists, transforms}
use Rattle.doc_spans.specs.Seen.{document_in}
use Rattle.signature_elements.specs.NamedLeft.{called_doc, called_left}
use Rattle.signature_elements.specs.Standing.{spot_of}
use Rattle.signature_elements.proofs.Laws.{next_spot}
use Rattle.signature_parts.proofs.Adding.{adds_as, adding_goes_on, adding_ends}
use Rattle.signature_parts.proofs.AnyOrder.{alike_back, adds_alike}
use Rattle.signature_parts.proofs.Spread.{one_each}
use Rattle.inner_lines.proofs.LineEach.{each_transforms}
use Rattle.inner_lines.proofs.values.add_transforms_of.Goals as goal

pub add_transforms_in-requires : goal.add_transforms_in-requires
add_transforms_in-requires c =
    let next = next_spot called_doc called_left c.args.doc c.loop-list.list-iterator c.next.new.self c.in-Some.list c.loop-list.invariant.2 c.in-Some.ensures.steps in
    record { within = c.loop-list.invariant.3.within; there = next.there }

pub loop-list-preserved : goal.loop-list-preserved
loop-list-preserved c =
    let next = next_spot called_doc called_left c.args.doc c.loop-list.list-iterator c.next.new.self c.in-Some.list c.loop-list.invariant.2 c.in-Some.ensures.steps in
    (tt, tt, next.doc_is, adding_goes_on c.args.doc ((transforms_faults (document_in c.args.doc)) (spot_of c.args.doc c.in-Some.list ∷ [])) _ _ _ _ _ _ (ap (one_each (transforms_faults (document_in c.args.doc))) next.spots) c.loop-list.invariant.3 c.add_transforms_in.ensures)

pub returns : goal.returns
returns c = adds_as c.args.doc _ _ _ _ (ap (λ spots. with_stray_text (document_in c.args.doc) (filter (is_called (ds (codes "Transform"))) spots)) (sym (append-nil (transforms (document_in c.args.doc) (spot_of c.args.doc c.args.reference)))))
    (adds_alike c.args.doc _ _ _ _ (alike_back _ _ ((each_transforms (document_in c.args.doc)).same (transform_lists (document_in c.args.doc) (spot_of c.args.doc c.args.reference)))) (adding_ends c.args.doc _ _ _ _ (ap (one_each (transforms_faults (document_in c.args.doc))) c.in-None.ensures.steps.1.0) c.loop-list.invariant.3))
