use Rattle.std.proofs.Common.{List, not, ap, sym, ◌∙◌}
use Rattle.document_model.specs.Characters.{is_empty}
use Rattle.doc_spans.specs.Seen.{document_in}
use Rattle.signature_model.specs.Spots.{Spot}
use Rattle.signature_model.specs.Shape.{wants_format}
use Rattle.signature_elements.specs.Standing.{spot_of}
use Rattle.signature_elements.proofs.Laws.{next_spot}
use Rattle.signature_parts.specs.ListsLeft.{named_doc, named_left}
use Rattle.inner_lines.proofs.NoneLeft.{one_passed, one_kept, none_kept}
use Rattle.inner_lines.proofs.data_object.wants_any.Goals as goal

pub wants_format-requires : goal.wants_format-requires
wants_format-requires c =
    let next = next_spot named_doc named_left c.args.doc c.loop-reference.reference-iterator c.next.new.self c.in-Some.reference c.loop-reference.invariant.2 c.in-Some.ensures.steps in
    record { found = c.requires.found; there = next.there }

pub loop-reference-preserved : goal.loop-reference-preserved
loop-reference-preserved c =
    let next = next_spot named_doc named_left c.args.doc c.loop-reference.reference-iterator c.next.new.self c.in-Some.reference c.loop-reference.invariant.2 c.in-Some.ensures.steps in
    let test = sym c.wants_format.ensures ∙ c.if-wants_format.false in
    (tt, tt, next.doc_is, one_passed (wants_format (document_in c.args.doc) (spot_of c.args.doc c.args.objects.now.signature)) _ _ _ _ next.spots test c.loop-reference.invariant.3)

pub returns-then-wants_format : goal.returns-then-wants_format
returns-then-wants_format c =
    let next = next_spot named_doc named_left c.args.doc c.loop-reference.reference-iterator c.next.new.self c.in-Some.reference c.loop-reference.invariant.2 c.in-Some.ensures.steps in
    let test = sym c.wants_format.ensures ∙ c.if-wants_format.true in
    ap (λ (spots : List Spot). not (is_empty spots)) (one_kept (wants_format (document_in c.args.doc) (spot_of c.args.doc c.args.objects.now.signature)) _ _ _ _ next.spots test c.loop-reference.invariant.3)

pub returns : goal.returns
returns c =
    sym (ap (λ (spots : List Spot). not (is_empty spots)) (none_kept (wants_format (document_in c.args.doc) (spot_of c.args.doc c.args.objects.now.signature)) _ _ c.in-None.ensures.steps.1.0 c.loop-reference.invariant.3))
