use Rattle.std.proofs.Common.{refl, ◌∙◌, ap, codes}
use Rattle.doc_spans.specs.Seen.{document_in}
use Rattle.signature_model.specs.Spots.{called_in}
use Rattle.signature_elements.specs.Standing.{spot_or_none}
use Rattle.signature_elements.proofs.Laws.{next_spot}
use Rattle.signature_parts.specs.ListsLeft.{named_doc, named_left}
use Rattle.inner_lines.proofs.FormatLists.{seeing_starts, seeing_goes_on, seeing_ends}
use Rattle.signature_parts.proofs.Named.{xades_name}
use Rattle.inner_lines.proofs.formats.formats_by_target.Goals as goal

pub loop-format-init : goal.loop-format-init
loop-format-init c =
    let spots = c.of-format-items.ensures.spots ∙ ap (λ name. called_in (document_in c.args.doc) name (spot_or_none c.args.doc c.args.holder)) (xades_name _ (codes "DataObjectFormat") refl c.xades.ensures) in
    let same = c.into_iter-format-iterator.ensures.into_iter_gives in
    (tt, tt, ap named_doc same ∙ c.of-format-items.ensures.doc, seeing_starts c.args.doc _ _ c.new-index.result (ap named_left same ∙ spots) c.new-index.ensures)

pub add_target-requires : goal.add_target-requires
add_target-requires c =
    let next = next_spot named_doc named_left c.args.doc c.loop-format.format-iterator c.next.new.self c.in-Some.format c.loop-format.invariant.2 c.in-Some.ensures.steps in
    record { format = next.there; there = c.loop-format.invariant.3.there }

pub loop-format-preserved : goal.loop-format-preserved
loop-format-preserved c =
    let next = next_spot named_doc named_left c.args.doc c.loop-format.format-iterator c.next.new.self c.in-Some.format c.loop-format.invariant.2 c.in-Some.ensures.steps in
    (tt, tt, next.doc_is, seeing_goes_on c.args.doc c.in-Some.format _ _ _ c.loop-format.index c.add_target.new.index next.spots c.loop-format.invariant.3 c.in_ok-add_target.ensures)

pub returns : goal.returns
returns c = seeing_ends c.args.doc _ _ c.loop-format.index c.in-None.ensures.steps.1.0 c.loop-format.invariant.3
