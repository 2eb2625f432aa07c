use Rattle.std.proofs.Common.{ap, sym, ◌∙◌, ◌&&◌, not}
use Rattle.std.specs.List.{list_any}
use Rattle.doc_spans.specs.Seen.{document_in}
use Rattle.signature_elements.specs.Names.{expanded}
use Rattle.signature_elements.specs.Standing.{spot_of}
use Rattle.signature_model.specs.Spots.{is_called, elements_in}
use Rattle.signature_parts.proofs.Named.{any_called, none_by}
use Rattle.signature_parts.proofs.slots.is_lacking.Goals as goal

pub returns-then-slot : goal.returns-then-slot
returns-then-slot c =
    let name = expanded c.args.slot.name in
    let holder = spot_of c.args.doc c.args.holder in
    none_by _ _ c.is_none.ensures
    ∙ ap not (any_called c.args.doc name holder c.first_called.result c.first_called.ensures.spot)
    ∙ ap (λ b. b && not (list_any (is_called name) (elements_in (document_in c.args.doc) holder))) (sym c.if-slot.true)
