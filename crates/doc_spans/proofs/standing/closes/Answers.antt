use Rattle.std.proofs.Common.{◌≡◌, ◌∙◌, ◌-◌, [], sym, ap, length, Some}
use Rattle.std.specs.Str.{chars}
use Rattle.std.specs.Prelude.{slice_get}
use Rattle.document_model.specs.Documents.{closes}
use Rattle.xml_items.specs.Found.{name_in}
use Rattle.doc_spans.proofs.Tags.{tags_last}
use Rattle.doc_spans.proofs.standing.closes.Goals as goal

pub returns-in-Some : goal.returns-in-Some
returns-in-Some c =
    let tags = c.args.elements.now.tags.items in
    let last : slice_get tags (length tags - 1) ≡ Some c.in-Some.opened.now =
    ap (λ l. slice_get l (length l - 1)) (sym c.deref.ensures.value) ∙ sym c.in-Some.ensures.value in
    c.same_name.ensures ∙ sym (ap (closes (name_in (chars c.args.name.now))) (tags_last [] tags c.in-Some.opened.now last).is)
