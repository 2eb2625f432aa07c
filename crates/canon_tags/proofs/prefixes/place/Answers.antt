use Rattle.std.proofs.Common.{◌∙◌, sym, ap}
use Rattle.std.specs.Str.{chars}
use Rattle.document_model.specs.Canonical.{is_before, is_among}
use Rattle.canon_tags.specs.Texts.{texts_in}
use Rattle.canon_tags.proofs.Ordered.{with_new}
use Rattle.canon_tags.proofs.Sorting.{place_inserted}
use Rattle.canon_tags.proofs.prefixes.place.Goals as goal

pub returns-in_ok-insert : goal.returns-in_ok-insert
returns-in_ok-insert c =
    with_new (chars c.args.prefix.now) (texts_in c.args.found.now.items) (texts_in c.insert.new.self.items)
    (ap (λ xs. is_among (chars c.args.prefix.now) (texts_in xs)) (sym c.as_slice.ensures.value) ∙ sym c.is_there.ensures ∙ c.if-not-is_there.true)
    (place_inserted is_before (λ text. chars text.now) c.args.prefix c.args.found.now.items c.as_slice-then-not-is_there.result.now c.insert.new.self.items c.place_of-at.result
    c.as_slice-then-not-is_there.ensures.value c.place_of-at.ensures.place c.in_ok-insert.ensures.items)
