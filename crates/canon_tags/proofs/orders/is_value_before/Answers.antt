use Rattle.std.proofs.Common.{rules, ◌≡◌, sym, ap, ◌∙◌}
use Rattle.std.specs.Str.{chars}
use Rattle.document_model.specs.Canonical.{is_before}
use Rattle.document_model.proofs.ListOrder.{before_itself}
use Rattle.xml_items.specs.Found.{value_in}
use Rattle.canon_tags.proofs.orders.is_value_before.Goals as goal

-- no text is before itself
pub returns-then-same : goal.returns-then-same
returns-then-same c =
    let same : chars c.args.a.now ≡ chars c.args.b.now = search rules in
    sym (before_itself (value_in (chars c.args.a.now))) ∙ ap (λ t. is_before (value_in (chars c.args.a.now)) (value_in t)) same
