use Rattle.std.proofs.Common.{◌∙◌, sym, ap, ℕ, Bool}
use Rattle.std.specs.List.{list_all}
use Rattle.std.specs.Str.{chars}
use Rattle.xml_items.proofs.AsciiTexts.{empty_chars}
use Rattle.xml_items.proofs.Numbers.{numbered_empty, numbered_other, numbered_above, numbered_some}
use Rattle.xml_items.proofs.references.numbered.Goals as goal
use Rattle.xml_items.proofs.references.numbered.Goals.{then-is_empty-via-then-is_empty, then-is_empty-via-else-is_empty+then-not-all, then-is_empty-via-else-is_empty+else-not-all+then-not-is_char}

pub returns-then-is_empty : goal.returns-then-is_empty
returns-then-is_empty c rs same = elim c.then-is_empty.branch [
  | then-is_empty-via-then-is_empty w ↦ numbered_empty c.args.base rs (chars c.args.text.now) (empty_chars c.args.text.now c.utf8.text ∙ sym c.is_empty.ensures ∙ w.if-is_empty.true)
  | then-is_empty-via-else-is_empty+then-not-all w ↦ numbered_other c.args.base rs (chars c.args.text.now) (ap (λ (p : ℕ → Bool). list_all p (chars c.args.text.now)) (sym same) ∙ sym w.all.ensures ∙ w.if-not-all.true)
  | then-is_empty-via-else-is_empty+else-not-all+then-not-is_char w ↦ numbered_above c.args.base c.number-n.result rs (chars c.args.text.now) c.number-n.ensures (sym w.is_char.ensures ∙ w.if-not-is_char.true)
]

pub returns : goal.returns
returns c rs same =
    numbered_some c.args.base c.number-n.result rs (chars c.args.text.now) c.number-n.ensures
    (empty_chars c.args.text.now c.utf8.text ∙ sym c.is_empty.ensures ∙ c.if-is_empty.false)
    (ap (λ (p : ℕ → Bool). list_all p (chars c.args.text.now)) (sym same) ∙ sym c.all.ensures ∙ c.if-not-all.false)
    (sym c.is_char.ensures ∙ c.if-not-is_char.false)
