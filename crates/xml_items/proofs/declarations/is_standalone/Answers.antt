use Rattle.std.proofs.Common.{◌∙◌, ◌&&◌, ◌∷◌, [], sym, ap, refl}
use Rattle.std.specs.Str.{chars}
use Rattle.document_model.specs.Items.{is_standalone}
use Rattle.xml_items.specs.Pairs.{pair_in}
use Rattle.xml_items.proofs.AsciiTexts.{empty_chars}
use Rattle.xml_items.proofs.Declared.{passes_none, passes_stop, one_pair}
use Rattle.xml_items.proofs.declarations.is_standalone.Goals as goal

pub returns-then-is_empty : goal.returns-then-is_empty
returns-then-is_empty c = sym (passes_none is_standalone 1 (chars c.args.text.now) refl (empty_chars c.args.text.now c.utf8.text ∙ sym c.is_empty.ensures ∙ c.if-is_empty.true))

pub returns-then-is_empty-2 : goal.returns-then-is_empty-2
returns-then-is_empty-2 c =
    c.tells_standalone.ensures
    ∙ ap (λ b. b && is_standalone (pair_in c.in-Some.pair ∷ [])) (sym (empty_chars c.in-Some.rest.now c.in-Some.ensures.utf8 ∙ sym c.is_empty-in-Some.ensures ∙ c.if-is_empty-2.true))
    ∙ one_pair (chars c.args.text.now) (chars c.in-Some.rest.now) (pair_in c.in-Some.pair) (empty_chars c.args.text.now c.utf8.text ∙ sym c.is_empty.ensures ∙ c.if-is_empty.false) c.in-Some.ensures.pair

pub returns-else-is_empty-2 : goal.returns-else-is_empty-2
returns-else-is_empty-2 c =
    c.if-is_empty-2.false
    ∙ ap (λ b. b && is_standalone (pair_in c.in-Some.pair ∷ [])) (sym (empty_chars c.in-Some.rest.now c.in-Some.ensures.utf8 ∙ sym c.is_empty-in-Some.ensures ∙ c.if-is_empty-2.false))
    ∙ one_pair (chars c.args.text.now) (chars c.in-Some.rest.now) (pair_in c.in-Some.pair) (empty_chars c.args.text.now c.utf8.text ∙ sym c.is_empty.ensures ∙ c.if-is_empty.false) c.in-Some.ensures.pair

pub returns-in-None : goal.returns-in-None
returns-in-None c = sym (passes_stop is_standalone 1 (chars c.args.text.now) (empty_chars c.args.text.now c.utf8.text ∙ sym c.is_empty.ensures ∙ c.if-is_empty.false) c.in-None.ensures.pair)
