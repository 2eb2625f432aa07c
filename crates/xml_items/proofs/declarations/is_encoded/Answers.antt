use Rattle.std.proofs.Common.{◌∙◌, sym, refl}
use Rattle.std.specs.Str.{chars}
use Rattle.document_model.specs.Items.{is_encoded}
use Rattle.xml_items.specs.Pairs.{pair_in}
use Rattle.xml_items.proofs.AsciiTexts.{empty_chars}
use Rattle.xml_items.proofs.Declared.{passes_none, passes_stop, with_encoding, without_encoding}
use Rattle.xml_items.proofs.declarations.is_encoded.Goals as goal

pub returns-then-is_empty : goal.returns-then-is_empty
returns-then-is_empty c = sym (passes_none is_encoded 2 (chars c.args.text.now) refl (empty_chars c.args.text.now c.utf8.text ∙ sym c.is_empty.ensures ∙ c.if-is_empty.true))

pub returns-then-tells_encoding : goal.returns-then-tells_encoding
returns-then-tells_encoding c =
    c.is_standalone.ensures
    ∙ with_encoding (chars c.args.text.now) (chars c.in-Some.rest.now) (pair_in c.in-Some.pair) (empty_chars c.args.text.now c.utf8.text ∙ sym c.is_empty.ensures ∙ c.if-is_empty.false) c.in-Some.ensures.pair
    (sym c.if-tells_encoding.ensures)

pub returns-else-tells_encoding : goal.returns-else-tells_encoding
returns-else-tells_encoding c =
    c.is_standalone-else-tells_encoding.ensures
    ∙ without_encoding (chars c.args.text.now) (chars c.in-Some.rest.now) (pair_in c.in-Some.pair) (empty_chars c.args.text.now c.utf8.text ∙ sym c.is_empty.ensures ∙ c.if-is_empty.false) c.in-Some.ensures.pair
    (sym c.if-tells_encoding.ensures)

pub returns-in-None : goal.returns-in-None
returns-in-None c = sym (passes_stop is_encoded 2 (chars c.args.text.now) (empty_chars c.args.text.now c.utf8.text ∙ sym c.is_empty.ensures ∙ c.if-is_empty.false) c.in-None.ensures.pair)
