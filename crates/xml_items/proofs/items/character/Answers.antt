use Rattle.std.proofs.Common.{◌∙◌, ◌∷◌, codes, sym, ap}
use Rattle.std.specs.Str.{chars, bytes_eq}
use Rattle.std.proofs.lemmas.Bool.{eqb-true}
use Rattle.document_model.specs.Items.{character_of}
use Rattle.xml_items.proofs.AsciiTexts.{chars_empty, empty_chars}
use Rattle.xml_items.proofs.ItemTexts.{character_more}
use Rattle.xml_items.proofs.items.character.Goals as goal

pub returns-then-is_empty : goal.returns-then-is_empty
returns-then-is_empty c =
    ap character_of (c.in-Some.ensures.chars ∙ ap (λ cs. c.in-Some.c ∷ cs) (chars_empty c.in-Some.rest.now (eqb-true _ 0 (sym c.is_empty.ensures ∙ c.if-is_empty.true)))) ∙ c.alone.ensures

pub returns-else-is : goal.returns-else-is
returns-else-is c =
    ap character_of c.in-Some.ensures.chars
    ∙ character_more c.in-Some.c (chars c.in-Some.rest.now) (empty_chars c.in-Some.rest.now c.in-Some.ensures.utf8 ∙ sym c.is_empty.ensures ∙ c.if-is_empty.false)
    (ap (λ cs. bytes_eq cs (codes "\r\n")) (sym c.in-Some.ensures.chars) ∙ sym c.if-is.ensures)

pub returns-in-None : goal.returns-in-None
returns-in-None c = ap character_of (chars_empty c.args.text.now c.in-None.ensures.chars)
