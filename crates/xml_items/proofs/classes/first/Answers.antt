use Rattle.std.proofs.Common.{◌∙◌, ◌∷◌, sym, ap}
use Rattle.std.specs.Str.{chars}
use Rattle.std.proofs.lemmas.Str.{chars_past_char}
use Rattle.xml_items.proofs.classes.first.Goals as goal

pub returns-in-Some-clause-chars : goal.returns-in-Some-clause-chars
returns-in-Some-clause-chars c =
    chars_past_char c.args.text.now _ c.in-Some.c c.utf8.text (sym c.chars-rest.ensures.rest ∙ c.in-Some.ensures.steps.0) ∙ ap (λ x. c.in-Some.c ∷ chars x) (sym c.as_str.ensures)
