use Rattle.std.proofs.Common.{◌∙◌, sym, ap, true, false, List, ℕ}
use Rattle.std.specs.List.{list_all}
use Rattle.std.specs.Str.{chars}
use Rattle.document_model.specs.Characters.{continues_name}
use Rattle.xml_items.proofs.FirstCharacters.{plain_name_of}
use Rattle.xml_items.proofs.names.is_plain_name.Goals as goal

pub returns-then-has : goal.returns-then-has
returns-then-has c =
    c.all.ensures ∙ ap (λ (x : List ℕ). list_all continues_name (chars x)) c.as_str.ensures
    ∙ plain_name_of c.args.text.now _ c.in-Some.c true c.utf8.text (sym c.chars-rest.ensures.rest ∙ c.in-Some.ensures.steps.0) c.if-has.ensures

pub returns-else-has : goal.returns-else-has
returns-else-has c = plain_name_of c.args.text.now _ c.in-Some.c false c.utf8.text (sym c.chars-rest.ensures.rest ∙ c.in-Some.ensures.steps.0) c.if-has.ensures
