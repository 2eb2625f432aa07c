use Rattle.std.proofs.Common.{◌∙◌, sym, ap, ℕ, List, length, Some}
use Rattle.std.specs.Str.{chars}
use Rattle.xml_items.specs.Classes.{passes}
use Rattle.xml_items.proofs.FirstCharacters.{behind_one_found, behind_one_other, behind_one_end}
use Rattle.xml_items.proofs.classes.behind_one.Goals as goal
use Rattle.xml_items.proofs.classes.behind_one.Goals.{in_default-via-in-Some+else-has, in_default-via-in_default}

pub returns-in-Some-clause-found : goal.returns-in-Some-clause-found
returns-in-Some-clause-found c =
    behind_one_found (passes c.args.class) c.args.text.now _ c.in-Some.c c.utf8.text (sym c.chars-rest.ensures.rest ∙ c.in-Some.ensures.steps.0) (sym c.if-has.ensures)
    ∙ ap (λ (x : List ℕ). Some (c.in-Some.c, chars x)) (sym c.as_str.ensures)

pub returns-in_default-clause-found : goal.returns-in_default-clause-found
returns-in_default-clause-found c = elim c.in_default.branch [
  | in_default-via-in-Some+else-has w ↦ behind_one_other (passes c.args.class) c.args.text.now _ w.in-Some.c c.utf8.text (sym c.chars-rest.ensures.rest ∙ w.in-Some.ensures.steps.0) (sym w.if-has.ensures)
  | in_default-via-in_default w ↦ behind_one_end (passes c.args.class) c.args.text.now (ap length (sym c.chars-rest.ensures.rest) ∙ w.in_default.ensures.steps.0.0)
]
