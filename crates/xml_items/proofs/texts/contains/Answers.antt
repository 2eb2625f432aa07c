use Rattle.std.proofs.Common.{◌∙◌, sym, ap, length}
use Rattle.std.specs.Str.{chars}
use Rattle.document_model.specs.Characters.{contains}
use Rattle.xml_items.proofs.AsciiTexts.{contains_starts, contains_further, contains_nowhere, chars_start}
use Rattle.xml_items.proofs.texts.contains.Goals as goal

pub loop-rest-preserved : goal.loop-rest-preserved
loop-rest-preserved c = (
  c.as_str-rest.utf8,
  c.loop-rest.invariant.1
      ∙ contains_further c.args.part.now c.loop-rest.rest.now _ c.in-Some.field-0 c.requires.ascii c.loop-rest.invariant.0 (sym c.chars-next.ensures.rest ∙ c.in-Some.ensures.steps.0) (sym c.loop-rest-test.ensures)
      ∙ ap (λ x. contains (chars x) c.args.part.now) (sym c.as_str-rest.ensures),
)

pub returns-in-None : goal.returns-in-None
returns-in-None c = sym
    (c.loop-rest.invariant.1
    ∙ contains_nowhere c.args.part.now c.loop-rest.rest.now c.requires.some (ap length (sym c.chars-next.ensures.rest) ∙ c.in-None.ensures.steps.0.0))

pub returns : goal.returns
returns c = sym
    (c.loop-rest.invariant.1
    ∙ contains_starts (chars c.loop-rest.rest.now) c.args.part.now
    (chars_start c.args.part.now c.loop-rest.rest.now c.requires.ascii c.loop-rest.invariant.0 ∙ sym c.loop-rest-test.ensures))
