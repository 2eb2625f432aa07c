use Rattle.std.specs.Str.{chars}
use Rattle.xml_items.proofs.AsciiTexts.{chars_empty}
use Rattle.xml_items.proofs.ValueSteps.{reference_found, reference_ends, reference_refers}
use Rattle.xml_items.proofs.value_texts.behind_reference.Goals as goal

pub returns-in_err-rest-clause-some : goal.returns-in_err-rest-clause-some
returns-in_err-rest-clause-some c =
    absurd (reference_ends (chars c.args.behind.now) (chars c.front.result.0.now) (chars c.front.result.1.now) c.requires c.front.ensures.split
    (chars_empty c.front.result.1.now c.in_err-rest.ensures.chars))

pub returns-in_err-c-clause-some : goal.returns-in_err-c-clause-some
returns-in_err-c-clause-some c =
    absurd (reference_refers (chars c.args.behind.now) (chars c.front.result.0.now) (chars c.front.result.1.now) c.requires c.front.ensures.split c.in_err-c.ensures)

pub returns-clause-first : goal.returns-clause-first
returns-clause-first c =
    reference_found (chars c.args.behind.now) (chars c.front.result.0.now) (chars c.front.result.1.now) c.in_ok-rest.field-0-0 c.in_ok-c.c (chars c.in_ok-rest.rest.now)
    c.requires c.front.ensures.split c.in_ok-rest.ensures.chars c.in_ok-c.ensures
