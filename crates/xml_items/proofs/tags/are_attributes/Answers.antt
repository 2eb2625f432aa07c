use Rattle.std.proofs.Common.{◌∙◌, sym}
use Rattle.std.specs.Str.{chars}
use Rattle.xml_items.proofs.AsciiTexts.{empty_chars}
use Rattle.xml_items.proofs.Attributes.{attributes_too_many, attributes_end, attributes_stop}
use Rattle.xml_items.proofs.tags.are_attributes.Goals as goal

pub returns-then-left-eq0 : goal.returns-then-left-eq0
returns-then-left-eq0 c = sym
    (c.loop-rest.invariant.1
    ∙ attributes_too_many c.loop-rest.left (chars c.loop-rest.rest.now) c.if-left-eq0.true (empty_chars c.loop-rest.rest.now c.loop-rest.invariant.0 ∙ sym c.loop-rest-test.ensures))

pub returns-in-None : goal.returns-in-None
returns-in-None c = sym
    (c.loop-rest.invariant.1
    ∙ attributes_stop c.loop-rest.left (chars c.loop-rest.rest.now) (empty_chars c.loop-rest.rest.now c.loop-rest.invariant.0 ∙ sym c.loop-rest-test.ensures) c.in-None.ensures.pair)

pub returns : goal.returns
returns c = sym
    (c.loop-rest.invariant.1
    ∙ attributes_end c.loop-rest.left (chars c.loop-rest.rest.now) (empty_chars c.loop-rest.rest.now c.loop-rest.invariant.0 ∙ sym c.loop-rest-test.ensures))
