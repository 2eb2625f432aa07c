use Rattle.std.proofs.Common.{◌∙◌, sym, ap, not}
use Rattle.std.specs.Str.{chars}
use Rattle.document_model.specs.Items.{Pair, when}
use Rattle.xml_items.proofs.AsciiTexts.{empty_chars}
use Rattle.xml_items.proofs.Attributes.{pair_whole, pair_unspaced}
use Rattle.xml_items.proofs.tags.pair_by_characters.Goals as goal

pub returns-then-is_empty-clause-pair : goal.returns-then-is_empty-clause-pair
returns-then-is_empty-clause-pair c =
    pair_unspaced (chars c.args.text.now) (chars c.front.result.0.now) (chars c.front.result.1.now) c.front.ensures.split
    (empty_chars c.front.result.0.now c.front.ensures.front_utf8 ∙ sym c.is_empty.ensures ∙ c.if-is_empty.true)

pub returns-clause-pair : goal.returns-clause-pair
returns-clause-pair c =
    let pair : Pair = record { name = chars c.front-2.result.0.now; text = chars c.front-5.result.0.now } in
    pair_whole (chars c.args.text.now) (chars c.front.result.0.now) (chars c.front.result.1.now) (chars c.front-2.result.0.now) (chars c.front-2.result.1.now) (chars c.front-3.result.0.now) (chars c.front-3.result.1.now)
    (chars c.in_ok-rest.rest.now) (chars c.front-4.result.0.now) (chars c.front-4.result.1.now) (chars c.in_ok-quote.rest.now) (chars c.front-5.result.0.now) (chars c.front-5.result.1.now) (chars c.in_ok-rest-2.rest.now)
    c.in_ok-rest.field-0-0 c.in_ok-quote.quote c.in_ok-rest-2.field-0-0
    c.front.ensures.split c.front-2.ensures.split c.front-3.ensures.split c.in_ok-rest.ensures.found c.front-4.ensures.split c.in_ok-quote.ensures.found c.front-5.ensures.split c.in_ok-rest-2.ensures.found
    ∙ ap (λ b. when (not b) (pair, chars c.in_ok-rest-2.rest.now)) (empty_chars c.front.result.0.now c.front.ensures.front_utf8 ∙ sym c.is_empty.ensures ∙ c.if-is_empty.false)
