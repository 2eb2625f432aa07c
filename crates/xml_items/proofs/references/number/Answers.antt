use Rattle.std.proofs.Common.{◌≡◌, ◌∙◌, ◌+◌, ◌*◌, min, sym, ap}
use Rattle.xml_items.proofs.Numbers.{counted_none, counted_more, too_large}
use Rattle.xml_items.proofs.references.number.Goals as goal

pub loop-c-init : goal.loop-c-init
loop-c-init c = (c.utf8.text, counted_none c.args.base c.args.text.now)

pub loop-c-preserved : goal.loop-c-preserved
loop-c-preserved c =
    let more = counted_more c.args.base c.loop-c.n c.args.text.now c.loop-c.rest.now _ c.in-Some.c c.requires.low c.loop-c.invariant.1 c.loop-c.invariant.0
    (sym c.chars-digits.ensures.rest ∙ c.in-Some.ensures.steps.0) in
    let n : min (c.loop-c.n * c.args.base + _) too_large ≡ c.min-n.result = ap (λ d. min (c.loop-c.n * c.args.base + d) too_large) (sym c.digit.ensures.value) ∙ sym c.min-n.ensures in
    (c.as_str-rest.utf8, rw (c.as_str-rest.ensures, ← n) more)
