use Rattle.std.proofs.Common.{length, map, ap, ◌∙◌, arith}
use Rattle.existence_times.specs.Kept.{number_of}
use Rattle.signature_cases.proofs.Below.{below_more, below_within}
use Rattle.signature_cases.proofs.stamps.objects_below.Goals as goal

pub loop-number-preserved : goal.loop-number-preserved
loop-number-preserved c =
    ap (map number_of) c.in-Ok.ensures.items
    ∙ below_more c.loop-number.ids.items c.object.result c.loop-number.number c.object.ensures c.loop-number.invariant

pub returns-clause-within : goal.returns-clause-within
returns-clause-within c =
    below_within (map number_of c.loop-number.ids.items) c.loop-number.number (length c.args.pool.now) (omega (arith, c.requires, c.loop-number-test.false, c.loop-number.auto.number-end))
    c.loop-number.invariant
