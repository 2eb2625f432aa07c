use Rattle.std.proofs.Common.{map, sym, subst, arith}
use Rattle.der_values.specs.Distinct.{Has, octets}
use Rattle.der_values.specs.View.{view}
use Rattle.der_values.proofs.DistinctLaws.{outside_more, is_outside, all_outside}
use Rattle.der_values.proofs.distinct.count_outside.Goals as goal

pub returns-in_default : goal.returns-in_default
returns-in_default c = all_outside c.loop-count.count c.args.most _ _ _ c.loop-count.invariant c.in_default.ensures.steps.0

pub returns-then-is_in : goal.returns-then-is_in
returns-then-is_in c = is_outside c.loop-count.count _ _ _ c.loop-count.invariant

pub loop-count-preserved : goal.loop-count-preserved
loop-count-preserved c =
    outside_more c.loop-count.count _ _ _ (map octets c.args.block.now) (view c.in-Some.element) c.loop-count.invariant c.in-Some.ensures.steps
    (λ has. c.is_in.ensures c.if-is_in.false (subst (Has (map octets c.args.block.now)) (sym c.piece.ensures) has))

pub returns : goal.returns
returns c =
    let past = c.loop-count-test.false in
    λ j x lt. is_outside c.loop-count.count _ _ _ c.loop-count.invariant j x (omega arith)
