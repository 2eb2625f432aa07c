use Rattle.cert_paths.specs.Pool.{part_numbers}
use Rattle.std.proofs.Common.{◌<◌, ℕ, length, subst}
use Rattle.signature_reports.specs.Said.{object_said}
use Rattle.signature_reports.proofs.Objects.{objects_more}
use Rattle.signature_reports.proofs.said.object_facts.Goals as goal

pub loop-number-preserved : goal.loop-number-preserved
loop-number-preserved c =
    let inside : c.loop-number.number < length (part_numbers c.args.pool.now) =
    subst (λ (n : ℕ). c.loop-number.number < n) c.parts-number-end.ensures.count c.loop-number-test.true in
    objects_more (object_said c.args.pool.now c.args.times.now) (part_numbers c.args.pool.now) c.loop-number.number c.loop-number.facts.items c.push.new.self.items _ c.object_fact.result
    inside c.in-Ok.ensures.items c.object_fact.ensures c.loop-number.invariant
