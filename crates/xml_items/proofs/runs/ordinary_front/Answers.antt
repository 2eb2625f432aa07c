use Rattle.std.proofs.Common.{arith}
use Rattle.xml_items.specs.Runs.{is_ordinary}
use Rattle.xml_items.proofs.LongRuns.{many_more, goes_past}
use Rattle.xml_items.proofs.runs.ordinary_front.Goals as goal

pub returns-then-run-lt-LANES-clause-run : goal.returns-then-run-lt-LANES-clause-run
returns-then-run-lt-LANES-clause-run c =
    let more = many_more is_ordinary c.args.bytes.now c.by_lanes.end c.ordinary_lanes-run.result (omega arith) c.ordinary_lanes-run.ensures.0.1 in
    omega (arith, more, c.by_lanes.invariant)

pub by_lanes-preserved : goal.by_lanes-preserved
by_lanes-preserved c =
    let past = goes_past is_ordinary c.args.bytes.now c.by_lanes.end c.ordinary_lanes-run.result (omega arith) c.ordinary_lanes-run.ensures (λ short. omega arith) in
    (omega (arith, c.by_lanes.invariant), omega arith, omega (arith, past, c.by_lanes.invariant))
