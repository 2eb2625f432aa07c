use Rattle.std.proofs.Common.{◌≡◌, ◌≤◌, drop, length, map, IsFalse}
use Rattle.acceptance.proofs.Cases.{token_test}
use Rattle.acceptance.specs.Rounds.{round as round_of}
use Rattle.acceptance.specs.Stamping.{proof_time}
use Rattle.existence_times.specs.Kept.{row_stamp}
use Rattle.existence_times.proofs.rounds.judge_all.Given as goal

abbrev pub invariant-loop-left : goal.invariant-loop-left
invariant-loop-left l =
    (l.left ≤ length l.stamps)
    × (l.times ≡ round_of (token_test l.links.pool l.links.policy) (proof_time l.links.policy) (map (row_stamp l.tokens) (drop l.left l.stamps)) l.initial.times)
    × (IsFalse l.changed → l.times ≡ l.initial.times)
    × (length l.times ≡ length l.initial.times)

abbrev pub decreases-loop-left : goal.decreases-loop-left
decreases-loop-left l = l.left
