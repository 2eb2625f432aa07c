use Rattle.std.proofs.Common.{◌≡◌, length, map, replicate}
use Rattle.acceptance.proofs.Cases.{token_test}
use Rattle.acceptance.specs.Rounds.{rounds}
use Rattle.acceptance.specs.Stamping.{proof_time}
use Rattle.existence_times.specs.Kept.{row_stamp}
use Rattle.existence_times.proofs.rounds.settle.Given as goal

abbrev pub invariant-loop : goal.invariant-loop
invariant-loop l =
    (l.times ≡ rounds (token_test l.links.pool l.links.policy) (proof_time l.links.policy) (map (row_stamp l.tokens) l.stamps) l.counter (replicate (length l.links.pool) l.now))
    × (length l.times ≡ length l.links.pool)
