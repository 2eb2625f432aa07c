use Rattle.std.proofs.Common.{◌≡◌, replicate}
use Rattle.acceptance.specs.Certificates.{other}
use Rattle.existence_times.proofs.case.pool_of.Given as goal

abbrev pub invariant-loop : goal.invariant-loop
invariant-loop l = l.pool ≡ replicate l.counter other
