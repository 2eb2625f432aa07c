use Rattle.std.proofs.Common.{ℕ, ◌<◌, length, arith}
use Rattle.std.proofs.lemmas.List.Elements.{All-from_get_or}
use Rattle.sample_cases.proofs.stamps.objects_of.Goals as goal

pub returns-clause-within : goal.returns-clause-within
returns-clause-within c =
    All-from_get_or (λ (y : ℕ). y < length c.args.pool.now) c.args.numbers.now 0 (λ k lt. c.loop-number.invariant.1 k (omega (arith, c.loop-number-test.false, lt)))
