use Rattle.cert_paths.proofs.PoolLaws.{none_held, none_shown}
use Rattle.cert_paths.proofs.pool.Pool.new.Goals as goal

pub invariant_of-result : goal.invariant_of-result
invariant_of-result c = none_held c.new.result.entries c.new.ensures.empty

pub returns : goal.returns
returns c = none_shown c.new.result.entries
