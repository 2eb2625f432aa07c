use Rattle.std.proofs.Common.{subst, arith}
use Rattle.cert_paths.specs.Pool.{AreDistinct}
use Rattle.cert_paths.proofs.PoolLaws.{are_distinct, entries_few}
use Rattle.cert_paths.proofs.pool.Pool.parts.Goals as goal

pub returns-clause-few : goal.returns-clause-few
returns-clause-few c =
    let few = entries_few c.self.inside.objects c.self.inside.held.entries c.self.invariant in
    let len = c.len.ensures.len in
    omega arith

pub returns-clause-distinct : goal.returns-clause-distinct
returns-clause-distinct c = subst AreDistinct c.self.view_is (are_distinct c.self.inside.objects c.self.inside.held.entries c.self.invariant)
