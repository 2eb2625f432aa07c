use Rattle.std.proofs.Common.{arith}
use Rattle.algorithms.proofs.digests.same_bytes.Goals as goal

pub returns-clause-bytes : goal.returns-clause-bytes
returns-clause-bytes c = λ i. let f = c.type_inv.bytes i in omega arith
