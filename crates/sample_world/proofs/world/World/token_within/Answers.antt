use Rattle.std.proofs.Common.{◌<◌, arith, rules}
use Rattle.std.specs.Prelude.{slice_index}
use Rattle.sample_world.proofs.Counts.{tokens_left}
use Rattle.sample_world.proofs.world.World.token_within.Goals as goal

pub overflow_add-serial : goal.overflow_add-serial
overflow_add-serial c =
    let left : slice_index c.self.inside.used c.args.signer < 32 = search rules in
    let few = tokens_left c.self.inside.used c.self.inside.tokens c.args.signer c.requires.signer left c.self.invariant in
    omega (arith, few)

pub stamp_info-requires-clause-serial : goal.stamp_info-requires-clause-serial
stamp_info-requires-clause-serial c =
    let left : slice_index c.self.inside.used c.args.signer < 32 = search rules in
    let few = tokens_left c.self.inside.used c.self.inside.tokens c.args.signer c.requires.signer left c.self.invariant in
    omega (arith, few)
