use Rattle.std.proofs.Common.{◌≡◌, ◌<◌, rules}
use Rattle.std.specs.Prelude.{slice_index}
use Rattle.sample_world.specs.World.{signature_of}
use Rattle.sample_world.proofs.WorldLaws.{signature_good, signature_number}
use Rattle.sample_world.proofs.world.World.sign.Goals as goal

pub returns-clause-good : goal.returns-clause-good
returns-clause-good c =
    let left : slice_index c.args.self.now.used c.args.key < 32 = search rules in
    let value : c.in_ok-out.out ≡ signature_of c.args.self.now c.args.key c.args.message.now = search rules in
    signature_good c.args.self.now c.args.key c.args.message.now c.in_ok-out.out value left

pub returns-clause-number : goal.returns-clause-number
returns-clause-number c =
    let left : slice_index c.args.self.now.used c.args.key < 32 = search rules in
    let value : c.in_ok-out.out ≡ signature_of c.args.self.now c.args.key c.args.message.now = search rules in
    signature_number c.args.self.now c.args.key c.args.message.now c.in_ok-out.out value left
