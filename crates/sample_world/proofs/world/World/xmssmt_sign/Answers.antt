use Rattle.std.proofs.Common.{◌≡◌, ◌<◌, rules}
use Rattle.sample_world.specs.World.{xmssmt_signature_of}
use Rattle.sample_world.proofs.WorldLaws.{xmssmt_signature_good, xmssmt_signature_number}
use Rattle.sample_world.proofs.world.World.xmssmt_sign.Goals as goal

pub returns-clause-good : goal.returns-clause-good
returns-clause-good c =
    let left : c.args.self.now.xmssmt_used < 1024 = search rules in
    let value : c.put_mt_signature.new.out ≡ xmssmt_signature_of c.args.self.now c.args.message.now = search rules in
    xmssmt_signature_good c.args.self.now c.args.message.now c.put_mt_signature.new.out value left

pub returns-clause-number : goal.returns-clause-number
returns-clause-number c =
    let left : c.args.self.now.xmssmt_used < 1024 = search rules in
    let value : c.put_mt_signature.new.out ≡ xmssmt_signature_of c.args.self.now c.args.message.now = search rules in
    xmssmt_signature_number c.args.self.now c.args.message.now c.put_mt_signature.new.out value left
