use Rattle.std.proofs.Common.{◌≡◌, ◌<◌, rules}
use Rattle.sample_world.specs.World.{xmss_signature_of}
use Rattle.sample_world.proofs.WorldLaws.{xmss_signature_good, xmss_signature_number}
use Rattle.sample_world.proofs.world.World.xmss_sign.Goals as goal

pub returns-clause-good : goal.returns-clause-good
returns-clause-good c =
    let left : c.args.self.now.xmss_used < 1024 = search rules in
    let value : c.put_signature.new.out ≡ xmss_signature_of c.args.self.now c.args.message.now = search rules in
    xmss_signature_good c.args.self.now c.args.message.now c.put_signature.new.out value left

pub returns-clause-number : goal.returns-clause-number
returns-clause-number c =
    let left : c.args.self.now.xmss_used < 1024 = search rules in
    let value : c.put_signature.new.out ≡ xmss_signature_of c.args.self.now c.args.message.now = search rules in
    xmss_signature_number c.args.self.now c.args.message.now c.put_signature.new.out value left
