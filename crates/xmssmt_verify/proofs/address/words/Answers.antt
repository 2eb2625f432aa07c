use Rattle.std.proofs.Common.{refl}
use Rattle.std.specs.Prelude.{replicate}
use Rattle.xmss_definitions.specs.Address.{word}
use Rattle.xmss_definitions.proofs.Parts.{four_parts}
use Rattle.xmssmt_verify.proofs.address.words.Goals as goal

pub returns : goal.returns
returns c =
    let a = rw c.to_be_bytes.ensures at c.put.ensures in
    let b = rw c.to_be_bytes-2.ensures at c.put-2.ensures in
    let d = rw c.to_be_bytes-3.ensures at c.put-3.ensures in
    let e = rw c.to_be_bytes-4.ensures at c.put-4.ensures in
    four_parts (word c.args.kind) (word c.args.first) (word c.args.second) (word c.args.third)
    (replicate 16 0) c.put.new.octets c.put-2.new.octets c.put-3.new.octets c.put-4.new.octets 4 8 12 refl refl refl refl a b d e
