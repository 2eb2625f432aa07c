use Rattle.std.proofs.Common.{refl, ap, ◌+◌}
use Rattle.std.specs.Prelude.{replicate}
use Rattle.std.specs.Int.{w64, to_be_bytes}
use Rattle.xmss_definitions.specs.Address.{word, place_octets}
use Rattle.xmss_verify.specs.Places.{place_of}
use Rattle.xmss_definitions.proofs.Parts.{four_parts, length-place}
use Rattle.xmss_verify.proofs.address.Address.octets.Goals as goal

pub returns : goal.returns
returns c =
    let a = rw c.to_be_bytes.ensures at c.put.ensures in
    let b = rw c.to_be_bytes-2.ensures at c.put-2.ensures in
    let d = rw c.octets.ensures at c.put-3.ensures in
    let e = rw c.to_be_bytes-3.ensures at c.put-4.ensures in
    four_parts (word c.args.self.layer) (to_be_bytes w64 c.args.self.tree) (place_octets (place_of c.args.self.place)) (word c.args.mask)
    (replicate 32 0) c.put.new.octets c.put-2.new.octets c.put-3.new.octets c.put-4.new.octets 4 12 28 refl refl (ap (λ n. 12 + n) (length-place (place_of c.args.self.place))) refl a b d e
