use Rattle.std.proofs.Common.{ℕ, refl, arith}
use Rattle.std.proofs.lemmas.Simd.{zip2_splat, length-chunk}
use lib.Lanes.{chunk}
use Rattle.xml_items.specs.Runs.{is_common}
use Rattle.httparse.proofs.LaneLemmas.{joined, run_in}
use Rattle.xml_items.proofs.lanes.common_lanes.Goals as goal

-- each lane is computed from the byte in it alone, and all 256 bytes are tried
pub returns : goal.returns
returns c =
    let v = chunk c.args.at 16 c.args.bytes.now in
    let long = length-chunk c.args.at 16 c.args.bytes.now c.requires in
    run_in is_common c.args.bytes.now c.args.at 16 _ _ c.requires (omega arith) c.type_inv.bytes c.first_set.ensures _
    (joined _ _ _ v
    (joined _ _ _ v
    (joined _ _ _ v
    (joined _ _ _ v (joined _ _ _ v (zip2_splat {Y = ℕ} _ v 16 32 long) (zip2_splat {Y = ℕ} _ v 16 10 long)) (zip2_splat {Y = ℕ} _ v 16 9 long))
    (joined _ _ _ v (joined _ _ _ v (joined _ _ _ v (zip2_splat {Y = ℕ} _ v 16 38 long) (zip2_splat {Y = ℕ} _ v 16 60 long)) (zip2_splat {Y = ℕ} _ v 16 62 long)) (zip2_splat {Y = ℕ} _ v 16 93 long)))
    (zip2_splat {Y = ℕ} _ v 16 127 long))
    (zip2_splat {Y = ℕ} _ v 16 239 long)) refl
