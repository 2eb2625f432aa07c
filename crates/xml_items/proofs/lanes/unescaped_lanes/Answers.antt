use Rattle.std.proofs.Common.{ℕ, refl, arith}
use Rattle.std.proofs.lemmas.Simd.{zip2_splat, length-chunk}
use lib.Lanes.{chunk}
use Rattle.xml_items.specs.Runs.{is_unescaped}
use Rattle.httparse.proofs.LaneLemmas.{joined, run_in}
use Rattle.xml_items.proofs.lanes.unescaped_lanes.Goals as goal

pub returns : goal.returns
returns c =
    let v = chunk c.args.at 16 c.args.bytes.now in
    let long = length-chunk c.args.at 16 c.args.bytes.now c.requires in
    run_in is_unescaped c.args.bytes.now c.args.at 16 _ _ c.requires (omega arith) c.type_inv.bytes c.first_set.ensures _
    (joined _ _ _ v (joined _ _ _ v (joined _ _ _ v (zip2_splat {Y = ℕ} _ v 16 60 long) (zip2_splat {Y = ℕ} _ v 16 38 long)) (zip2_splat {Y = ℕ} _ v 16 62 long)) (zip2_splat {Y = ℕ} _ v 16 13 long)) refl
