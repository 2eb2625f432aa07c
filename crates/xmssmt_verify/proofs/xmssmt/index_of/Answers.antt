use Rattle.std.proofs.Common.{◌≡◌, ◌+◌, ◌-◌, ◌/◌, ◌++◌, take, ap, ◌∙◌, arith}
use Rattle.std.specs.Prelude.{replicate}
use Rattle.std.specs.Int.{from_be_bytes, w64}
use Rattle.xmssmt_verify.specs.XmssMt.{index_of}
use Rattle.xmssmt_verify.proofs.Shape.{padded}
use Rattle.xmssmt_verify.proofs.xmssmt.index_of.Goals as goal

pub returns : goal.returns
unfolding index_of
returns g c =
    let s = c.args.signature.now in
    let size : c.div_ceil-size.result ≡ (g.row.H + 7) / 8 = omega arith in
    let written = rw c.copy_from_slice.ensures.after at c.from_be_bytes.ensures in
    let octets = padded (8 - c.div_ceil-size.result) (take c.div_ceil-size.result s) (omega arith) in
    written ∙ ap (from_be_bytes w64) (octets ∙ ap (λ n. replicate (8 - n) 0 ++ take n s) size)
