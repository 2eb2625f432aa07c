use Rattle.std.proofs.Common.{◌≡◌, ℕ, ◌+◌, ◌-◌, ◌/◌, sym, arith}
use Rattle.xmssmt_verify.specs.XmssMt.{above}
use Rattle.xmssmt_verify.proofs.Shape.{above_more, root_over_more}
use Rattle.xmssmt_verify.proofs.xmssmt.root_over.Goals as goal

width : (at size : ℕ) → at + size - at ≡ size
width at size = omega arith

pub layers-preserved : goal.layers-preserved
layers-preserved c =
    let rest : c.layers.rest / c.leaves-rest.result ≡ above c.args.height c.args.idx (c.layers.layer + 1) =
    rw (c.layers.invariant.0, c.leaves-rest.ensures) (sym (above_more _ _ c.layers.layer)) in
    let root = rw (width, c.in_tree.ensures, c.new-prf.ensures, c.leaves.ensures) at c.layer_root-value.ensures in
    (rest, rw (root_over_more, ← c.layers.invariant.1, ← rest, ← c.layers.invariant.0) root)
