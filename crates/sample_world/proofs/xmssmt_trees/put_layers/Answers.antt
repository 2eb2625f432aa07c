use Rattle.std.proofs.Common.{◌≡◌, ◌+◌, ◌/◌, suc, append_assoc, refl, sym, ◌∙◌, ap, arith}
use Rattle.std.proofs.lemmas.List.{append-nil}
use Rattle.xmssmt_verify.specs.XmssMt.{above}
use Rattle.xmssmt_verify.proofs.Shape.{above_none, above_more}
use Rattle.sample_world.specs.MtTrees.{MadeTree}
use Rattle.sample_world.proofs.Trees.{joined_none, joined_more}
use Rattle.sample_world.proofs.XmssMtHolds.{signed_none, signed_next}
use Rattle.sample_world.proofs.xmssmt_trees.put_layers.Goals as goal

pub layers-init : goal.layers-init
layers-init c = (sym (above_none 5 c.args.idx), sym (signed_none _ _ _ _), rw (joined_none, append-nil) refl)

pub layers-preserved : goal.layers-preserved
layers-preserved c =
    let j = c.layers.layer in
    let inv = c.layers.invariant in
    let rest : c.layers.rest / 32 ≡ above 5 c.args.idx (j + 1) = rw inv.0 (sym (above_more 5 c.args.idx j)) in
    let one : j + 1 ≡ suc j = omega arith in
    let over : MadeTree = record { secret = c.args.secret.now; layer = j; number = above 5 c.args.idx (j + 1) } in
    let is_over : c.in-Ok.tree ≡ over = rw (c.from.ensures, rest) at c.in-Ok.ensures in
    let signed = rw is_over at c.node-signed.ensures in
    let written = rw (is_over, inv.0, inv.1, one) at c.in_ok-put_layer.ensures in (
      rest,
      signed ∙ sym (signed_next _ _ c.args.idx c.args.digest.now j),
      rw (joined_more, ← append_assoc, ← inv.2) written,
    )
