use Rattle.std.proofs.Common.{◌≡◌, ◌*◌, ◌+◌, ◌-◌, ◌/◌, length, sym, refl, ◌∙◌, arith}
use Rattle.std.proofs.Math.ListN.{length-set}
use Rattle.xmss_definitions.proofs.Paths.{pair_step, pair_end_even, pair_end_odd}
use Rattle.xmss_verify.proofs.tree.pair_up.Goals as goal
use Rattle.xmss_verify.proofs.tree.pair_up.Goals.{then-count-eq1, else-count-eq1}

pub pairs-preserved : goal.pairs-preserved
pairs-preserved c = (
  simp length-set c.pairs.invariant.0,
  pair_step _ _ _ _ c.pairs.nodes _ (omega arith) c.pair-node.ensures ∙ c.pairs.invariant.1,
)

pub returns-clause-value : goal.returns-clause-value
returns-clause-value c =
    let i = c.pairs.i in
    let inv = c.pairs.invariant in
    let at : length c.args.nodes.now / 2 ≡ i = omega arith in
    let ceil = c.div_ceil.ensures in
    elim c.if-count-eq1.branch [
      | then-count-eq1 w ↦
          let last : length c.args.nodes.now - 1 ≡ 2 * i = omega arith in
          let left : c.div_ceil.result ≡ i + 1 = omega arith in
          let is = rw (at, last) at w.nodes-is in
          rw (left, is) (sym (pair_end_odd c.args.prf.now c.args.leaf c.args.height i c.pairs.nodes _ (omega arith) refl) ∙ inv.1)
      | else-count-eq1 w ↦
          let left : c.div_ceil.result ≡ i = omega arith in
          rw (left, w.nodes-is) (sym (pair_end_even c.args.prf.now c.args.leaf c.args.height i c.pairs.nodes (omega arith)) ∙ inv.1)
    ]
