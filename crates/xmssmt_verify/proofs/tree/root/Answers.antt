use Rattle.std.proofs.Common.{◌≡◌, ℕ, ◌+◌, ◌-◌, ◌*◌, ◌/◌, ◌^◌, add-one, arith}
use Rattle.std.proofs.Math.Nat.{pow-suc, div-div-eq-div-mul}
use Rattle.xmss_definitions.proofs.Paths.{node_over_more}
use Rattle.xmssmt_verify.proofs.tree.root.Goals as goal

halved : (a n : ℕ) → a / 2 ^ n / 2 ≡ a / 2 ^ (n + 1)
halved a n = rw (add-one, pow-suc) (div-div-eq-div-mul a (2 ^ n) 2)

pub heights-preserved : goal.heights-preserved
heights-preserved c =
    let width : 32 * c.heights.n + 32 - 32 * c.heights.n ≡ 32 = omega arith in (
      rw c.heights.invariant.0 (halved _ c.heights.n),
      rw (node_over_more, ← c.heights.invariant.0, ← c.heights.invariant.1) (rw width at c.parent-value.ensures),
    )
