-- The path of a made signature leads to the root.
use Rattle.std.proofs.Common.{◌≡◌, ℕ, zero, suc, ◌+◌, ◌-◌, ◌*◌, ◌/◌, ◌%◌, ◌^◌, ◌<◌, ◌≤◌, List, length, refl, ap, ◌∙◌, inl, inr, arith, lit≤}
use Rattle.std.proofs.lemmas.Nat.{pow_below, pow_pos}
use Rattle.std.proofs.lemmas.Bool.{cases_lt}
use Rattle.std.proofs.Math.Nat.{pow-suc, div-div-eq-div-mul, le-div_iff_mul-le}
use Rattle.sha2.proofs.Facts256.{length-sha256}
use Rattle.lms_verify.specs.LmOts.{value_at}
use Rattle.lms_verify.specs.Lms.{leaf, inner, parent, node_over}
use Rattle.sample_world.specs.Joined.{joined, sibling}
use Rattle.sample_world.specs.LmsKeys.{one_time_key, node, path}
use Rattle.sample_world.proofs.Rows.{value_at-joined}

pub length-node : (seed id : List ℕ) (r n : ℕ) → length (node seed id r n) ≡ 32
unfolding node leaf inner
length-node seed id r zero = length-sha256 _
length-node seed id r (suc n) = length-sha256 _

parent_is : (seed id : List ℕ) (x n : ℕ) → 0 < x → parent id x (node seed id x n) (node seed id (sibling x) n) ≡ node seed id (x / 2) (suc n)
unfolding parent node
parent_is seed id x n some =
    elim (cases_lt (x % 2) 1) [
      | inl low ↦
          let even : x % 2 ≡ 0 = omega arith in
          let left : 2 * (x / 2) ≡ x = omega arith in
          rw (even, left) refl
      | inr high ↦
          let odd : x % 2 ≡ 1 = omega arith in
          let left : 2 * (x / 2) ≡ x - 1 = omega arith in
          let right : x - 1 + 1 ≡ x = omega arith in
          rw (odd, left, right) refl
    ]

halved : (a n : ℕ) → a / 2 ^ n / 2 ≡ a / 2 ^ suc n
halved a n = rw (pow-suc) (div-div-eq-div-mul a (2 ^ n) 2)

leaf_is : (seed id : List ℕ) (r : ℕ) → leaf id r (one_time_key seed id (r - 32)) ≡ node seed id (r / 2 ^ 0) 0
unfolding node
leaf_is seed id r = let whole : r / 2 ^ 0 ≡ r = omega arith in rw whole refl

path_is : (seed id : List ℕ) (r : ℕ) → path seed id r ≡ joined (λ k. node seed id (sibling (r / 2 ^ k)) k) 5
unfolding path
path_is seed id r = refl

-- n heights up from leaf r, as long as the node is above 0
climb : (seed id : List ℕ) (r : ℕ) (n : ℕ) → n ≤ 5 → ((k : ℕ) → k < 5 → 0 < r / 2 ^ k)
    → node_over id r (path seed id r) (leaf id r (one_time_key seed id (r - 32))) n ≡ node seed id (r / 2 ^ n) n
unfolding node_over
climb seed id r zero within above = leaf_is seed id r
climb seed id r (suc n) within above =
    let value = climb seed id r n (omega arith) above in
    let beside = value_at-joined (λ k. node seed id (sibling (r / 2 ^ k)) k) 5 n (λ k. length-node seed id (sibling (r / 2 ^ k)) k) (omega arith) in
    let beside' : value_at (path seed id r) n ≡ node seed id (sibling (r / 2 ^ n)) n = rw path_is beside in
    rw (value, beside') (parent_is seed id (r / 2 ^ n) n (above n (omega arith)) ∙ ap (λ z. node seed id z (suc n)) (halved r n))

pub climbs : (seed id : List ℕ) (q : ℕ) → q < 32
    → node_over id (32 + q) (path seed id (32 + q)) (leaf id (32 + q) (one_time_key seed id q)) 5 ≡ node seed id 1 5
climbs seed id q h =
    let own : 32 + q - 32 ≡ q = omega arith in
    let top : (32 + q) / 2 ^ 5 ≡ 1 = omega arith in
    rw (own, top) at (climb seed id (32 + q) 5 (lit≤ tt) (λ k below. let small = pow_below k 5 below in (le-div_iff_mul-le (pow_pos k)).1 (omega arith)))
