-- How rows and trees grow.
use Rattle.std.proofs.Common.{◌≡◌, ℕ, zero, suc, ◌+◌, ◌-◌, ◌*◌, ◌/◌, ◌%◌, ◌^◌, ◌<◌, ◌≤◌, List, [], ◌∷◌, ◌++◌, length, get_or, inl, inr, refl, ◌∙◌, add-one, add-zero, arith, length-append}
use Rattle.std.proofs.lemmas.Bool.{cases_lt}
use Rattle.std.proofs.lemmas.List.{get_or_append_left, get_or-append-add}
use Rattle.std.proofs.Math.Nat.{pow-suc, pow-succ', div-div-eq-div-mul}
use Rattle.lms_verify.specs.Lms.{leaf, inner}
use Rattle.sample_world.specs.Joined.{joined, listed, sibling}
use Rattle.sample_world.specs.LmsKeys.{one_time_key, leaf_of, node}

pub joined_none : (f : ℕ → List ℕ) → joined f 0 ≡ []
unfolding joined
joined_none f = refl

pub joined_more : (f : ℕ → List ℕ) (n : ℕ) → joined f (n + 1) ≡ joined f n ++ f n
unfolding joined
joined_more f n = rw add-one refl

pub listed_none : (f : ℕ → List ℕ) → listed f 0 ≡ []
unfolding listed
listed_none f = refl

pub listed_more : (f : ℕ → List ℕ) (n : ℕ) → listed f (n + 1) ≡ listed f n ++ f n ∷ []
unfolding listed
listed_more f n = rw add-one refl

pub length-listed : (f : ℕ → List ℕ) (n : ℕ) → length (listed f n) ≡ n
unfolding listed
length-listed f zero = refl
length-listed f (suc n) = rw (length-append, length-listed f n) (omega arith)

-- the i-th of a list
pub get_or-listed : (f : ℕ → List ℕ) (n i : ℕ) (d : List ℕ) → i < n → get_or (listed f n) i d ≡ f i
unfolding listed
get_or-listed f zero i d h = absurd (omega arith)
get_or-listed f (suc n) i d h =
    let long = length-listed f n in
    elim (cases_lt i n) [
      | inl below ↦ get_or_append_left (listed f n) (f n ∷ []) d i (omega arith) ∙ get_or-listed f n i d below
      | inr above ↦
          let same : i ≡ n = omega arith in
          let last : get_or (listed f n ++ f n ∷ []) (length (listed f n) + 0) d ≡ f n = get_or-append-add (listed f n) (f n ∷ []) 0 d in
          rw same (rw (long, add-zero) at last)
    ]

pub node_leaf : (seed id : List ℕ) (r : ℕ) → 32 ≤ r → node seed id r 0 ≡ leaf_of seed id (r - 32)
unfolding node leaf_of
node_leaf seed id r h = let e : 32 + (r - 32) ≡ r = omega arith in rw e refl

pub node_inner : (seed id : List ℕ) (r n : ℕ) → 0 < n → node seed id r n ≡ inner id r (node seed id (2 * r) (n - 1)) (node seed id (2 * r + 1) (n - 1))
unfolding node
node_inner seed id r zero h = absurd (omega arith)
node_inner seed id r (suc n) h = let e : suc n - 1 ≡ n = omega arith in rw e refl

-- 2 ^ n in halves, for the bounds
pub doubled : (n : ℕ) → 0 < n → 2 ^ n ≡ 2 * 2 ^ (n - 1)
doubled zero h = absurd (omega arith)
doubled (suc n) h = let e : suc n - 1 ≡ n = omega arith in rw (e, pow-succ') refl

pub record InTree (b n : ℕ) : Type 0 where
  pub low : 32 ≤ b * 2 ^ n
  pub high : (b + 1) * 2 ^ n ≤ 64

beside_at : (x low : ℕ) → low % 2 ≡ 0 → low ≤ x → x < 2 * low → (low ≤ sibling x) × (sibling x + 1 ≤ 2 * low)
beside_at x low even above below =
    elim (cases_lt (x % 2) 1) [
      | inl small ↦ let e : x % 2 ≡ 0 = omega arith in rw e (omega arith, omega arith)
      | inr big ↦ let e : x % 2 ≡ 1 = omega arith in rw e (omega arith, omega arith)
    ]

-- the node beside one on the way from leaf q is in the tree
pub beside_in_tree : (q n : ℕ) → q < 32 → n < 5 → InTree (sibling ((32 + q) / 2 ^ n)) n
beside_in_tree q zero hq hn = let b = beside_at ((32 + q) / 1) 32 refl (omega arith) (omega arith) in record { low = omega arith; high = omega arith }
beside_in_tree q (suc zero) hq hn = let b = beside_at ((32 + q) / 2) 16 refl (omega arith) (omega arith) in record { low = omega arith; high = omega arith }
beside_in_tree q (suc (suc zero)) hq hn = let b = beside_at ((32 + q) / 4) 8 refl (omega arith) (omega arith) in record { low = omega arith; high = omega arith }
beside_in_tree q (suc (suc (suc zero))) hq hn = let b = beside_at ((32 + q) / 8) 4 refl (omega arith) (omega arith) in record { low = omega arith; high = omega arith }
beside_in_tree q (suc (suc (suc (suc zero)))) hq hn = let b = beside_at ((32 + q) / 16) 2 refl (omega arith) (omega arith) in record { low = omega arith; high = omega arith }
beside_in_tree q (suc (suc (suc (suc (suc n))))) hq hn = absurd (omega arith)

pub halved : (a n : ℕ) → a / 2 ^ n / 2 ≡ a / 2 ^ (n + 1)
halved a n = rw (add-one, pow-suc) (div-div-eq-div-mul a (2 ^ n) 2)

pub leaf_of_is : (seed id : List ℕ) (q : ℕ) → leaf_of seed id q ≡ leaf id (32 + q) (one_time_key seed id q)
unfolding leaf_of
leaf_of_is seed id q = refl
