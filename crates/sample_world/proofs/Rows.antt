-- Values of one length, joined.
use Rattle.std.proofs.Common.{◌≡◌, ℕ, zero, suc, ◌+◌, ◌*◌, ◌<◌, ◌≤◌, List, ◌++◌, length, take, drop, mul-zero, mul-suc, mul-le-mul_left, refl, ◌∙◌, inl, inr, arith, length-append, length-drop}
use Rattle.std.proofs.lemmas.List.{drop-append-le, take-append-le, drop_at, take_all}
use Rattle.std.proofs.lemmas.Bool.{cases_lt}
use Rattle.lms_verify.specs.LmOts.{value_at}
use Rattle.sample_world.specs.Joined.{joined}

pub length-blocks : (size : ℕ) (f : ℕ → List ℕ) (n : ℕ) → ((i : ℕ) → length (f i) ≡ size) → length (joined f n) ≡ size * n
unfolding joined
length-blocks size f zero each = rw mul-zero refl
length-blocks size f (suc n) each = rw (length-append, length-blocks size f n each, each n, mul-suc) (omega arith)

last_block : (size : ℕ) (a b : List ℕ) (at : ℕ) → length a ≡ at → length b ≡ size → take size (drop at (a ++ b)) ≡ b
last_block size a b at la lb = rw (drop_at a b at la) (take_all size b (omega arith))

earlier_block : (size : ℕ) (a b : List ℕ) (at : ℕ) → at + size ≤ length a → take size (drop at (a ++ b)) ≡ take size (drop at a)
earlier_block size a b at room =
    let left = length-drop at a in
    rw (drop-append-le at a b (omega arith)) (take-append-le size (drop at a) b (omega arith))

-- where block i ends, block i + 1 begins
next_block : (size i n : ℕ) → i < n → size * i + size ≤ size * n
next_block size i n h = rw (← mul-suc) (mul-le-mul_left size h)

pub part_at-joined : (size : ℕ) (f : ℕ → List ℕ) (n i : ℕ) → ((i : ℕ) → length (f i) ≡ size) → i < n → take size (drop (size * i) (joined f n)) ≡ f i
unfolding joined
part_at-joined size f zero i each h = absurd (omega arith)
part_at-joined size f (suc n) i each h =
    let long = length-blocks size f n each in
    elim (cases_lt i n) [
      | inl below ↦
          earlier_block size (joined f n) (f n) (size * i) (rw long (next_block size i n below)) ∙ part_at-joined size f n i each below
      | inr above ↦
          let same : i ≡ n = omega arith in
          rw same (last_block size (joined f n) (f n) (size * n) long (each n))
    ]

pub length-joined : (f : ℕ → List ℕ) (n : ℕ) → ((i : ℕ) → length (f i) ≡ 32) → length (joined f n) ≡ 32 * n
length-joined = length-blocks 32

pub value_at-joined : (f : ℕ → List ℕ) (n i : ℕ) → ((i : ℕ) → length (f i) ≡ 32) → i < n → value_at (joined f n) i ≡ f i
value_at-joined = part_at-joined 32

pub joined_same : (f g : ℕ → List ℕ) (n : ℕ) → ((i : ℕ) → i < n → f i ≡ g i) → joined f n ≡ joined g n
unfolding joined
joined_same f g zero each = refl
joined_same f g (suc n) each = rw (joined_same f g n (λ i h. each i (omega arith)), each n (omega arith)) refl
