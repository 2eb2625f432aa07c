-- A chain taken in two parts, and the candidate of a made one-time signature.
use Rattle.std.proofs.Common.{◌≡◌, ℕ, zero, suc, ◌+◌, ◌-◌, ◌<◌, ◌≤◌, List, ◌++◌, length, refl, ap, sym, ◌∙◌, arith, add-zero, add-suc, add_assoc}
use Rattle.sha2.specs.Sha256.{sha256}
use Rattle.sha2.proofs.Facts256.{length-sha256}
use Rattle.lms_verify.specs.LmOts.{u16str, u32str, coef, step, chain, end, ends, digits, message_digest, candidate}
use Rattle.sample_world.specs.Joined.{joined}
use Rattle.sample_world.specs.LmsKeys.{secret, one_time_key, ots_values}
use Rattle.sample_world.proofs.Rows.{value_at-joined, joined_same}

pub length-chain : (id : List ℕ) (q i a n : ℕ) (v : List ℕ) → length v ≡ 32 → length (chain id q i a n v) ≡ 32
unfolding chain step
length-chain id q i a zero v h = h
length-chain id q i a (suc n) v h = length-sha256 _

pub length-secret : (seed id : List ℕ) (q i : ℕ) → length (secret seed id q i) ≡ 32
unfolding secret
length-secret seed id q i = length-sha256 _

chain_add : (id : List ℕ) (q i a m n : ℕ) (v : List ℕ) → chain id q i a (m + n) v ≡ chain id q i (a + m) n (chain id q i a m v)
unfolding chain
chain_add id q i a m zero v = rw add-zero refl
chain_add id q i a m (suc n) v = rw (add-suc, chain_add id q i a m n v, add_assoc) refl

chain_through : (id : List ℕ) (q i a : ℕ) (v : List ℕ) → a ≤ 255 → chain id q i a (255 - a) (chain id q i 0 a v) ≡ chain id q i 0 255 v
chain_through id q i a v h =
    let whole : a + (255 - a) ≡ 255 = omega arith in
    let from : 0 + a ≡ a = omega arith in
    sym (rw (whole, from) at (chain_add id q i 0 a (255 - a) v))

ends_joined : (w : ℕ) (id : List ℕ) (q : ℕ) (s y : List ℕ) (n : ℕ) → ends w id q s y n ≡ joined (λ i. end w id q s y i) n
unfolding ends joined
ends_joined w id q s y zero = refl
ends_joined w id q s y (suc n) = rw (ends_joined w id q s y n) refl

made_end : (seed id : List ℕ) (q : ℕ) (s : List ℕ) (i : ℕ) → i < 34
    → end 8 id q s (joined (λ i. chain id q i 0 (coef s i 8) (secret seed id q i)) 34) i ≡ chain id q i 0 255 (secret seed id q i)
made_end seed id q s i h =
    let at = value_at-joined (λ i. chain id q i 0 (coef s i 8) (secret seed id q i)) 34 i (λ i. length-chain id q i 0 (coef s i 8) (secret seed id q i) (length-secret seed id q i)) h in
    rw at (chain_through id q i (coef s i 8) (secret seed id q i) (omega arith))

pub candidate_is : (seed id : List ℕ) (q : ℕ) (c message : List ℕ) → candidate 8 34 0 id q c (ots_values seed id q c message) message ≡ one_time_key seed id q
unfolding candidate one_time_key ots_values
candidate_is seed id q c message =
    let s = digits 8 0 (message_digest id q c message) in
    let y = joined (λ i. chain id q i 0 (coef s i 8) (secret seed id q i)) 34 in
    let all = ends_joined 8 id q s y 34 ∙ joined_same (λ i. end 8 id q s y i) (λ i. chain id q i 0 255 (secret seed id q i)) 34 (made_end seed id q s) in
    ap (λ z. sha256 (id ++ u32str q ++ u16str 0x8080 ++ z)) all
