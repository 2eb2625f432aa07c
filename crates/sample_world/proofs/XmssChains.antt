-- A chain taken in two parts, and the ends of a made one-time signature.
use Rattle.std.proofs.Common.{◌≡◌, ℕ, zero, suc, ◌+◌, ◌-◌, ◌<◌, ◌≤◌, List, length, refl, sym, ◌∙◌, arith, add-zero, add-suc, add_assoc}
use Rattle.sha2.proofs.Facts256.{length-sha256}
use Rattle.xmss_definitions.specs.Octets.{value_at}
use Rattle.xmss_definitions.specs.Address.{Tree}
use Rattle.xmss_definitions.specs.Wots.{digit, step, keyed, chain, ends, digits}
use Rattle.sample_world.specs.Joined.{joined, listed}
use Rattle.sample_world.specs.XmssKeys.{ots_values}
use Rattle.sample_world.proofs.Rows.{value_at-joined}

pub length-chain : (tree : Tree) (leaf i a n : ℕ) (v : List ℕ) → length v ≡ 32 → length (chain tree leaf i a n v) ≡ 32
unfolding chain step keyed
length-chain tree leaf i a zero v h = h
length-chain tree leaf i a (suc n) v h = length-sha256 _

chain_add : (tree : Tree) (leaf i a m n : ℕ) (v : List ℕ) → chain tree leaf i a (m + n) v ≡ chain tree leaf i (a + m) n (chain tree leaf i a m v)
unfolding chain
chain_add tree leaf i a m zero v = rw add-zero refl
chain_add tree leaf i a m (suc n) v = rw (add-suc, chain_add tree leaf i a m n v, add_assoc) refl

chain_through : (tree : Tree) (leaf i a : ℕ) (v : List ℕ) → a ≤ 15 → chain tree leaf i a (15 - a) (chain tree leaf i 0 a v) ≡ chain tree leaf i 0 15 v
chain_through tree leaf i a v h =
    let whole : a + (15 - a) ≡ 15 = omega arith in
    let from : 0 + a ≡ a = omega arith in
    sym (rw (whole, from) at (chain_add tree leaf i 0 a (15 - a) v))

ends_listed : (tree : Tree) (leaf : ℕ) (s y : List ℕ) (n : ℕ)
    → ends tree leaf s y n ≡ listed (λ i. chain tree leaf i (digit s i) (15 - digit s i) (value_at y i)) n
unfolding ends listed
ends_listed tree leaf s y zero = refl
ends_listed tree leaf s y (suc n) = rw (ends_listed tree leaf s y n) refl

listed_same : (f g : ℕ → List ℕ) (n : ℕ) → ((i : ℕ) → i < n → f i ≡ g i) → listed f n ≡ listed g n
unfolding listed
listed_same f g zero each = refl
listed_same f g (suc n) each = rw (listed_same f g n (λ i h. each i (omega arith)), each n (omega arith)) refl

made_end : (tree : Tree) (x : ℕ → List ℕ) (leaf : ℕ) (s : List ℕ) (i : ℕ) → ((i : ℕ) → length (x i) ≡ 32) → i < 67
    → chain tree leaf i (digit s i) (15 - digit s i) (value_at (joined (λ i. chain tree leaf i 0 (digit s i) (x i)) 67) i) ≡ chain tree leaf i 0 15 (x i)
made_end tree x leaf s i long h =
    let at = value_at-joined (λ i. chain tree leaf i 0 (digit s i) (x i)) 67 i (λ i. length-chain tree leaf i 0 (digit s i) (x i) (long i)) h in
    rw at (chain_through tree leaf i (digit s i) (x i) (omega arith))

pub ends_are : (tree : Tree) (x : ℕ → ℕ → List ℕ) (leaf : ℕ) (digest : List ℕ) → ((i : ℕ) → length (x leaf i) ≡ 32)
    → ends tree leaf (digits digest) (ots_values tree x leaf digest) 67 ≡ listed (λ i. chain tree leaf i 0 15 (x leaf i)) 67
unfolding ots_values
ends_are tree x leaf digest long =
    let s = digits digest in
    let y = joined (λ i. chain tree leaf i 0 (digit s i) (x leaf i)) 67 in
    ends_listed tree leaf s y 67 ∙ listed_same (λ i. chain tree leaf i (digit s i) (15 - digit s i) (value_at y i)) (λ i. chain tree leaf i 0 15 (x leaf i)) 67 (λ i h. made_end tree (x leaf) leaf s i long h)
