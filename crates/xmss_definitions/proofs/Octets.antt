-- Numbers as octets, and XOR.
use Rattle.std.proofs.Common.{◌≡◌, ℕ, zero, suc, ◌+◌, ◌^◌, ◌<◌, ◌≤◌, List, [], ◌∷◌, ◌++◌, length, take, drop, get_or, refl, ap, sym, ◌∙◌, arith, lit<, zero-add}
use Rattle.std.specs.Prelude.{replicate, bit_xor}
use Rattle.std.specs.Int.{bytes_high_first, byte_at, to_be_bytes, w32, w64}
use Rattle.std.proofs.lemmas.List.{take_at, drop_at, append-nil, same_lists, get_or_default}
use Rattle.std.proofs.Math.Nat.{div-eq_of_lt, pow-le-pow_right}
use borrow.Rule.Slice.PartMut.{put_mid}
use Rattle.xmss_definitions.specs.Octets.{to_byte, xor}

high_byte : (w i n : ℕ) → n < 256 ^ suc w → byte_at (i + suc w) n ≡ 0
high_byte w i n h =
    let e : i + suc w ≡ suc (i + w) = omega arith in
    let more : 256 ^ suc w ≤ 256 ^ suc (i + w) = pow-le-pow_right {n = 256} (lit< tt) {i = suc w} {j = suc (i + w)} (omega arith) in
    let small : n < 256 ^ suc (i + w) = omega arith in
    rw (e, div-eq_of_lt small) refl

-- the octets of a number of w + 1 octets above these
pub leading : (w k n : ℕ) → n < 256 ^ suc w → bytes_high_first (k + suc w) n ≡ replicate k 0 ++ bytes_high_first (suc w) n
leading w zero n h = rw zero-add refl
leading w (suc k) n h =
    let e : suc k + suc w ≡ suc (k + suc w) = omega arith in
    rw (e, high_byte w k n h, leading w k n h) refl

-- a number written into the last of 32 octets of zeros
pub small_number : (n : ℕ) (b : List ℕ) → n < 2 ^ 32 → b ≡ to_be_bytes w32 n → put_mid 28 4 (replicate 32 0) b ≡ to_byte n 32
unfolding to_byte
small_number n b h e = rw (append-nil, e) (sym (leading 3 28 n h))

pub long_number : (n : ℕ) (b : List ℕ) → n < 2 ^ 64 → b ≡ to_be_bytes w64 n → put_mid 24 8 (replicate 32 0) b ≡ to_byte n 32
unfolding to_byte
long_number n b h e = rw (append-nil, e) (sym (leading 7 24 n h))

pub length-xor : (a b : List ℕ) → length a ≡ length b → length (xor a b) ≡ length a
unfolding xor
length-xor [] b h = refl
length-xor (x ∷ a) [] h = absurd (omega arith)
length-xor (x ∷ a) (y ∷ b) h = ap suc (length-xor a b (omega arith))

pub get_or-xor : (a b : List ℕ) (k : ℕ) → length a ≡ length b → k < length a → get_or (xor a b) k 0 ≡ bit_xor (get_or a k 0) (get_or b k 0)
unfolding xor
get_or-xor [] b k h l = absurd (omega arith)
get_or-xor (x ∷ a) [] k h l = absurd (omega arith)
get_or-xor (x ∷ a) (y ∷ b) zero h l = refl
get_or-xor (x ∷ a) (y ∷ b) (suc k) h l = get_or-xor a b k (omega arith) (omega arith)

pub xor_is : (out a b : List ℕ) → length out ≡ 32 → length a ≡ 32 → length b ≡ 32 → ((k : ℕ) → k < 32 → get_or out k 0 ≡ bit_xor (get_or a k 0) (get_or b k 0)) → out ≡ xor a b
xor_is out a b lo la lb each =
    let long = length-xor a b (omega arith) in
    same_lists out (xor a b) (omega arith) (λ k d h.
    get_or_default out k d 0 h ∙ each k (omega arith) ∙ sym (get_or-xor a b k (omega arith) (omega arith)) ∙ get_or_default (xor a b) k 0 d (omega arith))

written_end : (n : ℕ) (a z b : List ℕ) → length a ≡ n → drop 2 z ≡ [] → put_mid n 2 (a ++ z) b ≡ a ++ b
written_end n a z b la lz =
    let front : take n (a ++ z) ≡ a = take_at a z n la in
    let back : drop n (a ++ z) ≡ z = drop_at a z n la in
    rw (front, back, lz, append-nil) refl

-- a row of two parts, the second written over zeros
pub two_parts : (a b : List ℕ) → length a ≡ 32 → put_mid 32 2 (a ++ 0 ∷ 0 ∷ []) b ≡ a ++ b
two_parts a b la = written_end 32 a (0 ∷ 0 ∷ []) b la refl
