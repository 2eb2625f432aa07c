-- LMS keys and signatures made from a seed, of LMS type 5 and LM-OTS type 4 (RFC 8554, sections 4.3, 4.5, 5.3, 5.4,
-- Appendix A), and HSS keys and signatures of one and of two levels (section 6).
use Rattle.std.specs.Prelude.{ℕ, zero, suc, ◌+◌, ◌-◌, ◌*◌, ◌/◌, ◌^◌, List, [], ◌∷◌, ◌++◌}
use Rattle.sha2.specs.Sha256.{sha256}
use Rattle.lms_verify.specs.LmOts.{u16str, u32str, chain, coef, digits, message_digest}
use Rattle.lms_verify.specs.Lms.{leaf, inner}
use Rattle.sample_world.specs.Joined.{joined, sibling}

-- x[i] of leaf q (Appendix A)
unfoldable pub secret : (seed id : List ℕ) → (q i : ℕ) → List ℕ
secret seed id q i = sha256 (id ++ u32str q ++ u16str i ++ 0xff ∷ [] ++ seed)

-- K of leaf q (4.3)
unfoldable pub one_time_key : (seed id : List ℕ) → ℕ → List ℕ
one_time_key seed id q =
    sha256 (id ++ u32str q ++ u16str 0x8080 ++ joined (λ i. chain id q i 0 255 (secret seed id q i)) 34)

-- leaf q, with node number 32 + q (5.3)
unfoldable pub leaf_of : (seed id : List ℕ) → ℕ → List ℕ
leaf_of seed id q = leaf id (32 + q) (one_time_key seed id q)

-- node r, n heights above the leaves (5.3)
unfoldable pub node : (seed id : List ℕ) → (r n : ℕ) → List ℕ
node seed id r zero = leaf id r (one_time_key seed id (r - 32))
node seed id r (suc n) = inner id r (node seed id (2 * r) n) (node seed id (2 * r + 1) n)

-- the key of a seed (5.3)
unfoldable pub lms_key : (seed id : List ℕ) → List ℕ
lms_key seed id = u32str 5 ++ (u32str 4 ++ (id ++ node seed id 1 5))

-- y of a message (4.5)
unfoldable pub ots_values : (seed id : List ℕ) → ℕ → (c message : List ℕ) → List ℕ
ots_values seed id q c message =
    let s = digits 8 0 (message_digest id q c message) in
    joined (λ i. chain id q i 0 (coef s i 8) (secret seed id q i)) 34

-- the authentication path of leaf node r (5.4)
unfoldable pub path : (seed id : List ℕ) → ℕ → List ℕ
path seed id r = joined (λ k. node seed id (sibling (r / 2 ^ k)) k) 5

-- the signature of a message by leaf q under the randomizer C (5.4)
unfoldable pub lms_signature : (seed id : List ℕ) → ℕ → (c message : List ℕ) → List ℕ
lms_signature seed id q c message =
    u32str q ++ (u32str 4 ++ (c ++ (ots_values seed id q c message ++ (u32str 5 ++ path seed id (32 + q)))))

-- the HSS key of so many levels over the key of a seed (6.1)
abbrev pub hss_key : (levels : ℕ) → (seed id : List ℕ) → List ℕ
hss_key levels seed id = u32str levels ++ lms_key seed id

-- the HSS signature of one level (6.2)
abbrev pub hss_signature : (seed id : List ℕ) → ℕ → (c message : List ℕ) → List ℕ
hss_signature seed id q c message = u32str 0 ++ lms_signature seed id q c message

-- the HSS signature of two levels: the upper key signs the lower, and the lower the message (6.2)
abbrev pub two_signatures : (seed id : List ℕ) → ℕ → (c seed' id' : List ℕ) → ℕ → (c' message : List ℕ) → List ℕ
two_signatures seed id q c seed' id' q' c' message =
    u32str 1 ++ (lms_signature seed id q c (lms_key seed' id') ++ (lms_key seed' id' ++ lms_signature seed' id' q' c' message))
