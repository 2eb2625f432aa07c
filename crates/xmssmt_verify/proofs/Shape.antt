-- What the test on a signature says, and how the layers grow.
use Rattle.std.proofs.Common.{◌≡◌, ℕ, zero, suc, true, ◌++◌, ◌-◌, ◌≤◌, ◌+◌, ◌*◌, ◌/◌, ◌%◌, ◌^◌, List, length, take, drop, refl, add-one, arith}
use Rattle.std.specs.Prelude.{replicate}
use Rattle.std.proofs.lemmas.Bool.Decides.{nat_tests}
use Rattle.std.proofs.lemmas.List.{append-nil}
use borrow.Rule.Slice.PartMut.{put_mid}
use Rattle.xmss_definitions.specs.Octets.{part}
use Rattle.xmss_definitions.specs.Nodes.{root_from}
use Rattle.xmssmt_verify.specs.XmssMt.{is_signature, index_size, layer_size, above, root_over}

pub long : (h d : ℕ) (signature : List ℕ) → is_signature h d signature ≡ true
    → length signature ≡ index_size h + 32 + d * layer_size (h / d)
unfolding is_signature
long h d signature e = grind (arith, nat_tests)

pub above_none : (t idx : ℕ) → above t idx 0 ≡ idx
unfolding above
above_none t idx = refl

pub above_more : (t idx j : ℕ) → above t idx (j + 1) ≡ above t idx j / 2 ^ t
unfolding above
above_more t idx j = rw add-one refl

pub root_over_none : (t : ℕ) (seed : List ℕ) (idx : ℕ) (digest layers : List ℕ) → root_over t seed idx digest layers 0 ≡ digest
unfolding root_over
root_over_none t seed idx digest layers = refl

pub root_over_more : (t : ℕ) (seed : List ℕ) (idx : ℕ) (digest layers : List ℕ) (j : ℕ)
    → root_over t seed idx digest layers (j + 1)
    ≡ root_from t (record { seed = seed; layer = j; number = above t idx (j + 1) }) (above t idx j % 2 ^ t)
    (root_over t seed idx digest layers j)
    (take (32 * 67) (part layers (layer_size t * j) (layer_size t))) (drop (32 * 67) (part layers (layer_size t * j) (layer_size t)))
unfolding root_over
root_over_more t seed idx digest layers j = rw add-one refl

-- octets written behind k zeros, over the last of eight
pub padded : (k : ℕ) (octets : List ℕ) → k ≤ 8 → put_mid k (8 - k) (replicate 8 0) octets ≡ replicate k 0 ++ octets
padded zero octets h = rw append-nil refl
padded (suc zero) octets h = rw append-nil refl
padded (suc (suc zero)) octets h = rw append-nil refl
padded (suc (suc (suc zero))) octets h = rw append-nil refl
padded (suc (suc (suc (suc zero)))) octets h = rw append-nil refl
padded (suc (suc (suc (suc (suc zero))))) octets h = rw append-nil refl
padded (suc (suc (suc (suc (suc (suc zero)))))) octets h = rw append-nil refl
padded (suc (suc (suc (suc (suc (suc (suc zero))))))) octets h = rw append-nil refl
padded (suc (suc (suc (suc (suc (suc (suc (suc zero)))))))) octets h = rw append-nil refl
padded (suc (suc (suc (suc (suc (suc (suc (suc (suc k))))))))) octets h = absurd (omega arith)
