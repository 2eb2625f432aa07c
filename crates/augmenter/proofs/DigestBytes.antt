-- Digests are lists of bytes.
use Rattle.std.proofs.Common.{ℕ, zero, suc, ◌<◌, List, [], ◌∷◌, ◌++◌, take, arith}
use Rattle.std.specs.Prelude.{slice_index}
use Rattle.std.specs.Int.{w32, w64, to_be_bytes}
use Rattle.base64.specs.GeneralPurpose.{IsBytes}
use Rattle.sha2.specs.Sha256 as short
use Rattle.sha2.specs.Sha256.{sha256}
use Rattle.sha2.specs.Sha512 as long
use Rattle.sha2.specs.Sha512.{sha384, sha512}
use Rattle.insertion_fragments.specs.Drafts.{GivesBytes}
use Rattle.signature_model.specs.Vocabulary as model
use Rattle.qualifying_props.specs.Digests.{digest}

both_bytes : (a b : List ℕ) → IsBytes a → IsBytes b → IsBytes (a ++ b)
both_bytes [] b h k i = k i
both_bytes (x ∷ a) b h k zero = h 0
both_bytes (x ∷ a) b h k (suc i) = both_bytes a b (λ j. h (suc j)) k i

first_bytes : (n : ℕ) (a : List ℕ) → IsBytes a → IsBytes (take n a)
first_bytes zero a h i = none
  where
    none : 0 < 256
    none = omega arith
first_bytes (suc n) [] h i = h i
first_bytes (suc n) (x ∷ a) h zero = h 0
first_bytes (suc n) (x ∷ a) h (suc i) = first_bytes n a (λ j. h (suc j)) i

short_word : (x : ℕ) → IsBytes (to_be_bytes w32 x)
short_word x zero = omega arith
short_word x (suc zero) = omega arith
short_word x (suc (suc zero)) = omega arith
short_word x (suc (suc (suc zero))) = omega arith
short_word x (suc (suc (suc (suc i)))) = omega arith

long_word : (x : ℕ) → IsBytes (to_be_bytes w64 x)
long_word x zero = omega arith
long_word x (suc zero) = omega arith
long_word x (suc (suc zero)) = omega arith
long_word x (suc (suc (suc zero))) = omega arith
long_word x (suc (suc (suc (suc zero)))) = omega arith
long_word x (suc (suc (suc (suc (suc zero))))) = omega arith
long_word x (suc (suc (suc (suc (suc (suc zero)))))) = omega arith
long_word x (suc (suc (suc (suc (suc (suc (suc zero))))))) = omega arith
long_word x (suc (suc (suc (suc (suc (suc (suc (suc i)))))))) = omega arith

short_bytes : (h : List ℕ) (n : ℕ) → IsBytes (short.digest_bytes h n)
unfolding short.digest_bytes
short_bytes h zero i = none
  where
    none : 0 < 256
    none = omega arith
short_bytes h (suc n) i = both_bytes (short.digest_bytes h n) (to_be_bytes w32 (slice_index h n)) (short_bytes h n) (short_word (slice_index h n)) i

long_bytes : (h : List ℕ) (n : ℕ) → IsBytes (long.digest_bytes h n)
unfolding long.digest_bytes
long_bytes h zero i = none
  where
    none : 0 < 256
    none = omega arith
long_bytes h (suc n) i = both_bytes (long.digest_bytes h n) (to_be_bytes w64 (slice_index h n)) (long_bytes h n) (long_word (slice_index h n)) i

pub digests_are_bytes : GivesBytes digest
unfolding sha256 sha384 sha512
digests_are_bytes model.Sha256 octets = short_bytes _ 8
digests_are_bytes model.Sha384 octets = first_bytes 48 _ (long_bytes _ 8)
digests_are_bytes model.Sha512 octets = long_bytes _ 8
