-- Where the parts of made keys and signatures stand.
use Rattle.std.proofs.Common.{◌≡◌, ℕ, List, ◌++◌, length, arith}
use Rattle.std.proofs.lemmas.List.{drop_at, take_at, take_all}
use Rattle.lms_verify.specs.Lms.{part}

-- a part with more behind it
pub part_is : (a b rest : List ℕ) (n m : ℕ) → length a ≡ n → length b ≡ m → part (a ++ (b ++ rest)) n m ≡ b
part_is a b rest n m la lb = rw (drop_at a (b ++ rest) n la) (take_at b rest m lb)

-- the last part
pub last_part_is : (a b : List ℕ) (n m : ℕ) → length a ≡ n → length b ≡ m → part (a ++ b) n m ≡ b
last_part_is a b n m la lb = rw (drop_at a b n la) (take_all m b (omega arith))
