-- How a chain grows.
use Rattle.std.proofs.Common.{◌≡◌, ℕ, ◌+◌, ◌-◌, List, [], ◌∷◌, ◌++◌, refl, add-one}
use Rattle.xmss_definitions.specs.Octets.{value_at}
use Rattle.xmss_definitions.specs.Address.{Tree}
use Rattle.xmss_definitions.specs.Wots.{step, chain, digit, lacking, ends}

pub chain_none : (tree : Tree) (leaf i a : ℕ) (value : List ℕ) → chain tree leaf i a 0 value ≡ value
unfolding chain
chain_none tree leaf i a value = refl

pub chain_more : (tree : Tree) (leaf i a n : ℕ) (value : List ℕ) → chain tree leaf i a (n + 1) value ≡ step tree leaf i (a + n) (chain tree leaf i a n value)
unfolding chain
chain_more tree leaf i a n value = rw add-one refl

pub lacking_none : (s : List ℕ) → lacking s 0 ≡ 0
unfolding lacking
lacking_none s = refl

pub lacking_more : (s : List ℕ) (n : ℕ) → lacking s (n + 1) ≡ lacking s n + (15 - digit s n)
unfolding lacking
lacking_more s n = rw add-one refl

pub ends_none : (tree : Tree) (leaf : ℕ) (s y : List ℕ) → ends tree leaf s y 0 ≡ []
unfolding ends
ends_none tree leaf s y = refl

pub ends_more : (tree : Tree) (leaf : ℕ) (s y : List ℕ) (n : ℕ) → ends tree leaf s y (n + 1) ≡ ends tree leaf s y n ++ chain tree leaf n (digit s n) (15 - digit s n) (value_at y n) ∷ []
unfolding ends
ends_more tree leaf s y n = rw add-one refl
