-- The trees of a world's XMSS^MT key.
use Rattle.std.specs.Prelude.{ℕ, List}
use Rattle.xmss_definitions.specs.Address.{Tree}
use Rattle.sample_world.specs.World.{xmssmt_secret, xmssmt_seed}

-- a tree by the world's secret, its layer, and its number there
pub record MadeTree : Type 0 where
  pub secret : List ℕ
  pub layer : ℕ
  pub number : ℕ

abbrev pub tree_of : MadeTree → Tree
tree_of t = record { seed = xmssmt_seed t.secret; layer = t.layer; number = t.number }

abbrev pub secrets_of : MadeTree → (leaf chain : ℕ) → List ℕ
secrets_of t = xmssmt_secret t.secret t.layer t.number
