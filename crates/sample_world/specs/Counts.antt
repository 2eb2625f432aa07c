-- What is always so of a world's counts.
use Rattle.std.specs.Prelude.{◌≡◌, ℕ, ◌≤◌, List, length, All}
use Rattle.std.specs.List.{sum}

-- no LMS key has made more signatures than it can, and each token took one
pub record AreCounts (used : List ℕ) (tokens : ℕ) : Type 0 where
  pub keys : length used ≡ 256
  pub few : All (λ n. n ≤ 32) used
  pub signed : tokens ≤ sum used
