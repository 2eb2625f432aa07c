-- What a made LMS key follows from.
use Rattle.std.specs.Prelude.{ℕ, List}

pub record LmsSeed : Type 0 where
  pub seed : List ℕ
  pub id : List ℕ
