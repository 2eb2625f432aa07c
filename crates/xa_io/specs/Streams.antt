-- What was written to a stream that tells what it holds.
use Rattle.std.specs.Prelude.{◌≡◌, ℕ, List, ◌++◌, Option}
use Rattle.std.specs.Io.KnownBytes.{Appends}

-- of a text a first part was appended to what the stream holds
pub record AppendsFirst (text : List ℕ) (before now : Option (List ℕ)) : Type 0 where
  pub first : List ℕ
  pub rest : List ℕ
  pub whole : text ≡ first ++ rest
  pub appended : Appends before now first
