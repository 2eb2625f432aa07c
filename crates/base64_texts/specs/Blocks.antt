-- Octets that are decoded block by block.
use Rattle.std.specs.Prelude.{◌≡◌, ℕ, ◌≤◌, ◌%◌, List, ◌++◌, length}
use Rattle.xa_io.specs.Bytes.{IsBytes}
use Rattle.base64_texts.specs.Spelling.{spelled}

-- what whole groups of four gave, and a block of which so many characters are not decoded yet
pub record IsTaken (octets block : List ℕ) (filled : ℕ) : Type 0 where
  pub size : length block ≡ 1024
  pub within : filled ≤ 1024
  pub groups : length octets % 3 ≡ 0
  pub bytes : IsBytes octets

-- the octets that a text spells were appended
abbrev pub AppendsDecoded : List ℕ → List ℕ → List ℕ → Type 0
AppendsDecoded text old new = (octets : List ℕ) × IsBytes octets × (text ≡ spelled octets) × (new ≡ old ++ octets)
