-- Tables of tests.
use Rattle.std.specs.Prelude.{◌≡◌, ℕ, ◌<◌, Bool, false, List, [], length, slice_get, slice_index_or, Option, Some, None, IsTrue, ◌↔◌, Vec}
use Rattle.std.specs.declared.alloc.Global.{Global}

-- the flag of a number; there is none outside
abbrev pub flag : List Bool → ℕ → Bool
flag flags number = slice_index_or flags number false

-- the tests of a row; those of a row that isn't there are none
abbrev pub bits_in : Option (Vec Bool Global) → List Bool
bits_in None = []
bits_in (Some row) = row.items

abbrev pub bit : List (Vec Bool Global) → ℕ → ℕ → Bool
bit table row column = slice_index_or (bits_in (slice_get table row)) column false

-- a row says for each column whether P holds
pub record IsRowOf (P : ℕ → Type 0) (columns : ℕ) (row : List Bool) : Type 0 where
  pub each : length row ≡ columns
  pub right : (column : ℕ) → column < columns → (IsTrue (slice_index_or row column false) ↔ P column)

-- a table says for each row and column whether P holds
pub record IsTableOf (P : ℕ → ℕ → Type 0) (rows columns : ℕ) (table : List (Vec Bool Global)) : Type 0 where
  pub right : (row column : ℕ) → row < rows → column < columns → (IsTrue (bit table row column) ↔ P row column)
