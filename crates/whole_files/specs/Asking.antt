-- For which names a shelf was asked.
use Rattle.std.specs.Prelude.{◌≡◌, ◌⊎◌, ℕ, zero, suc, List, [], ◌∷◌, Option}
use Rattle.xa_io.specs.Shelf.{also_asked}

-- the names that a shelf was asked for, where it tells them
abbrev pub Asked : Type 0
Asked = Option (List (List ℕ))

-- then it was asked for this name so many times
abbrev pub asked_times : Asked → List ℕ → ℕ → Asked
asked_times before name zero = before
asked_times before name (suc n) = also_asked (asked_times before name n) name

-- it was asked for a front of these names, in their order, for each any number of times, and for no other
abbrev pub AsksInOrder : List (List ℕ) → Asked → Asked → Type 0
AsksInOrder [] before now = now ≡ before
AsksInOrder (name ∷ names) before now = (now ≡ before) ⊎ ((n : ℕ) × AsksInOrder names (asked_times before name n) now)
