-- What a read of a part of a file answers.
use Rattle.std.specs.Prelude.{◌≡◌, ℕ, ◌+◌, ◌<◌, ◌≤◌, List, [], ◌∷◌, ◌++◌, length, take, drop, Option, None, Some, Result, Ok, Err, IsSome, unwrap_or}
use Rattle.xa_io.specs.declared.shelf.Got.{Got}
use Rattle.xa_io.specs.declared.shelf.Got.TheVariants.{Bytes, End, NoSuch}
use Rattle.xa_io.specs.Causes.{Rose, counted}

-- the files: a map from names to bytes
abbrev pub Files : Type 0
Files = List ℕ → Option (List ℕ)

-- the bytes of the file of a name, none where there is no such file
abbrev pub contents : Files → List ℕ → List ℕ
contents files name = unwrap_or (files name) []

-- The answer to a read of the file `name` from `at` on is right by these files.
abbrev pub IsAnswer : {E : Type 0} → Files → List ℕ → ℕ → List ℕ → Result Got E → Type 0
IsAnswer files name at into (Ok (Bytes n)) = IsSome (files name) × (at + n ≤ length (contents files name)) × (take n into ≡ take n (drop at (contents files name)))
IsAnswer files name at into (Ok End) = IsSome (files name) × (length (contents files name) ≤ at)
IsAnswer files name at into (Ok NoSuch) = files name ≡ None
IsAnswer files name at into (Err e) = Unit {0}

-- the bytes given fill at least one place of the room, and they and no others are counted
abbrev pub GivesWithin : {E : Type 0} → ℕ → ℕ → ℕ → Result Got E → Type 0
GivesWithin room before now (Ok (Bytes n)) = (0 < n) × (n ≤ room) × (now ≡ counted before n)
GivesWithin room before now (Ok End) = now ≡ before
GivesWithin room before now (Ok NoSuch) = now ≡ before
GivesWithin room before now (Err e) = now ≡ before

-- no file of the name is told only where the misses have risen
abbrev pub MissHasCause : {E : Type 0} → ℕ → ℕ → Result Got E → Type 0
MissHasCause before now (Ok NoSuch) = Rose before now
MissHasCause before now (Ok (Bytes n)) = Unit {0}
MissHasCause before now (Ok End) = Unit {0}
MissHasCause before now (Err e) = Unit {0}

-- the names that were asked for, and then this one; what isn't told stays untold
unfoldable pub also_asked : Option (List (List ℕ)) → List ℕ → Option (List (List ℕ))
also_asked None name = None
also_asked (Some names) name = Some (names ++ name ∷ [])
