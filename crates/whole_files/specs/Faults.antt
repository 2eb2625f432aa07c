-- Why a file wasn't read: by the files that a shelf has, and by its counts.
use Rattle.std.specs.Prelude.{◌≡◌, ◌⊎◌, ℕ, ◌<◌, ◌≤◌, List, [], ◌∷◌, length, None, Some, Result, Ok, Err}
use Rattle.xa_io.specs.Causes.{Rose, RoseBy}
use Rattle.xa_io.specs.Shelf.{Files, contents}
use Rattle.whole_files.specs.Roles.{limit_of}
use Rattle.whole_files.specs.Wants.{Want}
use Rattle.whole_files.specs.declared.fault.FileFault.{FileFault}
use Rattle.whole_files.specs.declared.fault.FileFault.TheVariants.{NoSuch, Failed, TooLong}
use Rattle.whole_files.specs.declared.fault.Unread.{Unread}
use Rattle.whole_files.specs.declared.fault.Unread.TheVariants.{File, OutOfMemory}

-- the shelf has the file, and it isn't longer than it may be
pub record IsWhole (shelf : Files) (want : Want) : Type 0 where
  pub bytes : List ℕ
  pub held : shelf want.name ≡ Some bytes
  pub within : length bytes ≤ limit_of want.role

-- a file with this name and this limit may have the fault
abbrev pub IsFaulty : Files → List ℕ → ℕ → FileFault → Type 0
IsFaulty shelf name limit NoSuch = shelf name ≡ None
IsFaulty shelf name limit Failed = Unit {0}
IsFaulty shelf name limit (TooLong got) = (limit < got) × (got ≤ length (contents shelf name))

-- of the files that are wanted, the first that isn't there whole has this name and this fault
abbrev pub IsFirstFault : Files → List Want → List ℕ → FileFault → Type 0
IsFirstFault shelf [] name fault = ⊥
IsFirstFault shelf (want ∷ wants) name fault =
    ((want.name ≡ name) × IsFaulty shelf want.name (limit_of want.role) fault) ⊎ (IsWhole shelf want × IsFirstFault shelf wants name fault)

-- what is told is right by the files that the shelf has; want of memory is free
abbrev pub IsUnread : Files → List Want → Unread → Type 0
IsUnread shelf wants (File name fault) = IsFirstFault shelf wants name fault
IsUnread shelf wants OutOfMemory = Unit {0}

-- more bytes came than the limit
abbrev pub IsAbove : ℕ → FileFault → Type 0
IsAbove limit (TooLong got) = limit < got
IsAbove limit NoSuch = Unit {0}
IsAbove limit Failed = Unit {0}

-- a file with this name is wanted, whose limit the fault is above
abbrev pub IsWanted : List Want → List ℕ → FileFault → Type 0
IsWanted [] name fault = ⊥
IsWanted (want ∷ wants) name fault = ((want.name ≡ name) × IsAbove (limit_of want.role) fault) ⊎ IsWanted wants name fault

-- the counts of a shelf
pub record Counts : Type 0 where
  pub faults : ℕ
  pub misses : ℕ
  pub gave : ℕ

abbrev pub counts_of : {X : Type 0} → (X → ℕ) → (X → ℕ) → (X → ℕ) → X → Counts
counts_of faults misses gave shelf = record { faults = faults shelf; misses = misses shelf; gave = gave shelf }

-- no count fell
pub record HasGrown (before now : Counts) : Type 0 where
  pub faults : before.faults ≤ now.faults
  pub misses : before.misses ≤ now.misses
  pub gave : before.gave ≤ now.gave

-- the fault has its cause in the counts
abbrev pub HasRisenFor : FileFault → Counts → Counts → Type 0
HasRisenFor NoSuch before now = Rose before.misses now.misses
HasRisenFor Failed before now = Rose before.faults now.faults
HasRisenFor (TooLong got) before now = RoseBy got before.gave now.gave

-- what is told is of a file that is wanted, and has its cause in the counts; want of memory is free
abbrev pub HasCause : List Want → Counts → Counts → Unread → Type 0
HasCause wants before now (File name fault) = IsWanted wants name fault × HasRisenFor fault before now
HasCause wants before now OutOfMemory = Unit {0}

-- the answer on one file is right by the files that the shelf has
abbrev pub IsRead : Files → List ℕ → ℕ → Result (List ℕ) Unread → Type 0
IsRead shelf name limit (Ok bytes) = shelf name ≡ Some bytes
IsRead shelf name limit (Err (File told fault)) = IsFaulty shelf name limit fault
IsRead shelf name limit (Err OutOfMemory) = Unit {0}

-- the answer on one file tells its name, and a fault has its cause in the counts
abbrev pub IsCaused : List ℕ → ℕ → Counts → Counts → Result (List ℕ) Unread → Type 0
IsCaused name limit before now (Ok bytes) = length bytes ≤ limit
IsCaused name limit before now (Err (File told fault)) = (told ≡ name) × IsAbove limit fault × HasRisenFor fault before now
IsCaused name limit before now (Err OutOfMemory) = Unit {0}
