-- What the shelf that never fails holds.
use Rattle.std.specs.Prelude.{ℕ, List, Option, Result, Ok, Err}
use Rattle.xa_io.specs.declared.sure.SureShelf.{SureShelf}
use Rattle.xa_io.specs.declared.shelf.Got.{Got}
use Rattle.xa_io.specs.declared.shelf.Got.TheVariants.{Bytes, End, NoSuch}
use Rattle.xa_io.specs.Causes.{counted}
use Rattle.xa_io.specs.HeldFiles.{look_up}

-- what the shelf holds
abbrev pub sure_files : SureShelf → List ℕ → Option (List ℕ)
sure_files shelf = look_up shelf.files.items

-- how many bytes the shelf gives at a call at most
abbrev pub sure_most : SureShelf → ℕ
sure_most shelf = shelf.most

-- the counts of the shelf, but for its faults, which are 0
pub record SureCounts : Type 0 where
  pub misses : ℕ
  pub gave : ℕ

abbrev pub sure_counts : SureShelf → SureCounts
sure_counts shelf = record { misses = shelf.misses; gave = shelf.gave }

-- the counts after a read: what it came to is counted, and nothing else
abbrev pub counted_by : {E : Type 0} → Result Got E → SureCounts → SureCounts
counted_by (Ok (Bytes n)) counts = record { misses = counts.misses; gave = counted counts.gave n }
counted_by (Ok End) counts = counts
counted_by (Ok NoSuch) counts = record { misses = counted counts.misses 1; gave = counts.gave }
counted_by (Err e) counts = counts
