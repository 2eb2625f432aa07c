-- What the shelf and the sink in memory hold.
use Rattle.std.specs.Prelude.{ℕ, ◌-◌, ◌≤◌, List, Option, Result, Ok, Err, length}
use Rattle.xa_io.specs.declared.listed.Listed.{Listed}
use Rattle.xa_io.specs.declared.memory.MemShelf.{MemShelf}
use Rattle.xa_io.specs.declared.memory.MemSink.{MemSink}
use Rattle.xa_io.specs.declared.shelf.Got.{Got}
use Rattle.xa_io.specs.declared.shelf.Got.TheVariants.{Bytes, End, NoSuch}
use Rattle.xa_io.specs.HeldFiles.{look_up}
use Rattle.xa_io.specs.Listed.{kept_at}
use Rattle.xa_io.specs.Causes.{counted}

-- what a shelf in memory holds
abbrev pub shelf_files : MemShelf → List ℕ → Option (List ℕ)
shelf_files shelf = look_up shelf.files.items

-- how the next call of a shelf is listed
abbrev pub shelf_next : MemShelf → Option ℕ
shelf_next shelf = kept_at shelf.failing.items (counted shelf.calls 1)

-- the calls of a shelf that are to fail
abbrev pub shelf_listing : MemShelf → List Listed
shelf_listing shelf = shelf.failing.items

-- what a sink was given
abbrev pub sink_bytes : MemSink → List ℕ
sink_bytes sink = sink.bytes.items

-- the calls of a sink that are to fail
abbrev pub sink_listing : MemSink → List Listed
sink_listing sink = sink.failing.items

-- how many bytes the next call of a sink takes, where it is listed
abbrev pub sink_next : MemSink → Option ℕ
sink_next sink = kept_at sink.failing.items (counted sink.calls 1)

-- how many bytes a sink still takes
abbrev pub sink_room : MemSink → ℕ
sink_room sink = sink.room - length sink.bytes.items

-- how many bytes a shelf gives at a call at most
abbrev pub shelf_most : MemShelf → ℕ
shelf_most shelf = shelf.most

-- a read gave at most so many bytes
abbrev pub GivesAtMost : {E : Type 0} → ℕ → Result Got E → Type 0
GivesAtMost most (Ok (Bytes n)) = n ≤ most
GivesAtMost most (Ok End) = Unit {0}
GivesAtMost most (Ok NoSuch) = Unit {0}
GivesAtMost most (Err e) = Unit {0}

-- the counts of a shelf in memory
pub record ShelfCounts : Type 0 where
  pub faults : ℕ
  pub misses : ℕ
  pub gave : ℕ
  pub calls : ℕ

abbrev pub shelf_counts : MemShelf → ShelfCounts
shelf_counts shelf = record { faults = shelf.faults; misses = shelf.misses; gave = shelf.gave; calls = shelf.calls }

-- the counts after a read: each call is counted, and nothing else but what it came to
abbrev pub counted_by : {E : Type 0} → Result Got E → ShelfCounts → ShelfCounts
counted_by (Ok (Bytes n)) counts = record { faults = counts.faults; misses = counts.misses; gave = counted counts.gave n; calls = counted counts.calls 1 }
counted_by (Ok End) counts = record { faults = counts.faults; misses = counts.misses; gave = counts.gave; calls = counted counts.calls 1 }
counted_by (Ok NoSuch) counts = record { faults = counts.faults; misses = counted counts.misses 1; gave = counts.gave; calls = counted counts.calls 1 }
counted_by (Err e) counts = record { faults = counted counts.faults 1; misses = counts.misses; gave = counts.gave; calls = counted counts.calls 1 }

-- the counts of a sink in memory
pub record SinkCounts : Type 0 where
  pub faults : ℕ
  pub calls : ℕ

abbrev pub sink_counts : MemSink → SinkCounts
sink_counts sink = record { faults = sink.faults; calls = sink.calls }

-- the counts after a put
abbrev pub counted_put : {A E : Type 0} → Result A E → SinkCounts → SinkCounts
counted_put (Ok done) counts = record { faults = counts.faults; calls = counted counts.calls 1 }
counted_put (Err e) counts = record { faults = counted counts.faults 1; calls = counted counts.calls 1 }
