use Rattle.std.proofs.Common.{◌≡◌, ℕ, ◌≤◌, ◌+◌, ◌-◌, length, take}
use Rattle.std.specs.Prelude.{Some}
use Rattle.xa_io.specs.Shelf.{Files, contents}
use Rattle.xa_io.specs.Causes.{RoseBy}
use Rattle.whole_files.specs.Asking.{asked_times}
use Rattle.whole_files.proofs.read.read_file.Given as goal

abbrev pub invariant-turns : goal.invariant-turns
invariant-turns g l = record {
  within : l.at ≤ l.limit;
  size : length l.octs ≡ l.at;
  held : g.S.Shelf.held l.shelf ≡ g.S.Shelf.held l.initial.shelf;
  told : (files : Files) → g.S.Shelf.held l.initial.shelf ≡ Some files → (l.at ≤ length (contents files l.name)) × (l.octs ≡ take l.at (contents files l.name));
  gave : RoseBy l.at (g.S.Shelf.gave l.initial.shelf) (g.S.Shelf.gave l.shelf);
  few : g.S.Shelf.gave l.shelf ≤ g.S.Shelf.gave l.initial.shelf + l.at;
  faults_stay : g.S.Shelf.faults l.initial.shelf ≤ g.S.Shelf.faults l.shelf;
  misses_stay : g.S.Shelf.misses l.initial.shelf ≤ g.S.Shelf.misses l.shelf;
  gave_stays : g.S.Shelf.gave l.initial.shelf ≤ g.S.Shelf.gave l.shelf;
  asked : (n : ℕ) × (g.S.Shelf.asked l.shelf ≡ asked_times (g.S.Shelf.asked l.initial.shelf) l.name n);
}

abbrev pub decreases-turns : goal.decreases-turns
decreases-turns g l = l.limit - l.at
