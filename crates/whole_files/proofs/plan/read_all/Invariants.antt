use Rattle.std.proofs.Common.{◌≡◌, ℕ, List, ◌++◌, drop, map}
use Rattle.std.specs.Prelude.{Some}
use Rattle.xa_io.specs.Shelf.{Files}
use Rattle.whole_files.specs.Asking.{Asked, AsksInOrder}
use Rattle.whole_files.specs.Faults.{HasGrown, IsFirstFault, IsWanted, counts_of}
use Rattle.whole_files.specs.Wants.{Held, want_of, held_of, names_of, AreFor, AreHeld}
use Rattle.whole_files.specs.declared.fault.FileFault.{FileFault}
use Rattle.whole_files.proofs.plan.read_all.Given as goal

-- what holds of the files that are left holds of all
abbrev pub invariant-loop-want : goal.invariant-loop-want
invariant-loop-want g l = record {
  held : g.S.Shelf.held l.shelf ≡ g.S.Shelf.held l.initial.shelf;
  grown : HasGrown (counts_of g.S.Shelf.faults g.S.Shelf.misses g.S.Shelf.gave l.initial.shelf) (counts_of g.S.Shelf.faults g.S.Shelf.misses g.S.Shelf.gave l.shelf);
  read : (others : List Held) → AreFor (map want_of (drop l.want-index l.wanted)) others → AreFor (map want_of l.wanted) (map held_of l.all.items ++ others);
  told : (files : Files) → g.S.Shelf.held l.initial.shelf ≡ Some files → (others : List Held) → AreHeld files (map want_of (drop l.want-index l.wanted)) others → AreHeld files (map want_of l.wanted) (map held_of l.all.items ++ others);
  first : (files : Files) → g.S.Shelf.held l.initial.shelf ≡ Some files → (name : List ℕ) (fault : FileFault) → IsFirstFault files (map want_of (drop l.want-index l.wanted)) name fault → IsFirstFault files (map want_of l.wanted) name fault;
  wanted : (name : List ℕ) (fault : FileFault) → IsWanted (map want_of (drop l.want-index l.wanted)) name fault → IsWanted (map want_of l.wanted) name fault;
  asked : (now : Asked) → AsksInOrder (names_of (map want_of (drop l.want-index l.wanted))) (g.S.Shelf.asked l.shelf) now → AsksInOrder (names_of (map want_of l.wanted)) (g.S.Shelf.asked l.initial.shelf) now;
}
