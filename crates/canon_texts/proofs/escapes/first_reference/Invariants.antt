use Rattle.std.proofs.Common.{◌≡◌, ◌++◌, take, drop}
use Rattle.std.specs.Prelude.{flat_map}
use Rattle.canon_texts.specs.WrittenAt.{written_at}
use Rattle.canon_texts.proofs.escapes.first_reference.Given as goal

abbrev pub invariant-loop-at : goal.invariant-loop-at
invariant-loop-at l = flat_map (written_at l.place) l.bytes ≡ take l.at l.bytes ++ flat_map (written_at l.place) (drop l.at l.bytes)
