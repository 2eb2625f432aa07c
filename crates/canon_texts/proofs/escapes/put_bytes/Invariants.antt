use Rattle.std.proofs.Common.{◌≡◌, ◌++◌, length, take}
use Rattle.std.specs.Prelude.{flat_map}
use Rattle.canon_texts.specs.WrittenAt.{written_at}
use Rattle.canon_texts.proofs.escapes.put_bytes.Given as goal

abbrev pub invariant-loop-at : goal.invariant-loop-at
invariant-loop-at l = record {
  whole : l.out ++ flat_map (written_at l.place) l.rest ≡ l.initial.out ++ flat_map (written_at l.place) l.initial.rest;
  kept : take (length l.initial.out) l.out ≡ l.initial.out;
}

abbrev pub decreases-loop-at : goal.decreases-loop-at
decreases-loop-at l = length l.rest
