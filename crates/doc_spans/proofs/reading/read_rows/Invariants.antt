use Rattle.std.proofs.Common.{◌-◌, length}
use Rattle.doc_spans.specs.Building.{state_of}
use Rattle.doc_spans.specs.Kept.{standing_in}
use Rattle.doc_spans.proofs.ReadSoFar.{ReadTo, CountedTo}
use Rattle.doc_spans.proofs.reading.read_rows.Given as goal

-- the items before a place were taken, and their bytes counted
abbrev pub invariant-items : goal.invariant-items
invariant-items g l = ReadTo l.bytes l.at (state_of l.builder) (standing_in l.standing) × CountedTo l.initial.steps l.at l.steps

abbrev pub decreases-items : goal.decreases-items
decreases-items g l = length l.bytes - l.at
