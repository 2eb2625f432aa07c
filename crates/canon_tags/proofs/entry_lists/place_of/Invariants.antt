use Rattle.std.proofs.Common.{◌≡◌, ◌≤◌, ◌-◌, ◌++◌, length, take, drop}
use Rattle.document_model.specs.Canonical.{placed}
use Rattle.canon_tags.specs.Entries.{entry_in, entries_in, is_named_before}
use Rattle.canon_tags.proofs.entry_lists.place_of.Given as goal

-- the place is behind those that were passed
abbrev pub invariant-entries : goal.invariant-entries
invariant-entries l =
    (l.at ≤ length l.entries)
    × (placed is_named_before (entry_in l.entry) (entries_in l.entries) ≡ take l.at (entries_in l.entries) ++ placed is_named_before (entry_in l.entry) (drop l.at (entries_in l.entries)))

abbrev pub decreases-entries : goal.decreases-entries
decreases-entries l = length l.entries - l.at
