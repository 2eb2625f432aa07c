use Rattle.std.proofs.Common.{◌≡◌, ◌≤◌, ◌-◌, ◌++◌, length, take, drop}
use Rattle.std.specs.Str.{chars}
use Rattle.document_model.specs.Canonical.{is_before, placed}
use Rattle.canon_tags.specs.Texts.{texts_in}
use Rattle.canon_tags.proofs.prefixes.place_of.Given as goal

-- the place is behind those that were passed
abbrev pub invariant-prefixes : goal.invariant-prefixes
invariant-prefixes l =
    (l.at ≤ length l.found)
    × (placed is_before (chars l.prefix) (texts_in l.found) ≡ take l.at (texts_in l.found) ++ placed is_before (chars l.prefix) (drop l.at (texts_in l.found)))

abbrev pub decreases-prefixes : goal.decreases-prefixes
decreases-prefixes l = length l.found - l.at
