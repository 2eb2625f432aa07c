use Rattle.std.proofs.Common.{◌≡◌, drop}
use Rattle.item_contents.proofs.Alone.{any_archive}
use Rattle.item_contents.proofs.contents.has_archive_stamp.Given as goal

-- the properties that were passed are none
abbrev pub invariant-loop-number : goal.invariant-loop-number
invariant-loop-number l = any_archive l.parts.properties ≡ any_archive (drop l.number l.parts.properties)
