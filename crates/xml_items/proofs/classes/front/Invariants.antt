use Rattle.std.proofs.Common.{◌-◌, ◌≤◌, length, drop}
use Rattle.std.specs.Str.{IsUtf8}
use Rattle.std.specs.Str.Iter.{chars_rest}
use Rattle.xml_items.specs.Classes.{passes}
use Rattle.xml_items.proofs.Fronts.{Passed}
use Rattle.xml_items.proofs.classes.front.Given as goal

-- the bytes before are ASCII characters that pass
abbrev pub invariant-bytes : goal.invariant-bytes
invariant-bytes l = (l.at ≤ length l.text) × Passed (passes l.class) l.text (drop l.at l.text) × IsUtf8 (drop l.at l.text)

abbrev pub decreases-bytes : goal.decreases-bytes
decreases-bytes l = length l.bytes - l.at

-- the characters before all pass
abbrev pub invariant-loop-c : goal.invariant-loop-c
invariant-loop-c l = Passed (passes l.class) l.text (chars_rest l.rest)

abbrev pub decreases-loop-c : goal.decreases-loop-c
decreases-loop-c l = length (chars_rest l.rest)
