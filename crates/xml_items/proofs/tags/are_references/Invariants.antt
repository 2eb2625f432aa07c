use Rattle.std.proofs.Common.{◌≡◌, length}
use denote.Text.{Utf8}
use denote.Shadow.{shadow}
use Rattle.std.specs.Str.{chars}
use Rattle.xml_items.proofs.Values.{has_references, IsAtReference}
use Rattle.xml_items.proofs.tags.are_references.Given as goal

-- what is before the rest is references; the rest begins with one or is empty
abbrev pub invariant-loop-behind : goal.invariant-loop-behind
invariant-loop-behind l = shadow (Utf8 l.rest) × (has_references (chars l.text) ≡ has_references (chars l.rest)) × IsAtReference (chars l.rest)

abbrev pub decreases-loop-behind : goal.decreases-loop-behind
decreases-loop-behind l = length l.rest
