use Rattle.std.proofs.Common.{length}
use denote.Text.{Utf8}
use denote.Shadow.{shadow}
use Rattle.xml_items.proofs.Numbers.{Counted}
use Rattle.xml_items.proofs.references.number.Given as goal

-- the number so far is that of the digits before
abbrev pub invariant-loop-c : goal.invariant-loop-c
invariant-loop-c l = shadow (Utf8 l.rest) × Counted l.base l.n l.text l.rest

abbrev pub decreases-loop-c : goal.decreases-loop-c
decreases-loop-c l = length l.rest
