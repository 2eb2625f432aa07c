use Rattle.std.proofs.Common.{◌≡◌, ◌-◌, ◌≤◌, ◌++◌, length, take, drop, Some}
use Rattle.document_model.specs.Items.{through_tag}
use Rattle.xml_items.proofs.cuts.behind_quote.Given as goal

-- the quote doesn't stand before the place
abbrev pub invariant-quoted : goal.invariant-quoted
invariant-quoted l =
    (l.start ≤ l.at) × (l.at ≤ length l.bytes)
    × (through_tag (Some l.quote) (drop l.start l.bytes)
    ≡ (take (l.at - l.start) (drop l.start l.bytes) ++ (through_tag (Some l.quote) (drop l.at l.bytes)).0, (through_tag (Some l.quote) (drop l.at l.bytes)).1))

abbrev pub decreases-quoted : goal.decreases-quoted
decreases-quoted l = length l.bytes - l.at
