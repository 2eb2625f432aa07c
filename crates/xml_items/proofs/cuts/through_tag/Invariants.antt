use Rattle.std.proofs.Common.{◌≡◌, ◌-◌, ◌≤◌, ◌++◌, length, take, drop, None}
use Rattle.document_model.specs.Items.{through_tag}
use Rattle.xml_items.proofs.cuts.through_tag.Given as goal

-- the tag doesn't end before the place, which is outside quotes
abbrev pub invariant-bytes : goal.invariant-bytes
invariant-bytes l =
    (l.at ≤ length l.bytes) × (through_tag None l.bytes ≡ (take l.at l.bytes ++ (through_tag None (drop l.at l.bytes)).0, (through_tag None (drop l.at l.bytes)).1))

abbrev pub decreases-bytes : goal.decreases-bytes
decreases-bytes l = length l.bytes - l.at
