use Rattle.std.proofs.Common.{◌≡◌, ℕ, ◌<◌, false}
use Rattle.document_model.proofs.Through.{Stands}
use Rattle.xml_items.proofs.cuts.through.Given as goal

-- it begins at no place before
abbrev pub invariant-loop-at : goal.invariant-loop-at
invariant-loop-at l = (k : ℕ) → k < l.at → Stands l.close l.bytes k ≡ false
