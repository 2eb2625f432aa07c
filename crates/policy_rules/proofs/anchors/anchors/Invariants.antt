use Rattle.std.proofs.Common.{◌≡◌, ◌+◌, map, vec_len}
use Rattle.policy_rules.specs.Text.{anchors_from}
use Rattle.policy_rules.specs.Whole.{AreWhole}
use Rattle.policy_rules.proofs.Numbered.{with_front, left}
use Rattle.policy_rules.proofs.anchors.anchors.Given as goal

abbrev pub invariant-loop-text : goal.invariant-loop-text
invariant-loop-text l =
    (l.number ≡ l.text-index + 1) × (vec_len l.anchors ≡ l.text-index) × AreWhole l.anchors.items
    × (with_front (map (λ a. a.items) l.anchors.items) (anchors_from l.number (left l.text-index l.texts)) ≡ anchors_from 1 (map (λ s. s.now) l.texts))
