use Rattle.std.proofs.Common.{◌≡◌, List, ℕ, [], drop, map}
use Rattle.algorithms.specs.SignatureKind as signatures
use Rattle.policy_rules.specs.Rules.{are_new}
use Rattle.policy_rules.specs.Seen.{HasTexts}
use Rattle.policy_rules.specs.View.{kind_view}
use Rattle.policy_rules.proofs.distinct.are_kinds_new.Given as goal

-- what is left is judged with the texts that were put
abbrev pub invariant-loop-entry : goal.invariant-loop-entry
invariant-loop-entry l =
    (texts : List (List ℕ)) × HasTexts l.seen texts
    × (are_new texts (map (λ rule. signatures.word_of rule.kind) (map kind_view (drop l.entry-index l.entries))) ≡ are_new [] (map (λ rule. signatures.word_of rule.kind) (map kind_view l.entries)))
