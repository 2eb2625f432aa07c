use Rattle.std.proofs.Common.{◌≡◌, List, ℕ, [], drop, map}
use Rattle.algorithms.specs.DigestKind as digest_names
use Rattle.policy_rules.specs.Rules.{are_new}
use Rattle.policy_rules.specs.Seen.{HasTexts}
use Rattle.policy_rules.specs.View.{digest_view}
use Rattle.policy_rules.proofs.distinct.are_digests_new.Given as goal

-- what is left is judged with the texts that were put
abbrev pub invariant-loop-entry : goal.invariant-loop-entry
invariant-loop-entry l =
    (texts : List (List ℕ)) × HasTexts l.seen texts
    × (are_new texts (map (λ rule. digest_names.word_of rule.kind) (map digest_view (drop l.entry-index l.entries))) ≡ are_new [] (map (λ rule. digest_names.word_of rule.kind) (map digest_view l.entries)))
