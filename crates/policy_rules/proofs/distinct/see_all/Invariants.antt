use Rattle.std.proofs.Common.{◌≡◌, List, ℕ, ◌++◌, drop, map, string_bytes}
use Rattle.policy_rules.specs.Rules.{are_new}
use Rattle.policy_rules.specs.Seen.{HasTexts}
use Rattle.policy_rules.proofs.distinct.see_all.Given as goal

-- what is left, and what stands behind it, is judged with the texts that were put
abbrev pub invariant-loop-uri : goal.invariant-loop-uri
invariant-loop-uri l =
    (texts more : List (List ℕ)) → HasTexts l.initial.seen texts
    → (all : List (List ℕ)) × HasTexts l.seen all × (are_new all (map string_bytes (drop l.uri-index l.uris) ++ more) ≡ are_new texts (map string_bytes l.uris ++ more))
