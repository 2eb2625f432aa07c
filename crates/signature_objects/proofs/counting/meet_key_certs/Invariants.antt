use Rattle.std.proofs.Common.{◌≡◌, List, ℕ, drop}
use Rattle.signature_objects.specs.Met.{HasMet, with_all}
use Rattle.signature_objects.proofs.counting.meet_key_certs.Given as goal

-- what is left comes behind what was met
abbrev pub invariant-loop-number : goal.invariant-loop-number
invariant-loop-number l =
    (all : List (List ℕ)) → HasMet l.fn.met all
    → (now : List (List ℕ)) × HasMet l.met now × (with_all now (drop l.number l.parts.key_certs) ≡ with_all all l.parts.key_certs)
