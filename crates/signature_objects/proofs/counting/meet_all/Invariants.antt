use Rattle.std.proofs.Common.{◌≡◌, List, ℕ, [], drop}
use Rattle.std.specs.Prelude.{flat_map}
use Rattle.signature_objects.specs.Met.{HasMet, all_bytes, bytes_in, with_all}
use Rattle.signature_objects.proofs.counting.meet_all.Given as goal

-- what is left comes behind what was met
abbrev pub invariant-loop-property : goal.invariant-loop-property
invariant-loop-property l =
    HasMet l.fn.met []
    → (now : List (List ℕ)) × HasMet l.met now × (with_all now (flat_map bytes_in (drop l.property l.parts.properties)) ≡ with_all [] (all_bytes l.parts))
