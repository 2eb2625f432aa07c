-- That what stands against the next time-stamp is told in one way. This project's own, over RFC 3161, section 2.4.2.
use Rattle.std.specs.Prelude.{◌≡◌, ℕ, List, Option}
use Rattle.stamp_checks.specs.declared.faults.OrderFault.{OrderFault}
use Rattle.stamp_checks.specs.declared.faults.StampFault.{StampFault}
use Rattle.stamp_checks.specs.declared.faults.StampFault.TheVariants as faults
use Rattle.stamp_checks.specs.Faults.{IsTaken, StandsAgainst}
use Rattle.tst_tokens.specs.declared.fault.TokenFault.TheVariants as tokens

-- what stands against it isn't that memory was wanting
abbrev pub IsOfOctets : StampFault → Type 0
IsOfOctets fault = ¬ (fault ≡ faults.Token tokens.OutOfMemory)

-- The law: at most one such fault stands against octets, and none against those that are taken.
abbrev pub StampFaultsAreOne : Type 0
StampFaultsAreOne = (covered token : List ℕ) (besides : Option OrderFault)
    → ((fault other : StampFault) → IsOfOctets fault → IsOfOctets other → StandsAgainst covered token besides fault → StandsAgainst covered token besides other → fault ≡ other)
    × ((fault : StampFault) → IsOfOctets fault → IsTaken covered token besides → StandsAgainst covered token besides fault → ⊥)
