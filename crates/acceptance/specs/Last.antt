-- The last moment at which a case still holds.
use Rattle.std.specs.Prelude.{◌≡◌, List, Contains, ℤ, ◌≤ℤ◌, IsTrue, Some}
use Rattle.acceptance.specs.Certificates.{Member}
use Rattle.policy_rules.specs.Rules.{Rules}
use Rattle.acceptance.specs.Walks.{HasCertificate}
use Rattle.acceptance.specs.Tokens.{Token}
use Rattle.acceptance.specs.Stamping.{proof_time}
use Rattle.acceptance.specs.Times.{Stamp}
use Rattle.acceptance.specs.Verdict.{Case, IsWhole, AreEarliest, Holds, Signing}

-- the stamps are sound, and each algorithm, certificate and token is accepted at the time of the object that uses it
pub record HoldsAt (policy : Rules) (case : Case) (now : ℤ) : Type 0 where
  pub times : List ℤ
  pub earliest : AreEarliest policy case now times
  pub sound : (stamp : Stamp Token) → Contains case.stamps stamp → IsTrue stamp.sound
  pub holds : Holds policy case times

-- a stamp covers the value
abbrev pub IsStamped : Case → Type 0
IsStamped case = (signing : Signing) → case.signing ≡ Some signing → (stamp : Stamp Token) × Contains case.stamps stamp × Contains stamp.covers signing.value

-- From the latest proof time on, a case that holds at a moment holds at each earlier one.
abbrev pub HoldingIsClosedDownwards : Type 0
HoldingIsClosedDownwards =
    (policy : Rules) (case : Case) (early late : ℤ) → IsWhole case → IsStamped case →
    ((stamp : Stamp Token) → Contains case.stamps stamp → proof_time policy stamp.token ≤ℤ early) → early ≤ℤ late →
    HoldsAt policy case late → HoldsAt policy case early

-- A case with a stamp holds at no moment after the end of each certificate of its pool.
abbrev pub HoldingEnds : Type 0
HoldingEnds =
    (policy : Rules) (case : Case) (now : ℤ) (stamp : Stamp Token) → IsWhole case → Contains case.stamps stamp → HoldsAt policy case now →
    (c : Member) × HasCertificate case.pool c × (now ≤ℤ c.certificate.not_after)
