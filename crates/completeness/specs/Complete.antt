-- The first signer whose certificate has no complete walk: RFC 5280, section 6. That a walk's completeness is asked of all signers, and in
-- which order, is this project's own.
use Rattle.std.specs.Prelude.{◌≡◌, ℕ, List, [], ◌∷◌, Contains, Option, Some, None, slice_get, take}
use Rattle.policy_rules.specs.Rules.{Rules}
use Rattle.acceptance.specs.Certificates.{Part, Member}
use Rattle.acceptance.specs.Walks.{HasCertificate, IsWalkComplete}

-- the certificate with some bytes is in the pool, and has all that a walk wants, whatever the times
pub record HasCompleteWalk (pool : List Part) (policy : Rules) (bytes : List ℕ) : Type 0 where
  pub signer : Member
  pub there : HasCertificate pool signer
  pub named : signer.certificate.whole ≡ bytes
  pub complete : IsWalkComplete pool policy signer

-- of a signer that may be missing
abbrev pub IsComplete : List Part → Rules → Option (List ℕ) → Type 0
IsComplete pool policy None = ⊥
IsComplete pool policy (Some bytes) = HasCompleteWalk pool policy bytes

abbrev pub AreComplete : List Part → Rules → List (Option (List ℕ)) → Type 0
AreComplete pool policy [] = Unit {0}
AreComplete pool policy (signer ∷ signers) = IsComplete pool policy signer × AreComplete pool policy signers

-- the one with a number, from 0, isn't
abbrev pub IsIncompleteAt : List Part → Rules → List (Option (List ℕ)) → ℕ → Type 0
IsIncompleteAt pool policy signers k = (signer : Option (List ℕ)) × (slice_get signers k ≡ Some signer) × (IsComplete pool policy signer → ⊥)

-- The first that isn't complete is the one with this number; there is none where all are.
abbrev pub IsFirstIncomplete : List Part → Rules → List (Option (List ℕ)) → Option ℕ → Type 0
IsFirstIncomplete pool policy signers None = AreComplete pool policy signers
IsFirstIncomplete pool policy signers (Some k) = AreComplete pool policy (take k signers) × IsIncompleteAt pool policy signers k

-- each signer that isn't missing is in the pool
abbrev pub AreThere : List Part → List (Option (List ℕ)) → Type 0
AreThere pool signers = (bytes : List ℕ) → Contains signers (Some bytes) → (m : Member) × HasCertificate pool m × (m.certificate.whole ≡ bytes)
