-- What a case shows: its objects, its tokens and its stamps.
use Rattle.std.specs.Prelude.{◌≡◌, ℕ, Bool, List, map, length, slice_get, ℤ, Some}
use Rattle.policy_rules.specs.Rules.{Rules}
use Rattle.acceptance.specs.Certificates.{Part, Member}
use Rattle.acceptance.specs.Objects.{token_of}
use Rattle.acceptance.specs.Stamping.{IsTokenAccepted, proof_time}
use Rattle.acceptance.specs.Times.{Stamp, IsEarliest}
use Rattle.acceptance.specs.Tokens.{Token}
use Rattle.acceptance.specs.Walks.{HasCertificate}
use Rattle.cert_paths.specs.Pool.{Keeps}

-- a token, by its bytes, with its object's number
pub record ShownToken : Type 0 where
  pub number : ℕ
  pub bytes : List ℕ

-- a time-stamp: the number of its token's object, the token's bytes, whether it is sound, and the numbers of what it covers
pub record ShownStamp : Type 0 where
  pub object : ℕ
  pub token : List ℕ
  pub sound : Bool
  pub covers : List ℕ

-- The References have the first numbers, and the signature value the next one.
pub record Shown : Type 0 where
  pub pool : List Part
  pub references : ℕ
  pub tokens : List ShownToken
  pub stamps : List ShownStamp

abbrev pub stamp_of : ShownStamp → Stamp Token
stamp_of stamp = record { object = stamp.object; token = token_of stamp.token; sound = stamp.sound; covers = stamp.covers }

abbrev pub stamps_of : Shown → List (Stamp Token)
stamps_of case = map stamp_of case.stamps

-- the earliest proved times of a case
abbrev pub AreEarliestOf : Rules → Shown → ℤ → List ℤ → Type 0
AreEarliestOf policy case now times = IsEarliest (IsTokenAccepted case.pool policy) (proof_time policy) (stamps_of case) (length case.pool) now times

-- the object with this number is the token with these bytes
abbrev pub HasToken : Shown → ℕ → List ℕ → Type 0
HasToken case number bytes = (k : ℕ) × (slice_get case.tokens k ≡ Some (record { number = number; bytes = bytes }))

-- the token's signer, where it has one, is in the pool
abbrev pub HasSignerOf : List Part → Token → Type 0
HasSignerOf pool token = (whole : List ℕ) → token.signer ≡ Some whole → (m : Member) × HasCertificate pool m × (m.certificate.whole ≡ whole)

-- a case that keeps what stands at each number, and all of its tokens and stamps
pub record KeepsCase (case grown : Shown) : Type 0 where
  pub pool : Keeps case.pool grown.pool
  pub references : grown.references ≡ case.references
  pub tokens : (n : ℕ) (bytes : List ℕ) → HasToken case n bytes → HasToken grown n bytes
  pub stamps : grown.stamps ≡ case.stamps
