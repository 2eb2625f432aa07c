-- The case of a signature, and its verdict.
use Rattle.std.specs.Prelude.{◌≡◌, ℕ, ◌<◌, Bool, List, length, Contains, ℤ, ◌≤ℤ◌, IsTrue, Option, Some}
use Rattle.algorithms.specs.declared.signature_kinds.SignatureKind.{SignatureKind}
use Rattle.algorithms.specs.declared.digest_kinds.DigestKind.{DigestKind}
use Rattle.acceptance.specs.Certificates.{Part, Member}
use Rattle.policy_rules.specs.Rules.{Rules, AcceptsKind, AcceptsDigest}
use Rattle.acceptance.specs.Walks.{time, HasCertificate, IsAccepted}
use Rattle.acceptance.specs.Tokens.{Token}
use Rattle.acceptance.specs.Stamping.{IsTokenAccepted, proof_time}
use Rattle.acceptance.specs.Times.{Stamp, IsOf, IsClosed, IsEarliest}

-- a digest that the signature names, of a Reference's octets or of the signing certificate: the object, and whether the digest matched
pub record DigestUse : Type 0 where
  pub object : ℕ
  pub kind : DigestKind
  pub matches : Bool

-- the signature value: its object, its method's kind by the policy, the signing certificate, and whether the value verifies under its key
pub record Signing : Type 0 where
  pub value : ℕ
  pub kind : SignatureKind
  pub signer : Member
  pub verifies : Bool

-- The numbers of a case's objects are those of its pool.
pub record Case : Type 0 where
  pub pool : List Part
  pub stamps : List (Stamp Token)
  pub digests : List DigestUse
  -- none where the method is unknown, or no certificate matches
  pub signing : Option Signing

-- all numbers are of the case, and the signing certificate is in the pool
pub record IsWhole (case : Case) : Type 0 where
  pub stamps : (stamp : Stamp Token) → Contains case.stamps stamp → IsOf (length case.pool) stamp
  pub digests : (digest : DigestUse) → Contains case.digests digest → digest.object < length case.pool
  pub value : (signing : Signing) → case.signing ≡ Some signing → signing.value < length case.pool
  pub signer : (signing : Signing) → case.signing ≡ Some signing → HasCertificate case.pool signing.signer

abbrev pub AreClosed : Rules → Case → ℤ → List ℤ → Type 0
AreClosed policy case now times = IsClosed (IsTokenAccepted case.pool policy) (proof_time policy) case.stamps (length case.pool) now times

abbrev pub AreEarliest : Rules → Case → ℤ → List ℤ → Type 0
AreEarliest policy case now times = IsEarliest (IsTokenAccepted case.pool policy) (proof_time policy) case.stamps (length case.pool) now times

-- whatever the times: a signer is named, the value verifies, the digests match, and the stamps are sound
pub record IsIntact (case : Case) : Type 0 where
  pub signing : Signing
  pub named : case.signing ≡ Some signing
  pub value : IsTrue signing.verifies
  pub digests : (digest : DigestUse) → Contains case.digests digest → IsTrue digest.matches
  pub stamps : (stamp : Stamp Token) → Contains case.stamps stamp → IsTrue stamp.sound

-- no token is of a time after now, and none covers a token of a later time
pub record IsInOrder (case : Case) (now : ℤ) : Type 0 where
  pub by_now : (stamp : Stamp Token) → Contains case.stamps stamp → stamp.token.gen_time ≤ℤ now
  pub covered : (stamp earlier : Stamp Token) → Contains case.stamps stamp → Contains case.stamps earlier → Contains stamp.covers earlier.object →
      earlier.token.gen_time ≤ℤ stamp.token.gen_time

-- each algorithm, certificate and token is accepted at the time of the object that uses it
pub record Holds (policy : Rules) (case : Case) (times : List ℤ) : Type 0 where
  pub digests : (digest : DigestUse) → Contains case.digests digest → AcceptsDigest policy digest.kind (time times digest.object)
  pub value : (signing : Signing) → case.signing ≡ Some signing → AcceptsKind policy signing.kind (time times signing.value)
  pub signer : (signing : Signing) → case.signing ≡ Some signing →
      IsAccepted case.pool policy times signing.signer (time times signing.value) (time times signing.value)
  pub tokens : (stamp : Stamp Token) → Contains case.stamps stamp → IsTokenAccepted case.pool policy times stamp.token (time times stamp.object)

-- the verdict is yes at a moment
pub record IsYes (policy : Rules) (case : Case) (now : ℤ) : Type 0 where
  pub intact : IsIntact case
  pub in_order : IsInOrder case now
  pub times : List ℤ
  pub earliest : AreEarliest policy case now times
  pub holds : Holds policy case times
