-- The case of a signature by a policy: what is accepted and proved is asked of it. Of its time-stamps and its value it says whether they are
-- sound: RFC 3161, 2.4.2; XML Signature 1.1, "Signature Validation".
use Rattle.std.specs.Prelude.{◌≡◌, ◌↔◌, ℕ, List, [], ◌∷◌, ◌++◌, IsTrue, ℤ, Option, Some, None}
use Rattle.algorithms.specs.Digests.{digest_of}
use Rattle.algorithms.specs.declared.signature_kinds.SignatureKind.{SignatureKind}
use Rattle.policy_rules.specs.Rules.{Rules, kind_of_uri}
use Rattle.tst_tokens.specs.Digests.{imprint_kind}
use Rattle.tst_tokens.specs.Sound.{IsSound}
use Rattle.acceptance.specs.Certificates.{Signature, Verifies}
use Rattle.acceptance.specs.Objects.{certificate_of, token_of}
use Rattle.acceptance.specs.Times.{Stamp}
use Rattle.acceptance.specs.Tokens as acceptance
use Rattle.acceptance.specs.Verdict.{Case, Signing, IsYes}
use Rattle.signature_objects.specs.Objects.{Object, Value, Certificate, Token, number_of}
use Rattle.signature_evidence.specs.Pools.{pool_of}
use Rattle.signature_evidence.specs.Evidence.{Evidence, Stamped, certificate_digests}

-- a token is sound over octets: over their digest by the algorithm of its imprint
abbrev pub IsSoundOver : (octets token : List ℕ) → Type 0
IsSoundOver octets token = IsSound (digest_of (imprint_kind token) octets) token

-- a time-stamp of the case is one that is shown
pub record IsStampOf (objects : List Object) (stamped : Stamped) (stamp : Stamp acceptance.Token) : Type 0 where
  pub object : stamp.object ≡ number_of objects (Token stamped.token)
  pub token : stamp.token ≡ token_of stamped.token
  pub sound : IsTrue stamp.sound ↔ IsSoundOver stamped.octets stamped.token
  pub covers : stamp.covers ≡ stamped.covers

-- those of the case are those that are shown, one for one
abbrev pub AreStampsOf : List Object → List Stamped → List (Stamp acceptance.Token) → Type 0
AreStampsOf objects [] [] = Unit {0}
AreStampsOf objects [] (stamp ∷ stamps) = ⊥
AreStampsOf objects (stamped ∷ shown) [] = ⊥
AreStampsOf objects (stamped ∷ shown) (stamp ∷ stamps) = IsStampOf objects stamped stamp × AreStampsOf objects shown stamps

-- the signature value, as a signature of a kind over the octets of SignedInfo
abbrev pub signature_of : Evidence → SignatureKind → Signature
signature_of evidence kind = record { kind = Some kind; signed = evidence.signed; octets = evidence.value }

-- the signing of the case, by a kind and a certificate
pub record IsSigningOf (evidence : Evidence) (kind : SignatureKind) (certificate : List ℕ) (signing : Signing) : Type 0 where
  pub value : signing.value ≡ number_of evidence.objects Value
  pub kind_is : signing.kind ≡ kind
  pub number : signing.signer.number ≡ number_of evidence.objects (Certificate certificate)
  pub certificate_is : signing.signer.certificate ≡ certificate_of certificate
  pub verifies : IsTrue signing.verifies ↔ Verifies (certificate_of certificate).key (signature_of evidence kind)

-- there is one where the policy has a kind for the method, and a certificate of KeyInfo is the signing certificate
abbrev pub HasSigning : Evidence → Option SignatureKind → Option (List ℕ) → Option Signing → Type 0
HasSigning evidence None certificate signing = signing ≡ None
HasSigning evidence (Some kind) None signing = signing ≡ None
HasSigning evidence (Some kind) (Some certificate) signing = (is : Signing) × (signing ≡ Some is) × IsSigningOf evidence kind certificate is

pub record IsCaseOf (policy : Rules) (evidence : Evidence) (case : Case) : Type 0 where
  pub pool : case.pool ≡ pool_of evidence.objects
  pub stamps : AreStampsOf evidence.objects evidence.stamps case.stamps
  pub digests : case.digests ≡ evidence.references ++ certificate_digests evidence.objects evidence.certificate_kind evidence.certificate
  pub signing : HasSigning evidence (kind_of_uri policy.kinds evidence.method) evidence.certificate case.signing

-- The verdict of what is shown, by a policy and at a moment.
pub record IsYesOf (policy : Rules) (evidence : Evidence) (now : ℤ) : Type 0 where
  pub case : Case
  pub is_case : IsCaseOf policy evidence case
  pub yes : IsYes policy case now
