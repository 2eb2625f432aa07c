-- The answers from which the verdict and the report are made. Each is one question on a case, under times: XML Signature 1.1, "Core
-- Validation"; RFC 3161, 2.4.2; RFC 5280, section 6. Which questions there are is this project's own.
use Rattle.std.specs.Prelude.{◌≡◌, ◌↔◌, ℕ, Bool, ◌&&◌, IsTrue, is_some, List, [], ◌∷◌, Option, Some, None, Contains, ℤ}
use Rattle.std.specs.List.{list_all}
use Rattle.algorithms.specs.Digests.{digest_of}
use Rattle.algorithms.specs.declared.signature_kinds.SignatureKind.{SignatureKind}
use Rattle.policy_rules.specs.Rules.{Rules, AcceptsKind, AcceptsDigest, kind_of_uri}
use Rattle.tst_tokens.specs.Digests.{imprint_kind}
use Rattle.acceptance.specs.Certificates.{Member}
use Rattle.acceptance.specs.Objects.{certificate_of, token_of}
use Rattle.acceptance.specs.Stamping.{IsTokenAccepted}
use Rattle.acceptance.specs.Times.{Stamp}
use Rattle.acceptance.specs.Tokens as acceptance
use Rattle.acceptance.specs.Verdict.{Case, DigestUse, Signing, AreEarliest, IsInOrder, IsYes}
use Rattle.acceptance.specs.Walks.{time, HasCertificate, IsAccepted, IsWalkComplete}
use Rattle.signature_objects.specs.Objects.{Object, Value, Certificate, Token, number_of}
use Rattle.signature_evidence.specs.Evidence.{Evidence, Stamped}
use Rattle.signature_evidence.specs.Cases.{IsCaseOf}
use Rattle.signature_evidence.specs.Soundness.{Soundness, HasSoundness, is_sound}

pub record TokenAnswer : Type 0 where
  pub soundness : Soundness
  -- at the time that is proved of it
  pub accepted : Bool

pub record Answers : Type 0 where
  -- whether the algorithm of each Reference's digest is accepted at the time of the octets
  pub references : List Bool
  -- whether that of the signing certificate's digest is at the time of the certificate; nothing is said where there is none
  pub certificate : Bool
  -- whether the value verifies under the signing certificate's key, whether this key is of the method's kind, and whether the kind is
  -- accepted at the time of the value
  pub good : Bool
  pub keyed : Bool
  pub kind : Bool
  -- whether the signing certificate is accepted at the time of the value
  pub walk : Bool
  pub tokens : List TokenAnswer
  pub in_order : Bool
  -- whether the walks of the signing certificate and of all tokens' signers are complete
  pub complete : Bool

-- What is asked.

-- the earliest time of an object
abbrev pub time_of : Evidence → List ℤ → Object → ℤ
time_of evidence times object = time times (number_of evidence.objects object)

abbrev pub signer_of : Evidence → List ℕ → Member
signer_of evidence bytes = record { number = number_of evidence.objects (Certificate bytes); certificate = certificate_of bytes }

abbrev pub IsGood : Case → Type 0
IsGood case = (signing : Signing) × (case.signing ≡ Some signing) × IsTrue signing.verifies

abbrev pub IsKeyed : Case → Type 0
IsKeyed case = (signing : Signing) × (case.signing ≡ Some signing) × (signing.signer.certificate.key.kind ≡ Some signing.kind)

abbrev pub IsKindAccepted : Rules → Evidence → List ℤ → Option SignatureKind → Type 0
IsKindAccepted policy evidence times None = ⊥
IsKindAccepted policy evidence times (Some kind) = AcceptsKind policy kind (time_of evidence times Value)

abbrev pub IsCertificateAccepted : Rules → Evidence → List ℤ → Option (List ℕ) → Type 0
IsCertificateAccepted policy evidence times None = ⊥
IsCertificateAccepted policy evidence times (Some bytes) = AcceptsDigest policy evidence.certificate_kind (time_of evidence times (Certificate bytes))

abbrev pub IsWalkAccepted : Rules → Evidence → Case → List ℤ → Option (List ℕ) → Type 0
IsWalkAccepted policy evidence case times None = ⊥
IsWalkAccepted policy evidence case times (Some bytes) =
    IsAccepted case.pool policy times (signer_of evidence bytes) (time_of evidence times Value) (time_of evidence times Value)

-- a token's signer is in the pool, and its walk is complete
pub record HasCompleteSigner (case : Case) (policy : Rules) (token : acceptance.Token) : Type 0 where
  pub signer : Member
  pub named : token.signer ≡ Some signer.certificate.whole
  pub there : HasCertificate case.pool signer
  pub complete : IsWalkComplete case.pool policy signer

abbrev pub IsSignerComplete : Rules → Evidence → Case → Option (List ℕ) → Type 0
IsSignerComplete policy evidence case None = ⊥
IsSignerComplete policy evidence case (Some bytes) = IsWalkComplete case.pool policy (signer_of evidence bytes)

pub record AreAllComplete (policy : Rules) (evidence : Evidence) (case : Case) : Type 0 where
  pub signer : IsSignerComplete policy evidence case evidence.certificate
  pub tokens : (stamp : Stamp acceptance.Token) → Contains case.stamps stamp → HasCompleteSigner case policy stamp.token

-- How the answers are tied to the questions.

abbrev pub AreAccepted : Rules → List ℤ → List DigestUse → List Bool → Type 0
AreAccepted policy times [] [] = Unit {0}
AreAccepted policy times [] (answer ∷ answers) = ⊥
AreAccepted policy times (digest ∷ digests) [] = ⊥
AreAccepted policy times (digest ∷ digests) (answer ∷ answers) =
    (IsTrue answer ↔ AcceptsDigest policy digest.kind (time times digest.object)) × AreAccepted policy times digests answers

pub record IsTokenAnswer (policy : Rules) (evidence : Evidence) (case : Case) (times : List ℤ) (stamped : Stamped) (answer : TokenAnswer) : Type 0 where
  pub soundness : HasSoundness (digest_of (imprint_kind stamped.token) stamped.octets) stamped.token answer.soundness
  pub accepted : IsTrue answer.accepted ↔ IsTokenAccepted case.pool policy times (token_of stamped.token) (time_of evidence times (Token stamped.token))

abbrev pub AreTokenAnswers : Rules → Evidence → Case → List ℤ → List Stamped → List TokenAnswer → Type 0
AreTokenAnswers policy evidence case times [] [] = Unit {0}
AreTokenAnswers policy evidence case times [] (answer ∷ answers) = ⊥
AreTokenAnswers policy evidence case times (stamped ∷ shown) [] = ⊥
AreTokenAnswers policy evidence case times (stamped ∷ shown) (answer ∷ answers) =
    IsTokenAnswer policy evidence case times stamped answer × AreTokenAnswers policy evidence case times shown answers

pub record AreAnswers (policy : Rules) (evidence : Evidence) (case : Case) (now : ℤ) (times : List ℤ) (answers : Answers) : Type 0 where
  pub earliest : AreEarliest policy case now times
  pub references : AreAccepted policy times evidence.references answers.references
  pub certificate : IsTrue answers.certificate ↔ IsCertificateAccepted policy evidence times evidence.certificate
  pub good : IsTrue answers.good ↔ IsGood case
  pub keyed : IsTrue answers.keyed ↔ IsKeyed case
  pub kind : IsTrue answers.kind ↔ IsKindAccepted policy evidence times (kind_of_uri policy.kinds evidence.method)
  pub walk : IsTrue answers.walk ↔ IsWalkAccepted policy evidence case times evidence.certificate
  pub tokens : AreTokenAnswers policy evidence case times evidence.stamps answers.tokens
  pub in_order : IsTrue answers.in_order ↔ IsInOrder case now
  pub complete : IsTrue answers.complete ↔ AreAllComplete policy evidence case

-- The verdict: no answer stands against it.

abbrev pub is_fine : TokenAnswer → Bool
is_fine answer = is_sound answer.soundness && answer.accepted

abbrev pub is_yes : Evidence → Answers → Bool
is_yes evidence answers = list_all (λ answer. answer) (
    list_all (λ digest. digest.matches) evidence.references ∷ list_all (λ answer. answer) answers.references
    ∷ is_some evidence.certificate ∷ answers.certificate
    ∷ answers.good ∷ answers.kind ∷ answers.walk
    ∷ list_all is_fine answers.tokens ∷ answers.in_order ∷ [])

-- The law: the answers make the verdict.

abbrev pub AnswersMakeTheVerdict : Type 0
AnswersMakeTheVerdict = (policy : Rules) (evidence : Evidence) (case : Case) (now : ℤ) (times : List ℤ) (answers : Answers)
    → IsCaseOf policy evidence case → AreAnswers policy evidence case now times answers → (IsTrue (is_yes evidence answers) ↔ IsYes policy case now)
