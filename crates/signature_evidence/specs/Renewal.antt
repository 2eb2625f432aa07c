-- The laws: the case of a signature is whole, and a last archive time-stamp over all that is shown keeps the verdict: EN 319 132-1,
-- clause 5.5.
use Rattle.std.specs.Prelude.{◌≡◌, ℕ, ◌<◌, true, false, List, [], ◌∷◌, ◌++◌, All, length, Contains, ℤ, ◌≤ℤ◌, Some}
use Rattle.policy_rules.specs.Rules.{Rules}
use Rattle.document_model.specs.Tree.{Nodes}
use Rattle.signature_model.specs.Spots.{Spot}
use Rattle.signature_model.specs.Parts.{ArchiveStamp}
use Rattle.signature_model.specs.Chains.{Handed}
use Rattle.acceptance.specs.Objects.{token_of}
use Rattle.acceptance.specs.Stamping.{IsTokenAccepted, proof_time}
use Rattle.acceptance.specs.Verdict.{Case, DigestUse, IsWhole, AreEarliest, IsYes}
use Rattle.acceptance.specs.Walks.{time}
use Rattle.acceptance.specs.Laws.{IsAcceptedWhereProved}
use Rattle.signature_objects.specs.Objects.{Object, Value, Certificate, Token, has, with_objects, number_of, numbers_below}
use Rattle.signature_evidence.specs.Evidence.{Evidence, Stamped, evidence_of}
use Rattle.signature_objects.specs.Held.{objects_of_token}
use Rattle.signature_evidence.specs.Cases.{IsCaseOf, IsSoundOver, IsYesOf}

-- The numbers that are shown are in range, every object that is spoken of is there, and each token that is there is a time-stamp's.
pub record IsInRange (evidence : Evidence) : Type 0 where
  pub value : has evidence.objects Value ≡ true
  pub certificate : (bytes : List ℕ) → evidence.certificate ≡ Some bytes → has evidence.objects (Certificate bytes) ≡ true
  pub references : (digest : DigestUse) → Contains evidence.references digest → digest.object < length evidence.objects
  pub stamps : (stamped : Stamped) → Contains evidence.stamps stamped → has evidence.objects (Token stamped.token) ≡ true
  pub covers : (stamped : Stamped) → Contains evidence.stamps stamped → All (λ number. number < length evidence.objects) stamped.covers
  pub tokens : (bytes : List ℕ) → has evidence.objects (Token bytes) ≡ true → (stamped : Stamped) × Contains evidence.stamps stamped × (stamped.token ≡ bytes)

-- no token is among what is handed in
abbrev pub HasNoTokens : List Object → Type 0
HasNoTokens more = (bytes : List ℕ) → has more (Token bytes) ≡ false

-- What a signature of a document shows is in range, whatever the document.
abbrev pub EvidenceIsInRange : Type 0
EvidenceIsInRange = (handed : Handed) (document : Nodes) (signature : Spot) (more : List Object) → HasNoTokens more → IsInRange (evidence_of handed document signature more)

abbrev pub CasesAreWhole : Type 0
CasesAreWhole = (policy : Rules) (evidence : Evidence) (case : Case) → IsInRange evidence → IsCaseOf policy evidence case → IsWhole case

-- What is shown with one more archive time-stamp, over all objects that there were; its token and the token's certificates are behind them.
abbrev pub with_archive : Evidence → (token octets : List ℕ) → Evidence
with_archive evidence token octets = record {
  objects = with_objects evidence.objects (objects_of_token token);
  stamps = evidence.stamps ++ record { kind = ArchiveStamp; token = token; octets = octets; covers = numbers_below (length evidence.objects) } ∷ [];
  references = evidence.references;
  computed = evidence.computed;
  certificate_kind = evidence.certificate_kind;
  certificate = evidence.certificate;
  method = evidence.method;
  value = evidence.value;
  signed = evidence.signed;
}

-- no time-stamp that is there has a later time
abbrev pub IsLast : Evidence → List ℕ → Type 0
IsLast evidence token = (stamped : Stamped) → Contains evidence.stamps stamped → (token_of stamped.token).gen_time ≤ℤ (token_of token).gen_time

-- the token is accepted in a case at the time that is proved of it
abbrev pub IsAcceptedIn : Rules → Evidence → Case → List ℤ → List ℕ → Type 0
IsAcceptedIn policy evidence case times token = IsTokenAccepted case.pool policy times (token_of token) (time times (number_of evidence.objects (Token token)))

-- What is yes at the time that a sound last archive time-stamp proves is yes with it, at each moment from then on at which it is accepted.
abbrev pub RenewedEvidenceIsYes : Type 0
RenewedEvidenceIsYes = (policy : Rules) (evidence : Evidence) (token octets : List ℕ) (case renewed : Case) (now : ℤ) (times : List ℤ)
    → IsInRange evidence → IsSoundOver octets token → IsLast evidence token
    → IsCaseOf policy evidence case → IsYes policy case (proof_time policy (token_of token))
    → IsCaseOf policy (with_archive evidence token octets) renewed → proof_time policy (token_of token) ≤ℤ now → AreEarliest policy renewed now times
    → IsAcceptedIn policy (with_archive evidence token octets) renewed times token → IsYes policy renewed now

-- A token is accepted among what is shown, at the time that is proved of it.
pub record IsAcceptedOf (policy : Rules) (evidence : Evidence) (token : List ℕ) (now : ℤ) : Type 0 where
  pub case : Case
  pub is_case : IsCaseOf policy evidence case
  pub times : List ℤ
  pub earliest : AreEarliest policy case now times
  pub accepted : IsAcceptedIn policy evidence case times token

-- The same for the verdict of what is shown.
abbrev pub RenewalKeepsYesOf : Type 0
RenewalKeepsYesOf = (policy : Rules) (evidence : Evidence) (token octets : List ℕ) (now : ℤ)
    → IsInRange evidence → IsSoundOver octets token → IsLast evidence token
    → IsYesOf policy evidence (proof_time policy (token_of token)) → proof_time policy (token_of token) ≤ℤ now
    → IsAcceptedOf policy (with_archive evidence token octets) token now → IsYesOf policy (with_archive evidence token octets) now

-- What is shown has one case by a policy.
abbrev pub CasesAgree : Type 0
CasesAgree = (policy : Rules) (evidence : Evidence) (case other : Case) → IsInRange evidence → IsCaseOf policy evidence case → IsCaseOf policy evidence other → other ≡ case

-- At the earliest time of an object is accepted what is accepted at some time that is proved of it.
abbrev pub EvidenceIsAcceptedWhereProved : Type 0
EvidenceIsAcceptedWhereProved = (policy : Rules) (evidence : Evidence) (case : Case) (now : ℤ) (times : List ℤ) (object : ℕ)
    → IsInRange evidence → IsCaseOf policy evidence case → AreEarliest policy case now times → object < length evidence.objects
    → IsAcceptedWhereProved policy case now times object

-- What is shown has a case by each policy.
abbrev pub EvidenceHasACase : Type 0
EvidenceHasACase = (policy : Rules) (evidence : Evidence) → (case : Case) × IsCaseOf policy evidence case
