-- The laws of acceptance.
use Rattle.std.specs.Prelude.{◌≡◌, ℕ, ◌<◌, ◌≤◌, Bool, IsTrue, List, [], ◌∷◌, ◌++◌, length, Contains, slice_get, Some, ℤ, ◌≤ℤ◌, ◌↔◌}
use Rattle.algorithms.specs.declared.signature_kinds.SignatureKind.{SignatureKind}
use Rattle.algorithms.specs.declared.digest_kinds.DigestKind.{DigestKind}
use Rattle.acceptance.specs.Certificates.{Part, Member, Crl}
use Rattle.policy_rules.specs.Rules.{Rules, AcceptsDigest, AcceptsKind}
use Rattle.acceptance.specs.Walks.{time, HasCertificate, HasCrl, IsAccepted}
use Rattle.acceptance.specs.Times.{IsNoLater, Stamp, IsOf, IsEarliest, IsClosedDownwards, Proved}
use Rattle.acceptance.specs.Tokens.{Token}
use Rattle.acceptance.specs.Stamping.{IsTokenAccepted, proof_time}
use Rattle.acceptance.specs.Verdict.{Case, IsWhole, AreEarliest, IsYes}

-- a pool that has grown: what was there keeps its number, and no CRL came
pub record IsGrown (pool grown : List Part) : Type 0 where
  pub kept : (number : ℕ) (part : Part) → slice_get pool number ≡ Some part → slice_get grown number ≡ Some part
  pub no_crl : (number : ℕ) (list : Crl) → HasCrl grown number list → HasCrl pool number list

-- What is accepted at a time is accepted at each earlier one, under times that are no later, and in a pool that has grown.
abbrev pub AcceptanceIsKept : Type 0
AcceptanceIsKept =
    (pool grown : List Part) (policy : Rules) (times earlier : List ℤ) (leaf : Member) (low at before : ℤ) →
    IsGrown pool grown → IsNoLater (length pool) earlier times → before ≤ℤ at → HasCertificate pool leaf →
    IsAccepted pool policy times leaf low at → IsAccepted grown policy earlier leaf low before

abbrev pub TokenAcceptanceIsKept : Type 0
TokenAcceptanceIsKept =
    (pool grown : List Part) (policy : Rules) (times earlier : List ℤ) (token : Token) (at before : ℤ) →
    IsGrown pool grown → IsNoLater (length pool) earlier times → before ≤ℤ at →
    IsTokenAccepted pool policy times token at → IsTokenAccepted grown policy earlier token before

-- The earliest time of an object is proved of it, and no earlier one is.
abbrev pub EarliestIsTheLeastProved : Type 0 → Type 0
EarliestIsTheLeastProved T =
    (accepts : List ℤ → T → ℤ → Bool) (proves : T → ℤ) (stamps : List (Stamp T)) (objects : ℕ) (now : ℤ) (times : List ℤ) →
    IsClosedDownwards objects (λ t token at. IsTrue (accepts t token at)) →
    ((stamp : Stamp T) → Contains stamps stamp → IsOf objects stamp) →
    IsEarliest (λ t token at. IsTrue (accepts t token at)) proves stamps objects now times →
    (object : ℕ) → object < objects →
    Proved (λ token at. IsTrue (accepts times token at)) proves stamps now object (time times object)
    × ((at : ℤ) → Proved (λ token at. IsTrue (accepts times token at)) proves stamps now object at → time times object ≤ℤ at)

-- A case with one more stamp, whose token may bring certificates, and may be one that is there by its bytes.
pub record IsRenewed (case renewed : Case) (stamp : Stamp Token) : Type 0 where
  pub pool : IsGrown case.pool renewed.pool
  pub larger : length case.pool ≤ length renewed.pool
  pub stamps : renewed.stamps ≡ case.stamps ++ stamp ∷ []
  pub digests : renewed.digests ≡ case.digests
  pub signing : renewed.signing ≡ case.signing
  pub number : stamp.object < length renewed.pool
  pub again : stamp.object < length case.pool → (old : Stamp Token) × Contains case.stamps old × (old.object ≡ stamp.object) × (old.token ≡ stamp.token)
  -- the stamp covers the objects that were there, and no others
  pub covers : (object : ℕ) → object < length case.pool → Contains stamp.covers object
  pub only : (object : ℕ) → Contains stamp.covers object → object < length case.pool
  pub sound : IsTrue stamp.sound
  pub later : (old : Stamp Token) → Contains case.stamps old → old.token.gen_time ≤ℤ stamp.token.gen_time

-- A case that is yes at the time that a last stamp over all of it proves is yes with the stamp, at each moment from then on at which the
-- stamp's token is accepted.
abbrev pub RenewalKeepsYes : Type 0
RenewalKeepsYes =
    (policy : Rules) (case renewed : Case) (stamp : Stamp Token) (now : ℤ) (times : List ℤ) →
    IsWhole case → IsRenewed case renewed stamp → IsYes policy case (proof_time policy stamp.token) →
    proof_time policy stamp.token ≤ℤ now → AreEarliest policy renewed now times →
    IsTokenAccepted renewed.pool policy times stamp.token (time times stamp.object) → IsYes policy renewed now

-- Each case has its earliest times.
abbrev pub CasesHaveEarliestTimes : Type 0
CasesHaveEarliestTimes =
    (policy : Rules) (case : Case) (now : ℤ) →
    ((stamp : Stamp Token) → Contains case.stamps stamp → IsOf (length case.pool) stamp) → (times : List ℤ) × AreEarliest policy case now times

abbrev pub IsProvedOf : Rules → Case → ℤ → List ℤ → ℕ → ℤ → Type 0
IsProvedOf policy case now times object at = Proved (IsTokenAccepted case.pool policy times) (proof_time policy) case.stamps now object at

-- what is accepted at the object's time is what is accepted at some time that is proved of the object; a certificate with one fixed `low`
pub record IsAcceptedWhereProved (policy : Rules) (case : Case) (now : ℤ) (times : List ℤ) (object : ℕ) : Type 0 where
  pub digest : (kind : DigestKind) →
      (AcceptsDigest policy kind (time times object) ↔ ((at : ℤ) × IsProvedOf policy case now times object at × AcceptsDigest policy kind at))
  pub kind : (kind : SignatureKind) →
      (AcceptsKind policy kind (time times object) ↔ ((at : ℤ) × IsProvedOf policy case now times object at × AcceptsKind policy kind at))
  pub token : (token : Token) →
      (IsTokenAccepted case.pool policy times token (time times object)
      ↔ ((at : ℤ) × IsProvedOf policy case now times object at × IsTokenAccepted case.pool policy times token at))
  pub certificate : (leaf : Member) (low : ℤ) → HasCertificate case.pool leaf →
      (IsAccepted case.pool policy times leaf low (time times object)
      ↔ ((at : ℤ) × IsProvedOf policy case now times object at × IsAccepted case.pool policy times leaf low at))

abbrev pub EarliestIsSomeProvedTime : Type 0
EarliestIsSomeProvedTime =
    (policy : Rules) (case : Case) (now : ℤ) (times : List ℤ) →
    ((stamp : Stamp Token) → Contains case.stamps stamp → IsOf (length case.pool) stamp) → AreEarliest policy case now times →
    (object : ℕ) → object < length case.pool → IsAcceptedWhereProved policy case now times object
