-- A case in memory shows the evidence of a signature: its objects and time-stamps, EN 319 132-1, clauses 5.3 to 5.5.
use Rattle.std.specs.Prelude.{◌≡◌, ◌↔◌, ℕ, true, List, [], ◌∷◌, ◌++◌, IsTrue, slice_get, Some, ℤ, ◌+◌, replicate}
use Rattle.policy_rules.specs.Rules.{Rules}
use Rattle.acceptance.specs.Certificates.{other}
use Rattle.acceptance.specs.Verdict.{Case, AreEarliest}
use Rattle.existence_times.specs.Shown.{Shown, ShownStamp, HasToken, stamps_of, AreEarliestOf}
use Rattle.existence_times.specs.Kept.{with_pool, with_token}
use Rattle.signature_objects.specs.Objects.{Object, Octets, Value, Certificate, RevocationList, Token, has, with_object, number_of, with_objects, octets_from}
use Rattle.signature_evidence.specs.Pools.{part_of, pool_of}
use Rattle.signature_evidence.specs.Evidence.{Evidence, Stamped}
use Rattle.signature_evidence.specs.Cases.{IsSoundOver, AreStampsOf}

-- the objects of a case are these
pub record ShowsObjects (objects : List Object) (shown : Shown) : Type 0 where
  pub pool : shown.pool ≡ pool_of objects
  pub has_value : has objects Value ≡ true
  pub value : shown.references ≡ number_of objects Value
  pub tokens : (n : ℕ) (bytes : List ℕ) → HasToken shown n bytes → (has objects (Token bytes) ≡ true) × (n ≡ number_of objects (Token bytes))
  pub every : (bytes : List ℕ) → has objects (Token bytes) ≡ true → HasToken shown (number_of objects (Token bytes)) bytes

pub record IsShownStamp (objects : List Object) (stamped : Stamped) (stamp : ShownStamp) : Type 0 where
  pub object : stamp.object ≡ number_of objects (Token stamped.token)
  pub token : stamp.token ≡ stamped.token
  pub sound : IsTrue stamp.sound ↔ IsSoundOver stamped.octets stamped.token
  pub covers : stamp.covers ≡ stamped.covers

abbrev pub ShowsStamps : List Object → List Stamped → List ShownStamp → Type 0
ShowsStamps objects [] [] = Unit {0}
ShowsStamps objects [] (stamp ∷ stamps) = ⊥
ShowsStamps objects (stamped ∷ shown) [] = ⊥
ShowsStamps objects (stamped ∷ shown) (stamp ∷ stamps) = IsShownStamp objects stamped stamp × ShowsStamps objects shown stamps

pub record ShowsEvidence (evidence : Evidence) (shown : Shown) : Type 0 where
  pub objects : ShowsObjects evidence.objects shown
  pub stamps : ShowsStamps evidence.objects evidence.stamps shown.stamps

-- an object that a pool reads
abbrev pub IsPart : Object → Type 0
IsPart (Octets k) = ⊥
IsPart Value = ⊥
IsPart (Certificate bytes) = Unit {0}
IsPart (RevocationList bytes) = Unit {0}
IsPart (Token bytes) = ⊥

-- The law: a certificate or revocation list that is added as `add_part` says is put behind the objects, unless it is one of them.
abbrev pub PartIsAdded : Type 0
PartIsAdded = (objects : List Object) (shown : Shown) (object : Object) → IsPart object → ShowsObjects objects shown
    → ((n : ℕ) → slice_get shown.pool n ≡ Some (part_of object) → ShowsObjects (with_object objects object) shown)
    × (((n : ℕ) → ¬ (slice_get shown.pool n ≡ Some (part_of object))) → ShowsObjects (with_object objects object) (with_pool shown (shown.pool ++ part_of object ∷ [])))

-- So is a token that is added as `add_token` says.
abbrev pub TokenIsAdded : Type 0
TokenIsAdded = (objects : List Object) (shown : Shown) (bytes : List ℕ) → ShowsObjects objects shown
    → ((n : ℕ) → HasToken shown n bytes → ShowsObjects (with_object objects (Token bytes)) shown)
    × (((n : ℕ) → ¬ (HasToken shown n bytes)) → ShowsObjects (with_object objects (Token bytes)) (with_token shown bytes))

-- The law: what `earliest` gives for such a case are the earliest times of the case of the evidence.
abbrev pub EarliestAreThose : Type 0
EarliestAreThose = (policy : Rules) (evidence : Evidence) (shown : Shown) (case : Case) (now : ℤ) (times : List ℤ) → ShowsEvidence evidence shown
    → case.pool ≡ pool_of evidence.objects → case.stamps ≡ stamps_of shown
    → AreStampsOf evidence.objects evidence.stamps case.stamps × (AreEarliestOf policy shown now times → AreEarliest policy case now times)

-- The law: a new case shows the octets of its References and the value.
abbrev pub NewCaseShows : Type 0
NewCaseShows = (references : ℕ)
    → ShowsObjects (with_objects [] (octets_from 1 references ++ Value ∷ [])) (record { pool = replicate (references + 1) other; references = references; tokens = []; stamps = [] })
