-- Proofs of existence: the least time at which each object is proved to have existed.
-- `accepts times token at` says that a token is accepted at a time under a list of times, and `proves token` is the time that it proves.
use Rattle.std.specs.Prelude.{◌≡◌, ℕ, ◌<◌, Bool, List, length, All, Contains, ℤ, ◌≤ℤ◌, IsTrue}
use Rattle.acceptance.specs.Walks.{time}

-- A time-stamp: the number of its token among the objects, the token, whether it is sound over the octets that its property covers,
-- and the numbers of the objects that it covers.
pub record Stamp (T : Type 0) : Type 0 where
  pub object : ℕ
  pub token : T
  pub sound : Bool
  pub covers : List ℕ

-- each stamp speaks of the first `objects` objects
abbrev pub IsOf : {T : Type 0} → ℕ → Stamp T → Type 0
IsOf objects stamp = (stamp.object < objects) × All (λ y. y < objects) stamp.covers

-- A list of times is closed where it has one for each object, none after now, and where each stamp that is sound, and accepted at its
-- token's time, has done its work: nothing that it covers has a time after the one that it proves.
pub record IsClosed {T : Type 0} (accepts : List ℤ → T → ℤ → Type 0) (proves : T → ℤ) (stamps : List (Stamp T)) (objects : ℕ) (now : ℤ) (times : List ℤ) : Type 0 where
  pub each : length times ≡ objects
  pub by_now : (object : ℕ) → object < objects → time times object ≤ℤ now
  pub by_stamps : (stamp : Stamp T) → Contains stamps stamp → IsTrue stamp.sound →
      accepts times stamp.token (time times stamp.object) → All (λ y. time times y ≤ℤ proves stamp.token) stamp.covers

-- the earliest proved times: the closed list that no closed list exceeds at any object
pub record IsEarliest {T : Type 0} (accepts : List ℤ → T → ℤ → Type 0) (proves : T → ℤ) (stamps : List (Stamp T)) (objects : ℕ) (now : ℤ) (times : List ℤ) : Type 0 where
  pub closed : IsClosed accepts proves stamps objects now times
  pub greatest : (other : List ℤ) → IsClosed accepts proves stamps objects now other →
      (object : ℕ) → object < objects → time other object ≤ℤ time times object

-- A time is proved of an object: the moment is, and so is the time that a sound stamp over it proves, where its token is accepted at
-- a time that is proved of the token.
pub data Proved {T : Type 0} (accepts : T → ℤ → Type 0) (proves : T → ℤ) (stamps : List (Stamp T)) (now : ℤ) : ℕ → ℤ → Type 0 where
  at_the_moment : (object : ℕ) → Proved accepts proves stamps now object now
  by_a_stamp : (stamp : Stamp T) (at : ℤ) (object : ℕ) → Contains stamps stamp → IsTrue stamp.sound →
      Proved accepts proves stamps now stamp.object at → accepts stamp.token at → Contains stamp.covers object →
      Proved accepts proves stamps now object (proves stamp.token)

-- none of the first `objects` objects has a later time
abbrev pub IsNoLater : ℕ → List ℤ → List ℤ → Type 0
IsNoLater objects earlier times = (object : ℕ) → object < objects → time earlier object ≤ℤ time times object

-- acceptance at a time gives acceptance at each earlier one, and under times that are no later
abbrev pub IsClosedDownwards : {T : Type 0} → ℕ → (List ℤ → T → ℤ → Type 0) → Type 0
IsClosedDownwards {T} objects accepts =
    (times earlier : List ℤ) (token : T) (at before : ℤ) →
    IsNoLater objects earlier times → before ≤ℤ at → accepts times token at → accepts earlier token before
