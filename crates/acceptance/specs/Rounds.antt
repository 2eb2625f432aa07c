-- How the earliest times are reached: in rounds that judge the stamps from last to first.
use Rattle.std.specs.Prelude.{◌≡◌, ℕ, zero, suc, Bool, ◌&&◌, List, [], ◌∷◌, length, replicate, Contains, slice_set, ℤ, IsTrue, if◌then◌else◌}
use Rattle.std.specs.Int.{int_min}
use Rattle.acceptance.specs.Walks.{time}
use Rattle.acceptance.specs.Times.{Stamp, IsOf, IsEarliest, IsClosedDownwards}

-- the times where nothing that is covered has a time after the bound
unfoldable pub lowered : ℤ → List ℕ → List ℤ → List ℤ
lowered bound [] times = times
lowered bound (y ∷ covers) times = lowered bound covers (slice_set times y (int_min (time times y) bound))

-- a stamp is judged: it does its work where it is sound and accepted at its token's present time
unfoldable pub judged : {T : Type 0} → (List ℤ → T → ℤ → Bool) → (T → ℤ) → Stamp T → List ℤ → List ℤ
judged accepts proves stamp times =
    if stamp.sound && accepts times stamp.token (time times stamp.object) then lowered (proves stamp.token) stamp.covers times else times

-- a round judges the last stamp first
unfoldable pub round : {T : Type 0} → (List ℤ → T → ℤ → Bool) → (T → ℤ) → List (Stamp T) → List ℤ → List ℤ
round accepts proves [] times = times
round accepts proves (stamp ∷ stamps) times = judged accepts proves stamp (round accepts proves stamps times)

unfoldable pub rounds : {T : Type 0} → (List ℤ → T → ℤ → Bool) → (T → ℤ) → List (Stamp T) → ℕ → List ℤ → List ℤ
rounds accepts proves stamps zero times = times
rounds accepts proves stamps (suc count) times = round accepts proves stamps (rounds accepts proves stamps count times)

-- As many rounds as there are stamps, from the moment for every object, reach the earliest times, and a further round changes nothing.
abbrev pub RoundsReachTheEarliest : Type 0 → Type 0
RoundsReachTheEarliest T =
    (accepts : List ℤ → T → ℤ → Bool) (proves : T → ℤ) (stamps : List (Stamp T)) (objects : ℕ) (now : ℤ) →
    IsClosedDownwards objects (λ times token at. IsTrue (accepts times token at)) →
    ((stamp : Stamp T) → Contains stamps stamp → IsOf objects stamp) →
    (let reached = rounds accepts proves stamps (length stamps) (replicate objects now) in
    IsEarliest (λ times token at. IsTrue (accepts times token at)) proves stamps objects now reached
    × (round accepts proves stamps reached ≡ reached))
