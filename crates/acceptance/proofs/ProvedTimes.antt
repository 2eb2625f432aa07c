-- The earliest times are the least proved ones.
use Rattle.std.proofs.Common.{◌≡◌, ℕ, zero, suc, ◌<◌, Bool, true, false, ◌&&◌, cond, if◌then◌else◌, ◌⊎◌, List, [], ◌∷◌, length, replicate, set, Contains, ℤ, pos, ◌≤ℤ◌, arith, refl, sym, ap, subst, ◌∙◌, inl, inr, ⊎_elim, IsTrue, get_or-set_other, int_lt}
use Rattle.std.proofs.lemmas.Int.{ints}
use Rattle.std.proofs.lemmas.Bool.{cases_eq}
use Rattle.std.proofs.lemmas.List.Elements.{All-head, All-tail, All-contains}
use Rattle.std.specs.Int.{int_min}
use Rattle.acceptance.specs.Walks.{time}
use Rattle.acceptance.specs.Times.{Stamp, IsOf, IsClosed, IsClosedDownwards, Proved, at_the_moment, by_a_stamp}
use Rattle.acceptance.specs.Rounds.{lowered, judged, round, rounds}
use Rattle.acceptance.specs.Laws.{EarliestIsTheLeastProved}
use Rattle.acceptance.proofs.Lowering.{Within, Within-set, time-set_same, ≤ℤ_same}
use Rattle.acceptance.proofs.Rounds.{IsGood, Sub, within, round_good, rounds_good, flat_good, time-flat, rounds_reach_the_earliest, Contains-first, Contains-later, and-left, and-right}

both-ways : (a b : ℤ) → a ≤ℤ b → b ≤ℤ a → a ≡ b
both-ways a b h k = omega (arith, ints)

int_min-cases : (a b : ℤ) → (int_min a b ≡ a) ⊎ (int_min a b ≡ b)
int_min-cases a b = elim (int_lt b a) as (λ t. (cond t b a ≡ a) ⊎ (cond t b a ≡ b)) [ true ↦ inr refl | false ↦ inl refl ]

-- a time that is lowered is the old one, or the bound at a covered object
lowered_cases : (bound : ℤ) (covers : List ℕ) (times : List ℤ) → Within covers times → (x : ℕ) →
    (time (lowered bound covers times) x ≡ time times x) ⊎ ((time (lowered bound covers times) x ≡ bound) × Contains covers x)
unfolding lowered
lowered_cases bound [] times inside x = inl refl
lowered_cases bound (y ∷ covers) times inside x =
    let v = int_min (time times y) bound in
    let lt : y < length times = All-head (λ z. z < length times) y covers inside in
    let rest : Within covers times = All-tail (λ z. z < length times) y covers inside in
    let after = time (lowered bound covers (set times y v)) x in
    ⊎_elim
    (λ same. ⊎_elim
    (λ e. ⊎_elim
    (λ old. inl (same ∙ time-set_same times y v x lt e ∙ old ∙ ap (time times) (sym e)))
    (λ new. inr (same ∙ time-set_same times y v x lt e ∙ new, rw e (Contains-first y covers)))
    (int_min-cases (time times y) bound))
    (λ ne. inl (same ∙ get_or-set_other times y x v (pos 0) ne))
    (cases_eq x y))
    (λ p. inr (p.0, Contains-later y x covers p.1))
    (lowered_cases bound covers (set times y v) (Within-set y v covers times rest) x)

module _ {T : Type 0} (accepts : List ℤ → T → ℤ → Bool) (proves : T → ℤ) (objects : ℕ) (now : ℤ)
    (down : IsClosedDownwards objects (λ times token at. IsTrue (accepts times token at)))
    (stamps : List (Stamp T)) (inside : (s : Stamp T) → Contains stamps s → IsOf objects s)
    (earliest : List ℤ) (closed : IsClosed (λ times token at. IsTrue (accepts times token at)) proves stamps objects now earliest) where
  -- each time is proved of its object
  abbrev pub AreProved : List ℤ → Type 0
  AreProved times = (x : ℕ) → x < objects → Proved (λ token at. IsTrue (accepts earliest token at)) proves stamps now x (time times x)

  judged_proved : (stamp : Stamp T) (times : List ℤ) → Contains stamps stamp → IsGood accepts proves objects now down stamps inside times → AreProved times → AreProved (judged accepts proves stamp times)
  unfolding judged
  judged_proved stamp times has good proved x lt =
      let test = stamp.sound && accepts times stamp.token (time times stamp.object) in
      let P : ℤ → Type 0 = λ u. Proved (λ token at. IsTrue (accepts earliest token at)) proves stamps now x u in
      let Goal : Bool → Type 0 = λ b. P (time (if b then lowered (proves stamp.token) stamp.covers times else times) x) in
      let split : (b : Bool) → test ≡ b → Goal b = λ b. elim b as (λ v. test ≡ v → Goal v) [
        | true ↦ λ e.
            let accepted : IsTrue (accepts earliest stamp.token (time times stamp.object)) =
            down times earliest stamp.token (time times stamp.object) (time times stamp.object) (good.above earliest closed)
            (≤ℤ_same (time times stamp.object)) (and-right _ _ e) in
            ⊎_elim
            (λ same. subst P (sym same) (proved x lt))
            (λ new. subst P (sym new.0) (by_a_stamp stamp (time times stamp.object) x has (and-left _ _ e) (proved stamp.object (inside stamp has).0) accepted new.1))
            (lowered_cases (proves stamp.token) stamp.covers times (within accepts proves objects now down stamps inside stamp times has good.each) x)
        | false ↦ λ e. proved x lt
      ] in
      split test refl

  round_proved : (some : List (Stamp T)) (times : List ℤ) → Sub accepts proves objects now down stamps inside some → IsGood accepts proves objects now down stamps inside times →
      AreProved times → AreProved (round accepts proves some times)
  unfolding round
  round_proved [] times sub good proved = proved
  round_proved (stamp ∷ some) times sub good proved =
      let rest = λ (s : Stamp T) (has : Contains some s). sub s (Contains-later stamp s some has) in
      judged_proved stamp (round accepts proves some times) (sub stamp (Contains-first stamp some))
      (round_good accepts proves objects now down stamps inside some times rest good) (round_proved some times rest good proved)

  rounds_proved : (count : ℕ) (times : List ℤ) → IsGood accepts proves objects now down stamps inside times → AreProved times → AreProved (rounds accepts proves stamps count times)
  unfolding rounds
  rounds_proved zero times good proved = proved
  rounds_proved (suc count) times good proved =
      round_proved stamps (rounds accepts proves stamps count times) (λ s has. has)
      (rounds_good accepts proves objects now down stamps inside count times good) (rounds_proved count times good proved)

  pub proved_least : {x : ℕ} {u : ℤ} → Proved (λ token at. IsTrue (accepts earliest token at)) proves stamps now x u → x < objects → time earliest x ≤ℤ u
  proved_least (at_the_moment x) lt = closed.by_now x lt
  proved_least (by_a_stamp stamp at x has sound proved accepted covers) lt =
      let le : time earliest stamp.object ≤ℤ at = proved_least proved (inside stamp has).0 in
      let now' : IsTrue (accepts earliest stamp.token (time earliest stamp.object)) =
      down earliest earliest stamp.token at (time earliest stamp.object) (λ z ok. ≤ℤ_same (time earliest z)) le accepted in
      All-contains (λ y. time earliest y ≤ℤ proves stamp.token) stamp.covers x (closed.by_stamps stamp has sound now') covers

pub earliest_is_the_least_proved : (T : Type 0) → EarliestIsTheLeastProved T
earliest_is_the_least_proved T accepts proves stamps objects now times down inside is_earliest object lt =
    let flat = replicate objects now in
    let good = flat_good accepts proves objects now down stamps inside in
    let reached = rounds accepts proves stamps (length stamps) flat in
    let other = (rounds_reach_the_earliest T accepts proves stamps objects now down inside).0 in
    let start = λ (x : ℕ) (ok : x < objects).
    let P : ℤ → Type 0 = λ u. Proved (λ token at. IsTrue (accepts times token at)) proves stamps now x u in
    subst P (sym (time-flat accepts proves objects now down stamps inside objects x ok)) (at_the_moment x) in
    let all = rounds_proved accepts proves objects now down stamps inside times is_earliest.closed (length stamps) flat good start in
    let same : time reached object ≡ time times object =
    both-ways _ _ (is_earliest.greatest reached other.closed object lt) (other.greatest times is_earliest.closed object lt) in
    let P : ℤ → Type 0 = λ u. Proved (λ token at. IsTrue (accepts times token at)) proves stamps now object u in (
      subst P same (all object lt),
      λ at h. proved_least accepts proves objects now down stamps inside times is_earliest.closed h lt,
    )
