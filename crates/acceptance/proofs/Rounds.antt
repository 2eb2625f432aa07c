-- The rounds reach the earliest times, in at most as many rounds as there are stamps.
use Rattle.std.proofs.Common.{◌≡◌, ℕ, zero, suc, ◌+◌, ◌<◌, ◌≤◌, Bool, true, false, ◌&&◌, cond, if◌then◌else◌, ◌⊎◌, List, [], ◌∷◌, length, replicate, All, Contains, ℤ, pos, ◌≤ℤ◌, arith, refl, sym, ap, subst, ◌∙◌, inl, inr, ⊎_elim, IsTrue, int_le}
use Rattle.std.proofs.lemmas.Int.{ints}
use Rattle.std.proofs.lemmas.List.{get_or-replicate, length-replicate}
use Rattle.std.proofs.lemmas.List.Elements.{All-head, All-tail, All-cons, All-nil}
use Rattle.acceptance.specs.Walks.{time}
use Rattle.acceptance.specs.Times.{Stamp, IsOf, IsClosed, IsEarliest, IsNoLater, IsClosedDownwards}
use Rattle.acceptance.specs.Rounds.{lowered, judged, round, rounds, RoundsReachTheEarliest}
use Rattle.acceptance.proofs.Lowering.{Within, ≤ℤ_over, ≤ℤ_same, length-lowered, lowered_no_later, lowered_above, lowered_covers, lowered_same}

-- each covered object has a time up to the bound
abbrev pub is_met : ℤ → List ℕ → List ℤ → Bool
is_met bound [] times = true
is_met bound (y ∷ covers) times = int_le (time times y) bound && is_met bound covers times

pub le-test : (a b : ℤ) → int_le a b ≡ true → a ≤ℤ b
le-test a b h = grind (arith, ints)

pub le-tested : (a b : ℤ) → a ≤ℤ b → int_le a b ≡ true
le-tested a b h = grind (arith, ints)

pub and-left : (a b : Bool) → (a && b) ≡ true → a ≡ true
and-left a b h = grind arith

pub and-right : (a b : Bool) → (a && b) ≡ true → b ≡ true
and-right a b h = grind arith

pub and-both : (a b : Bool) → a ≡ true → b ≡ true → (a && b) ≡ true
and-both a b h k = grind arith

pub met-all : (bound : ℤ) (covers : List ℕ) (times : List ℤ) → is_met bound covers times ≡ true → All (λ y. time times y ≤ℤ bound) covers
met-all bound [] times h = All-nil (λ y. time times y ≤ℤ bound)
met-all bound (y ∷ covers) times h =
    All-cons (λ z. time times z ≤ℤ bound) y covers (le-test _ _ (and-left _ _ h)) (met-all bound covers times (and-right _ _ h))

pub all-met : (bound : ℤ) (covers : List ℕ) (times : List ℤ) → All (λ y. time times y ≤ℤ bound) covers → is_met bound covers times ≡ true
all-met bound [] times h = refl
all-met bound (y ∷ covers) times h =
    and-both _ _ (le-tested _ _ (All-head (λ z. time times z ≤ℤ bound) y covers h)) (all-met bound covers times (All-tail (λ z. time times z ≤ℤ bound) y covers h))

pub All-lower : (bound : ℤ) (covers : List ℕ) (objects : ℕ) (times earlier : List ℤ) → All (λ y. y < objects) covers → IsNoLater objects earlier times →
    All (λ y. time times y ≤ℤ bound) covers → All (λ y. time earlier y ≤ℤ bound) covers
All-lower bound covers objects times earlier inside no_later h k d lt = ≤ℤ_over _ _ _ (no_later _ (inside k d lt)) (h k d lt)

pub Contains-first : {X : Type 0} (x : X) (xs : List X) → Contains (x ∷ xs) x
Contains-first x xs = (0, omega arith, refl)

pub Contains-later : {X : Type 0} (x y : X) (xs : List X) → Contains xs y → Contains (x ∷ xs) y
Contains-later x y xs (k, lt, is) = (suc k, omega arith, is)

pub Contains-cases : {X : Type 0} (x y : X) (xs : List X) → Contains (x ∷ xs) y → (x ≡ y) ⊎ Contains xs y
Contains-cases x y xs (zero, lt, is) = inl is
Contains-cases x y xs (suc k, lt, is) = inr (k, omega arith, is)

module _ {T : Type 0} (proves : T → ℤ) where
  -- how many stamps haven't done their work
  abbrev pub unmet : List (Stamp T) → List ℤ → ℕ
  unmet [] times = 0
  unmet (stamp ∷ stamps) times = cond (is_met (proves stamp.token) stamp.covers times) 0 1 + unmet stamps times

  pub unmet-most : (stamps : List (Stamp T)) (times : List ℤ) → unmet stamps times ≤ length stamps
  unmet-most [] times = omega arith
  unmet-most (stamp ∷ stamps) times =
      let h = unmet-most stamps times in
      let b = is_met (proves stamp.token) stamp.covers times in
      let one : cond b 0 1 ≤ 1 = elim b as (λ v. cond v 0 1 ≤ 1) [ true ↦ omega arith | false ↦ omega arith ] in
      omega arith

  one_more : (b e : Bool) → (b ≡ true → e ≡ true) → cond e 0 1 ≤ cond b 0 1
  one_more true e h = rw (h refl) (omega arith)
  one_more false true h = omega arith
  one_more false false h = omega arith

  pub met-earlier : (objects : ℕ) (stamp : Stamp T) (times earlier : List ℤ) → IsOf objects stamp → IsNoLater objects earlier times →
      is_met (proves stamp.token) stamp.covers times ≡ true → is_met (proves stamp.token) stamp.covers earlier ≡ true
  met-earlier objects stamp times earlier is_of no_later h =
      all-met _ _ _ (All-lower _ stamp.covers objects times earlier is_of.1 no_later (met-all _ _ _ h))

  pub unmet-earlier : (objects : ℕ) (stamps : List (Stamp T)) (times earlier : List ℤ) → ((s : Stamp T) → Contains stamps s → IsOf objects s) →
      IsNoLater objects earlier times → unmet stamps earlier ≤ unmet stamps times
  unmet-earlier objects [] times earlier inside no_later = omega arith
  unmet-earlier objects (stamp ∷ stamps) times earlier inside no_later =
      let rest = unmet-earlier objects stamps times earlier (λ s has. inside s (Contains-later stamp s stamps has)) no_later in
      let first = one_more (is_met (proves stamp.token) stamp.covers times) (is_met (proves stamp.token) stamp.covers earlier)
      (met-earlier objects stamp times earlier (inside stamp (Contains-first stamp stamps)) no_later) in
      omega arith

  pub unmet-fewer : (objects : ℕ) (stamps : List (Stamp T)) (times earlier : List ℤ) → ((s : Stamp T) → Contains stamps s → IsOf objects s) →
      IsNoLater objects earlier times → (stamp : Stamp T) → Contains stamps stamp →
      is_met (proves stamp.token) stamp.covers times ≡ false → is_met (proves stamp.token) stamp.covers earlier ≡ true →
      unmet stamps earlier < unmet stamps times
  unmet-fewer objects [] times earlier inside no_later stamp (k, lt, is) before after = absurd (omega arith)
  unmet-fewer objects (s ∷ stamps) times earlier inside no_later stamp (zero, lt, is) before after =
      let rest = unmet-earlier objects stamps times earlier (λ r has. inside r (Contains-later s r stamps has)) no_later in
      let was : is_met (proves s.token) s.covers times ≡ false = rw is before in
      let now : is_met (proves s.token) s.covers earlier ≡ true = rw is after in
      rw (was, now) (omega arith)
  unmet-fewer objects (s ∷ stamps) times earlier inside no_later stamp (suc k, lt, is) before after =
      let rest = unmet-fewer objects stamps times earlier (λ r has. inside r (Contains-later s r stamps has)) no_later stamp (k, omega arith, is) before after in
      let first = one_more (is_met (proves s.token) s.covers times) (is_met (proves s.token) s.covers earlier)
      (met-earlier objects s times earlier (inside s (Contains-first s stamps)) no_later) in
      omega arith

module _ {T : Type 0} (accepts : List ℤ → T → ℤ → Bool) (proves : T → ℤ) where
  pub judged-met : (stamp : Stamp T) (times : List ℤ) → is_met (proves stamp.token) stamp.covers times ≡ true → judged accepts proves stamp times ≡ times
  unfolding judged
  judged-met stamp times met =
      elim (stamp.sound && accepts times stamp.token (time times stamp.object)) as (λ b. (if b then lowered (proves stamp.token) stamp.covers times else times) ≡ times)
      [ true ↦ lowered_same (proves stamp.token) stamp.covers times (met-all _ _ _ met) | false ↦ refl ]

  pub length-judged : (stamp : Stamp T) (times : List ℤ) → length (judged accepts proves stamp times) ≡ length times
  unfolding judged
  length-judged stamp times =
      elim (stamp.sound && accepts times stamp.token (time times stamp.object)) as (λ b. length (if b then lowered (proves stamp.token) stamp.covers times else times) ≡ length times)
      [ true ↦ length-lowered (proves stamp.token) stamp.covers times | false ↦ refl ]

  pub judged_no_later : (stamp : Stamp T) (times : List ℤ) → Within stamp.covers times → (x : ℕ) → time (judged accepts proves stamp times) x ≤ℤ time times x
  unfolding judged
  judged_no_later stamp times inside x =
      elim (stamp.sound && accepts times stamp.token (time times stamp.object)) as (λ b. time (if b then lowered (proves stamp.token) stamp.covers times else times) x ≤ℤ time times x)
      [ true ↦ lowered_no_later (proves stamp.token) stamp.covers times inside x | false ↦ ≤ℤ_same (time times x) ]

  -- a stamp that is sound and accepted has done its work once it is judged
  pub judged_covers : (stamp : Stamp T) (times : List ℤ) → Within stamp.covers times → IsTrue stamp.sound → IsTrue (accepts times stamp.token (time times stamp.object)) →
      All (λ y. time (judged accepts proves stamp times) y ≤ℤ proves stamp.token) stamp.covers
  unfolding judged
  judged_covers stamp times inside sound accepted = rw (sound, accepted) (lowered_covers (proves stamp.token) stamp.covers times inside)

  -- either nothing changes, or the stamp hadn't done its work and has done it now
  pub judged_cases : (stamp : Stamp T) (times : List ℤ) → Within stamp.covers times →
      (judged accepts proves stamp times ≡ times)
      ⊎ ((is_met (proves stamp.token) stamp.covers times ≡ false) × (is_met (proves stamp.token) stamp.covers (judged accepts proves stamp times) ≡ true))
  unfolding judged
  judged_cases stamp times inside =
      let test = stamp.sound && accepts times stamp.token (time times stamp.object) in
      let met = is_met (proves stamp.token) stamp.covers times in
      let Goal : Bool → Type 0 = λ b. ((if b then lowered (proves stamp.token) stamp.covers times else times) ≡ times)
      ⊎ ((met ≡ false) × (is_met (proves stamp.token) stamp.covers (if b then lowered (proves stamp.token) stamp.covers times else times) ≡ true)) in
      let split : (m : Bool) → met ≡ m → Goal true = λ m. elim m as (λ v. met ≡ v → Goal true) [
        | true ↦ λ e. inl (lowered_same (proves stamp.token) stamp.covers times (met-all _ _ _ e))
        | false ↦ λ e. inr (e, all-met _ _ _ (lowered_covers (proves stamp.token) stamp.covers times inside))
      ] in
      elim test as Goal [ true ↦ split met refl | false ↦ inl refl ]

module _ {T : Type 0} (accepts : List ℤ → T → ℤ → Bool) (proves : T → ℤ) (objects : ℕ) (now : ℤ)
    (down : IsClosedDownwards objects (λ times token at. IsTrue (accepts times token at)))
    (stamps : List (Stamp T)) (inside : (s : Stamp T) → Contains stamps s → IsOf objects s) where
  abbrev pub Sub : List (Stamp T) → Type 0
  Sub some = (s : Stamp T) → Contains some s → Contains stamps s

  -- as many times as objects, none after now, and each at least that of every closed list
  pub record IsGood (times : List ℤ) : Type 0 where
    pub each : length times ≡ objects
    pub by_now : (x : ℕ) → x < objects → time times x ≤ℤ now
    pub above : (closed : List ℤ) → IsClosed (λ times token at. IsTrue (accepts times token at)) proves stamps objects now closed →
        (x : ℕ) → x < objects → time closed x ≤ℤ time times x

  pub within : (stamp : Stamp T) (times : List ℤ) → Contains stamps stamp → length times ≡ objects → Within stamp.covers times
  within stamp times has each = let P : ℕ → Type 0 = λ n. All (λ y. y < n) stamp.covers in subst P (sym each) (inside stamp has).1

  pub judged_above : (stamp : Stamp T) (times : List ℤ) → Contains stamps stamp → IsGood times →
      (closed : List ℤ) → IsClosed (λ t token at. IsTrue (accepts t token at)) proves stamps objects now closed →
      (x : ℕ) → x < objects → time closed x ≤ℤ time (judged accepts proves stamp times) x
  unfolding judged
  judged_above stamp times has good closed is_closed x in_range =
      let test = stamp.sound && accepts times stamp.token (time times stamp.object) in
      let Goal : Bool → Type 0 = λ b. time closed x ≤ℤ time (if b then lowered (proves stamp.token) stamp.covers times else times) x in
      let split : (b : Bool) → test ≡ b → Goal b = λ b. elim b as (λ v. test ≡ v → Goal v) [
        | true ↦ λ e.
            let accepted : IsTrue (accepts closed stamp.token (time closed stamp.object)) =
            down times closed stamp.token (time times stamp.object) (time closed stamp.object) (good.above closed is_closed)
            (good.above closed is_closed stamp.object (inside stamp has).0) (and-right _ _ e) in
            lowered_above (proves stamp.token) stamp.covers times (within stamp times has good.each) (time closed)
            (is_closed.by_stamps stamp has (and-left _ _ e) accepted)
            (λ z ok. good.above closed is_closed z (rw good.each at ok)) x (rw good.each in_range)
        | false ↦ λ e. good.above closed is_closed x in_range
      ] in
      split test refl

  pub judged_good : (stamp : Stamp T) (times : List ℤ) → Contains stamps stamp → IsGood times → IsGood (judged accepts proves stamp times)
  judged_good stamp times has good = record {
    each = length-judged accepts proves stamp times ∙ good.each;
    by_now = λ x lt. ≤ℤ_over _ _ _ (judged_no_later accepts proves stamp times (within stamp times has good.each) x) (good.by_now x lt);
    above = judged_above stamp times has good;
  }

  rest_of : (stamp : Stamp T) (some : List (Stamp T)) → Sub (stamp ∷ some) → Sub some
  rest_of stamp some sub s has = sub s (Contains-later stamp s some has)

  first_of' : (stamp : Stamp T) (some : List (Stamp T)) → Sub (stamp ∷ some) → Contains stamps stamp
  first_of' stamp some sub = sub stamp (Contains-first stamp some)

  pub round_good : (some : List (Stamp T)) (times : List ℤ) → Sub some → IsGood times → IsGood (round accepts proves some times)
  unfolding round
  round_good [] times sub good = good
  round_good (stamp ∷ some) times sub good =
      judged_good stamp (round accepts proves some times) (first_of' stamp some sub) (round_good some times (rest_of stamp some sub) good)

  pub round_no_later : (some : List (Stamp T)) (times : List ℤ) → Sub some → IsGood times → (x : ℕ) → time (round accepts proves some times) x ≤ℤ time times x
  unfolding round
  round_no_later [] times sub good x = ≤ℤ_same (time times x)
  round_no_later (stamp ∷ some) times sub good x =
      let before = round accepts proves some times in
      let was : IsGood before = round_good some times (rest_of stamp some sub) good in
      ≤ℤ_over _ _ _ (judged_no_later accepts proves stamp before (within stamp before (first_of' stamp some sub) was.each) x)
      (round_no_later some times (rest_of stamp some sub) good x)

  -- after a round each stamp that was sound and accepted before it has done its work
  pub round_covers : (some : List (Stamp T)) (times : List ℤ) → Sub some → IsGood times → (stamp : Stamp T) → Contains some stamp → IsTrue stamp.sound →
      IsTrue (accepts times stamp.token (time times stamp.object)) → All (λ y. time (round accepts proves some times) y ≤ℤ proves stamp.token) stamp.covers
  unfolding round
  round_covers [] times sub good stamp (k, lt, is) sound accepted = absurd (omega arith)
  round_covers (s ∷ some) times sub good stamp has sound accepted =
      let before = round accepts proves some times in
      let was : IsGood before = round_good some times (rest_of s some sub) good in
      let Goal : Stamp T → Type 0 = λ r. All (λ y. time (judged accepts proves s before) y ≤ℤ proves r.token) r.covers in
      let has_s : Contains stamps s = first_of' s some sub in
      ⊎_elim
      (λ e.
      let sound' : IsTrue s.sound = rw e sound in
      let lower = round_no_later some times (rest_of s some sub) good in
      let accepted' : IsTrue (accepts times s.token (time times s.object)) = rw e accepted in
      let now' : IsTrue (accepts before s.token (time before s.object)) =
      down times before s.token (time times s.object) (time before s.object) (λ x lt. lower x) (lower s.object) accepted' in
      subst Goal e (judged_covers accepts proves s before (within s before has_s was.each) sound' now'))
      (λ later.
      All-lower (proves stamp.token) stamp.covers objects before (judged accepts proves s before) (inside stamp (sub stamp has)).1
      (λ x lt. judged_no_later accepts proves s before (within s before has_s was.each) x)
      (round_covers some times (rest_of s some sub) good stamp later sound accepted))
      (Contains-cases s stamp some has)

  pub round_cases : (some : List (Stamp T)) (times : List ℤ) → Sub some → IsGood times →
      (round accepts proves some times ≡ times) ⊎ (unmet proves stamps (round accepts proves some times) < unmet proves stamps times)
  unfolding round
  round_cases [] times sub good = inl refl
  round_cases (stamp ∷ some) times sub good =
      let before = round accepts proves some times in
      let was : IsGood before = round_good some times (rest_of stamp some sub) good in
      let has : Contains stamps stamp = first_of' stamp some sub in
      let after = judged accepts proves stamp before in
      let lower : IsNoLater objects after before = λ x lt. judged_no_later accepts proves stamp before (within stamp before has was.each) x in
      let step : (after ≡ before) ⊎ (unmet proves stamps after < unmet proves stamps before) =
      ⊎_elim (λ e. inl e) (λ p. inr (unmet-fewer proves objects stamps before after inside lower stamp has p.0 p.1))
      (judged_cases accepts proves stamp before (within stamp before has was.each)) in
      let earlier = round_cases some times (rest_of stamp some sub) good in
      ⊎_elim
      (λ same. ⊎_elim (λ e. inl (same ∙ e)) (λ lt. inr (let P : List ℤ → Type 0 = λ t. unmet proves stamps t < unmet proves stamps times in subst P (sym same) lt)) earlier)
      (λ fewer. ⊎_elim
      (λ e. inr (let P : List ℤ → Type 0 = λ t. unmet proves stamps after < unmet proves stamps t in subst P e fewer))
      (λ lt. inr (omega arith)) earlier)
      step

  all : Sub stamps
  all s has = has

  pub rounds_good : (count : ℕ) (times : List ℤ) → IsGood times → IsGood (rounds accepts proves stamps count times)
  unfolding rounds
  rounds_good zero times good = good
  rounds_good (suc count) times good = round_good stamps (rounds accepts proves stamps count times) all (rounds_good count times good)

  pub rounds_cases : (count : ℕ) (times : List ℤ) → IsGood times →
      (round accepts proves stamps (rounds accepts proves stamps count times) ≡ rounds accepts proves stamps count times)
      ⊎ (unmet proves stamps (rounds accepts proves stamps count times) + count ≤ unmet proves stamps times)
  unfolding rounds
  rounds_cases zero times good = inr (omega arith)
  rounds_cases (suc count) times good =
      let here = rounds accepts proves stamps count times in
      let was : IsGood here = rounds_good count times good in
      ⊎_elim
      (λ stable. inl (ap (round accepts proves stamps) stable))
      (λ counted. ⊎_elim (λ stable. inl (ap (round accepts proves stamps) stable)) (λ fewer. inr (omega arith)) (round_cases stamps here all was))
      (rounds_cases count times good)

  -- where a round changes nothing, the times are the earliest
  pub stable_is_earliest : (times : List ℤ) → IsGood times → round accepts proves stamps times ≡ times →
      IsEarliest (λ t token at. IsTrue (accepts t token at)) proves stamps objects now times
  stable_is_earliest times good stable = record {
    closed = record {
      each = good.each;
      by_now = good.by_now;
      by_stamps = λ stamp has sound accepted.
          let P : List ℤ → Type 0 = λ t. All (λ y. time t y ≤ℤ proves stamp.token) stamp.covers in
          subst P stable (round_covers stamps times all good stamp has sound accepted);
    };
    greatest = λ other is_closed. good.above other is_closed;
  }

  pub rounds_stable : (times : List ℤ) → IsGood times →
      round accepts proves stamps (rounds accepts proves stamps (length stamps) times) ≡ rounds accepts proves stamps (length stamps) times
  rounds_stable times good =
      let reached = rounds accepts proves stamps (length stamps) times in
      let was : IsGood reached = rounds_good (length stamps) times good in
      let most = unmet-most proves stamps times in
      ⊎_elim
      (λ stable. stable)
      (λ counted. ⊎_elim (λ stable. stable) (λ fewer. absurd (omega arith)) (round_cases stamps reached all was))
      (rounds_cases (length stamps) times good)

  pub time-flat : (n x : ℕ) → x < n → time (replicate n now) x ≡ now
  time-flat n x lt = get_or-replicate n x now (pos 0) lt

  pub flat_good : IsGood (replicate objects now)
  flat_good = record {
    each = length-replicate objects now;
    by_now = λ x lt. rw (time-flat objects x lt) (≤ℤ_same now);
    above = λ closed is_closed x lt. rw (time-flat objects x lt) (is_closed.by_now x lt);
  }

pub rounds_reach_the_earliest : (T : Type 0) → RoundsReachTheEarliest T
rounds_reach_the_earliest T accepts proves stamps objects now down inside =
    let good = flat_good accepts proves objects now down stamps inside in
    let stable = rounds_stable accepts proves objects now down stamps inside (replicate objects now) good in
    let reached = rounds_good accepts proves objects now down stamps inside (length stamps) (replicate objects now) good in
    (stable_is_earliest accepts proves objects now down stamps inside (rounds accepts proves stamps (length stamps) (replicate objects now)) reached stable, stable)
