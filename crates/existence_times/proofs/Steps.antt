-- Steps of the loops over covered objects and over stamps.
use Rattle.std.proofs.Common.{◌≡◌, ℕ, zero, suc, ◌+◌, ◌-◌, ◌<◌, ◌≤◌, List, [], ◌∷◌, length, map, drop, set, get_or, slice_get, Some, ℤ, ◌≤ℤ◌, arith, refl, sym, ap, ◌∙◌, drop-cons, add-one, Bool, true, false, ◌&&◌, if◌then◌else◌, All, subst, IsTrue, ◌↔◌, true≢false}
use Rattle.std.proofs.lemmas.List.{at_drop_all}
use Rattle.std.proofs.lemmas.List.Elements.{All-head, All-tail, All-cons, All-nil}
use Rattle.std.specs.Int.{int_min}
use Rattle.policy_rules.specs.Rules.{Rules}
use Rattle.acceptance.specs.Certificates.{Part}
use Rattle.acceptance.specs.Stamping.{IsTokenAccepted}
use Rattle.acceptance.specs.Tokens.{Token}
use Rattle.acceptance.specs.Walks.{time}
use Rattle.acceptance.specs.Times.{Stamp as PlainStamp}
use Rattle.acceptance.specs.Rounds.{lowered, judged, round}
use Rattle.acceptance.proofs.Rounds.{judged-met, all-met}
use Rattle.acceptance.proofs.Cases.{token_test, test_to, test_from}
use Rattle.cert_paths.specs.declared.object.ObjectId.{ObjectId}
use Rattle.existence_times.specs.Kept.{number_of}

lowered-cons : (bound : ℤ) (y : ℕ) (covers : List ℕ) (times : List ℤ) →
    lowered bound (y ∷ covers) times ≡ lowered bound covers (set times y (int_min (time times y) bound))
unfolding lowered
lowered-cons bound y covers times = refl

pub lowered-none : (bound : ℤ) (covers : List ObjectId) (times : List ℤ) (i : ℕ) → length covers ≤ i → lowered bound (map number_of (drop i covers)) times ≡ times
unfolding lowered
lowered-none bound covers times i le = at_drop_all (λ l. lowered bound (map number_of l) times) covers i le

pub lower_step : (bound : ℤ) (covers : List ObjectId) (times after : List ℤ) (i : ℕ) → i < length covers →
    (let o = get_or covers i (record { number = 0 }) in after ≡ set times o.number (int_min (time times o.number) bound)) →
    lowered bound (map number_of (drop (i + 1) covers)) after ≡ lowered bound (map number_of (drop i covers)) times
lower_step bound covers times after i lt done =
    let o = get_or covers i (record { number = 0 }) in
    let split : drop i covers ≡ o ∷ drop (i + 1) covers = rw add-one (drop-cons covers i (record { number = 0 }) lt) in
    ap (lowered bound (map number_of (drop (i + 1) covers))) done
    ∙ sym (ap (λ (l : List ObjectId). lowered bound (map number_of l) times) split ∙ lowered-cons bound o.number (map number_of (drop (i + 1) covers)) times)

-- all of a list of numbers, by the objects
pub all_objects : (P : ℕ → Type 0) (covers : List ObjectId) → ((k : ℕ) (o : ObjectId) → slice_get covers k ≡ Some o → P o.number) → All P (map number_of covers)
all_objects P [] each = All-nil P
all_objects P (o ∷ covers) each = All-cons P o.number (map number_of covers) (each 0 o refl) (all_objects P covers (λ k x at. each (suc k) x at))

pub each_object : (P : ℕ → Type 0) (covers : List ObjectId) → All P (map number_of covers) → (k : ℕ) (o : ObjectId) → slice_get covers k ≡ Some o → P o.number
each_object P [] all k o at = cc
each_object P (x ∷ covers) all zero o at = subst (λ (y : ObjectId). P y.number) (let same : x ≡ o = cc in same) (All-head P x.number (map number_of covers) all)
each_object P (x ∷ covers) all (suc k) o at = each_object P covers (All-tail P x.number (map number_of covers) all) k o at

pub some_is : (covers : List ObjectId) (j k : ℕ) (o x : ObjectId) → j ≡ k → slice_get covers j ≡ Some o → slice_get covers k ≡ Some x → o ≡ x
some_is covers j k o x e at_j at_k = let same : Some o ≡ Some x = sym at_j ∙ ap (slice_get covers) e ∙ at_k in cc

-- an answer is the test
same_answer : (a b : Bool) → (IsTrue a → IsTrue b) → (IsTrue b → IsTrue a) → a ≡ b
same_answer true true f g = refl
same_answer false false f g = refl
same_answer true false f g = absurd (true≢false (sym (f refl)))
same_answer false true f g = absurd (true≢false (sym (g refl)))

pub answer_is : (pool : List Part) (policy : Rules) (times : List ℤ) (token : Token) (at : ℤ) (answer : Bool) → (IsTrue answer ↔ IsTokenAccepted pool policy times token at) →
    answer ≡ token_test pool policy times token at
answer_is pool policy times token at answer both =
    same_answer answer (token_test pool policy times token at) (λ h. test_from pool policy times token at (both.0 h)) (λ h. both.1 (test_to pool policy times token at h))

module _ {T : Type 0} (accepts : List ℤ → T → ℤ → Bool) (proves : T → ℤ) where
  pub judged-unsound : (stamp : PlainStamp T) (times : List ℤ) → stamp.sound ≡ false → judged accepts proves stamp times ≡ times
  unfolding judged
  judged-unsound stamp times sound = rw sound refl

  pub judged-no : (stamp : PlainStamp T) (times : List ℤ) → accepts times stamp.token (time times stamp.object) ≡ false → judged accepts proves stamp times ≡ times
  unfolding judged
  judged-no stamp times refused =
      rw refused (elim (stamp.sound) as (λ b. (if b && false then lowered (proves stamp.token) stamp.covers times else times) ≡ times) [ true ↦ refl | false ↦ refl ])

  pub judged-yes : (stamp : PlainStamp T) (times : List ℤ) → stamp.sound ≡ true → accepts times stamp.token (time times stamp.object) ≡ true →
      judged accepts proves stamp times ≡ lowered (proves stamp.token) stamp.covers times
  unfolding judged
  judged-yes stamp times sound accepted = rw (sound, accepted) refl

  pub met_step : (stamp : PlainStamp T) (times : List ℤ) (bound : ℤ) (covers : List ℕ) → bound ≡ proves stamp.token → covers ≡ stamp.covers →
      All (λ y. time times y ≤ℤ bound) covers → times ≡ judged accepts proves stamp times
  met_step stamp times bound covers b e met =
      let P : ℤ → Type 0 = λ z. All (λ y. time times y ≤ℤ z) stamp.covers in
      let Q : List ℕ → Type 0 = λ l. All (λ y. time times y ≤ℤ bound) l in
      sym (judged-met accepts proves stamp times (all-met (proves stamp.token) stamp.covers times (subst P b (subst Q e met))))

  pub yes_step : (stamp : PlainStamp T) (times after : List ℤ) (bound at : ℤ) (covers : List ℕ) (answer : Bool) → bound ≡ proves stamp.token → covers ≡ stamp.covers →
      at ≡ time times stamp.object → stamp.sound ≡ true → answer ≡ true → answer ≡ accepts times stamp.token at → after ≡ lowered bound covers times →
      after ≡ judged accepts proves stamp times
  yes_step stamp times after bound at covers answer b e a sound yes' is done =
      let accepted : accepts times stamp.token (time times stamp.object) ≡ true = ap (accepts times stamp.token) (sym a) ∙ sym is ∙ yes' in
      done ∙ ap (λ z. lowered z covers times) b ∙ ap (λ l. lowered (proves stamp.token) l times) e ∙ sym (judged-yes stamp times sound accepted)

  pub no_step : (stamp : PlainStamp T) (times : List ℤ) (at : ℤ) (answer : Bool) →
      at ≡ time times stamp.object → answer ≡ false → answer ≡ accepts times stamp.token at → times ≡ judged accepts proves stamp times
  no_step stamp times at answer a no' is =
      sym (judged-no stamp times (ap (accepts times stamp.token) (sym a) ∙ sym is ∙ no'))

round-cons : {T : Type 0} (accepts : List ℤ → T → ℤ → Bool) (proves : T → ℤ) (stamp : PlainStamp T) (stamps : List (PlainStamp T)) (times : List ℤ) →
    round accepts proves (stamp ∷ stamps) times ≡ judged accepts proves stamp (round accepts proves stamps times)
unfolding round
round-cons accepts proves stamp stamps times = refl

round-nil : {T : Type 0} (accepts : List ℤ → T → ℤ → Bool) (proves : T → ℤ) (times : List ℤ) → round accepts proves [] times ≡ times
unfolding round
round-nil accepts proves times = refl

module _ {T S : Type 0} (accepts : List ℤ → T → ℤ → Bool) (proves : T → ℤ) (stamp_of : S → PlainStamp T) where
  pub round_start : (stamps : List S) (start : List ℤ) → start ≡ round accepts proves (map stamp_of (drop (length stamps) stamps)) start
  round_start stamps start =
      sym (at_drop_all (λ l. round accepts proves (map stamp_of l) start) stamps (length stamps) (omega arith) ∙ round-nil accepts proves start)

  pub round_step : (stamps : List S) (left : ℕ) (s : S) (start times after : List ℤ) → 0 < left → left ≤ length stamps →
      s ≡ get_or stamps (left - 1) s → times ≡ round accepts proves (map stamp_of (drop left stamps)) start → after ≡ judged accepts proves (stamp_of s) times →
      after ≡ round accepts proves (map stamp_of (drop (left - 1) stamps)) start
  round_step stamps left s start times after some most is before done =
      let lt : left - 1 < length stamps = omega arith in
      let next : suc (left - 1) ≡ left = omega arith in
      let split : drop (left - 1) stamps ≡ s ∷ drop left stamps =
      drop-cons stamps (left - 1) s lt ∙ ap (λ x. x ∷ drop (suc (left - 1)) stamps) (sym is) ∙ ap (λ n. s ∷ drop n stamps) next in
      done ∙ ap (judged accepts proves (stamp_of s)) before
      ∙ sym (round-cons accepts proves (stamp_of s) (map stamp_of (drop left stamps)) start)
      ∙ ap (λ l. round accepts proves (map stamp_of l) start) (sym split)
