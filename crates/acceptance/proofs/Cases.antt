-- The laws of times, for the acceptance of tokens by walks.
use Rattle.std.proofs.Common.{ℕ, ◌<◌, Bool, true, false, ◌↔◌, List, Contains, length, replicate, ℤ, ◌≤ℤ◌, refl, sym, inl, inr, IsTrue, true≢false}
use Rattle.acceptance.specs.Certificates.{Part}
use Rattle.policy_rules.specs.Rules.{Rules, AcceptsDigest, AcceptsKind}
use Rattle.acceptance.specs.Walks.{time, IsAccepted}
use Rattle.acceptance.specs.Tokens.{Token}
use Rattle.acceptance.specs.Stamping.{IsTokenAccepted, proof_time}
use Rattle.acceptance.specs.Times.{Stamp, IsClosed, IsEarliest, IsClosedDownwards, Proved, at_the_moment, by_a_stamp, IsOf}
use Rattle.acceptance.specs.Rounds.{rounds}
use Rattle.acceptance.specs.Verdict.{Case, AreEarliest}
use Rattle.acceptance.specs.Laws.{CasesHaveEarliestTimes, IsProvedOf, EarliestIsSomeProvedTime}
use Rattle.acceptance.proofs.Downwards.{acceptance_is_kept, token_acceptance_is_kept, AcceptsDigest-earlier, AcceptsKind-earlier, IsGrown-same}
use Rattle.acceptance.proofs.Lowering.{≤ℤ_same}
use Rattle.acceptance.proofs.Rounds.{rounds_reach_the_earliest}
use Rattle.acceptance.proofs.ProvedTimes.{earliest_is_the_least_proved}
use Rattle.acceptance.proofs.Decisions.{Decision, decide_token_accepted}

said : {P : Type 0} → Decision P → Bool
said d = elim d [ inl p ↦ true | inr q ↦ false ]

said_yes : {P : Type 0} (d : Decision P) → IsTrue (said d) → P
unfolding said
said_yes (inl p) h = p
said_yes (inr q) h = absurd (true≢false (sym h))

yes_said : {P : Type 0} (d : Decision P) → P → IsTrue (said d)
unfolding said
yes_said (inl p) h = refl
yes_said (inr q) h = absurd (q h)

module _ {T : Type 0} (accepts other : List ℤ → T → ℤ → Type 0) (to : (times : List ℤ) (token : T) (at : ℤ) → accepts times token at → other times token at)
    (from : (times : List ℤ) (token : T) (at : ℤ) → other times token at → accepts times token at)
    (proves : T → ℤ) (stamps : List (Stamp T)) (objects : ℕ) (now : ℤ) where
  pub closed_as : (times : List ℤ) → IsClosed accepts proves stamps objects now times → IsClosed other proves stamps objects now times
  closed_as times h = record {
    each = h.each;
    by_now = h.by_now;
    by_stamps = λ stamp has sound accepted. h.by_stamps stamp has sound (from times stamp.token (time times stamp.object) accepted);
  }

  closed_from : (times : List ℤ) → IsClosed other proves stamps objects now times → IsClosed accepts proves stamps objects now times
  closed_from times h = record {
    each = h.each;
    by_now = h.by_now;
    by_stamps = λ stamp has sound accepted. h.by_stamps stamp has sound (to times stamp.token (time times stamp.object) accepted);
  }

  pub earliest_as : (times : List ℤ) → IsEarliest accepts proves stamps objects now times → IsEarliest other proves stamps objects now times
  earliest_as times h = record {
    closed = closed_as times h.closed;
    greatest = λ t closed. h.greatest t (closed_from t closed);
  }

  proved_as : (times : List ℤ) {x : ℕ} {u : ℤ} → Proved (accepts times) proves stamps now x u → Proved (other times) proves stamps now x u
  proved_as times (at_the_moment x) = at_the_moment x
  proved_as times (by_a_stamp stamp at x has sound proved accepted covers) =
      by_a_stamp stamp at x has sound (proved_as times proved) (to times stamp.token at accepted) covers

-- the acceptance of tokens, as a test
pub token_test : List Part → Rules → List ℤ → Token → ℤ → Bool
token_test pool policy times token at = said (decide_token_accepted pool policy times token at)

pub test_to : (pool : List Part) (policy : Rules) (times : List ℤ) (token : Token) (at : ℤ) → IsTrue (token_test pool policy times token at) → IsTokenAccepted pool policy times token at
unfolding token_test
test_to pool policy times token at h = said_yes (decide_token_accepted pool policy times token at) h

pub test_from : (pool : List Part) (policy : Rules) (times : List ℤ) (token : Token) (at : ℤ) → IsTokenAccepted pool policy times token at → IsTrue (token_test pool policy times token at)
unfolding token_test
test_from pool policy times token at h = yes_said (decide_token_accepted pool policy times token at) h

pub test_down : (pool : List Part) (policy : Rules) → IsClosedDownwards (length pool) (λ times token at. IsTrue (token_test pool policy times token at))
test_down pool policy times earlier token at before no_later le h =
    test_from pool policy earlier token before
    (token_acceptance_is_kept pool pool policy times earlier token at before (IsGrown-same pool) no_later le (test_to pool policy times token at h))

pub cases_have_earliest_times : CasesHaveEarliestTimes
cases_have_earliest_times policy case now inside =
    let reached = rounds (token_test case.pool policy) (proof_time policy) case.stamps (length case.stamps) (replicate (length case.pool) now) in
    let found = (rounds_reach_the_earliest Token (token_test case.pool policy) (proof_time policy) case.stamps (length case.pool) now (test_down case.pool policy) inside).0 in (
      reached,
      earliest_as (λ times token at. IsTrue (token_test case.pool policy times token at)) (IsTokenAccepted case.pool policy)
          (test_to case.pool policy) (test_from case.pool policy) (proof_time policy) case.stamps (length case.pool) now reached found,
    )

-- the earliest time of an object is proved of it
pub times_are_proved : (policy : Rules) (case : Case) (now : ℤ) (times : List ℤ) → ((stamp : Stamp Token) → Contains case.stamps stamp → IsOf (length case.pool) stamp) →
    AreEarliest policy case now times → (object : ℕ) → object < length case.pool → IsProvedOf policy case now times object (time times object)
times_are_proved policy case now times inside is_earliest object lt =
    let pool = case.pool in
    let test = token_test pool policy in
    let as_test = earliest_as (IsTokenAccepted pool policy) (λ t token at. IsTrue (test t token at)) (test_from pool policy) (test_to pool policy)
    (proof_time policy) case.stamps (length pool) now times is_earliest in
    let least = earliest_is_the_least_proved Token test (proof_time policy) case.stamps (length pool) now times (test_down pool policy) inside as_test object lt in
    proved_as (λ t token at. IsTrue (test t token at)) (IsTokenAccepted pool policy) (test_to pool policy) (test_from pool policy) (proof_time policy) case.stamps (length pool) now times least.0

some_proved : (P : ℤ → Type 0) (IsProved : ℤ → Type 0) (least : ℤ) → ((at before : ℤ) → before ≤ℤ at → P at → P before) → IsProved least →
    ((at : ℤ) → IsProved at → least ≤ℤ at) → (P least ↔ ((at : ℤ) × IsProved at × P at))
some_proved P IsProved least down proved below = (λ p. (least, proved, p), λ h. let (at, is, p) = h in down at least (below at is) p)

pub earliest_is_some_proved_time : EarliestIsSomeProvedTime
earliest_is_some_proved_time policy case now times inside is_earliest object lt =
    let pool = case.pool in
    let test = token_test pool policy in
    let as_test = earliest_as (IsTokenAccepted pool policy) (λ t token at. IsTrue (test t token at)) (test_from pool policy) (test_to pool policy)
    (proof_time policy) case.stamps (length pool) now times is_earliest in
    let least = earliest_is_the_least_proved Token test (proof_time policy) case.stamps (length pool) now times (test_down pool policy) inside as_test object lt in
    let proved : IsProvedOf policy case now times object (time times object) =
    proved_as (λ t token at. IsTrue (test t token at)) (IsTokenAccepted pool policy) (test_to pool policy) (test_from pool policy) (proof_time policy) case.stamps (length pool) now times least.0 in
    let below : (at : ℤ) → IsProvedOf policy case now times object at → time times object ≤ℤ at =
    λ at h. least.1 at (proved_as (IsTokenAccepted pool policy) (λ t token u. IsTrue (test t token u)) (test_from pool policy) (test_to pool policy) (proof_time policy) case.stamps (length pool) now times h) in
    let same = λ (x : ℕ) (ok : x < length pool). ≤ℤ_same (time times x) in
    record {
      digest = λ kind. some_proved (AcceptsDigest policy kind) (IsProvedOf policy case now times object) (time times object) (λ at before le h. AcceptsDigest-earlier policy kind at before le h) proved below;
      kind = λ kind. some_proved (AcceptsKind policy kind) (IsProvedOf policy case now times object) (time times object) (λ at before le h. AcceptsKind-earlier policy kind at before le h) proved below;
      token = λ token. some_proved (IsTokenAccepted pool policy times token) (IsProvedOf policy case now times object) (time times object)
          (λ at before le h. token_acceptance_is_kept pool pool policy times times token at before (IsGrown-same pool) same le h) proved below;
      certificate = λ leaf low there. some_proved (IsAccepted pool policy times leaf low) (IsProvedOf policy case now times object) (time times object)
          (λ at before le h. acceptance_is_kept pool pool policy times times leaf low at before (IsGrown-same pool) same le there h) proved below;
    }
