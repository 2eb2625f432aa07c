-- The rounds of the code reach the earliest times.
use Rattle.std.proofs.Common.{◌≡◌, ℕ, suc, ◌+◌, ◌≤◌, Bool, List, length, map, replicate, slice_get, Some, Contains, ℤ, IsTrue, arith, refl, sym, ap, subst, ◌∙◌}
use Rattle.std.proofs.lemmas.List.{length-map}
use Rattle.policy_rules.specs.Rules.{Rules}
use Rattle.acceptance.specs.Certificates.{Part}
use Rattle.acceptance.specs.Stamping.{IsTokenAccepted, proof_time}
use Rattle.acceptance.specs.Times.{Stamp as PlainStamp, IsOf, IsEarliest}
use Rattle.acceptance.specs.Tokens.{Token}
use Rattle.acceptance.specs.Rounds.{round, rounds}
use Rattle.acceptance.proofs.Rounds.{IsGood, flat_good, rounds_good, stable_is_earliest, rounds_reach_the_earliest}
use Rattle.acceptance.proofs.Cases.{token_test, test_to, test_from, test_down, earliest_as}
use Rattle.cert_paths.proofs.Numbers.{contained_at, got_map}
use Rattle.existence_times.specs.declared.rows.StampRow.{StampRow}
use Rattle.existence_times.specs.declared.rows.TokenRow.{TokenRow}
use Rattle.existence_times.specs.Kept.{row_stamp, IsStampKept}

pub rounds-more : {T : Type 0} (accepts : List ℤ → T → ℤ → Bool) (proves : T → ℤ) (stamps : List (PlainStamp T)) (count : ℕ) (start : List ℤ) →
    rounds accepts proves stamps (count + 1) start ≡ round accepts proves stamps (rounds accepts proves stamps count start)
unfolding rounds
rounds-more accepts proves stamps count start = let e : count + 1 ≡ suc count = omega arith in ap (λ n. rounds accepts proves stamps n start) e

pub rounds-none : {T : Type 0} (accepts : List ℤ → T → ℤ → Bool) (proves : T → ℤ) (stamps : List (PlainStamp T)) (start : List ℤ) →
    rounds accepts proves stamps 0 start ≡ start
unfolding rounds
rounds-none accepts proves stamps start = refl

module _ (pool : List Part) (policy : Rules) (tokens : List TokenRow) (rows : List StampRow) (now : ℤ)
    (kept : (k : ℕ) (row : StampRow) → slice_get rows k ≡ Some row → IsStampKept pool tokens row) where
  abbrev stamps : List (PlainStamp Token)
  stamps = map (row_stamp tokens) rows

  within : (s : PlainStamp Token) → Contains stamps s → IsOf (length pool) s
  within s has =
      let (k, at) = contained_at stamps s has in
      let (row, at_row, is) = got_map (row_stamp tokens) rows k s at in
      let ok = kept k row at_row in
      subst (IsOf (length pool)) is (ok.within, ok.covers)

  as_accepted : (times : List ℤ) → IsEarliest (λ t token at. IsTrue (token_test pool policy t token at)) (proof_time policy) stamps (length pool) now times →
      IsEarliest (IsTokenAccepted pool policy) (proof_time policy) stamps (length pool) now times
  as_accepted times h =
      earliest_as (λ t token at. IsTrue (token_test pool policy t token at)) (IsTokenAccepted pool policy) (test_to pool policy) (test_from pool policy) (proof_time policy) stamps (length pool) now times h

  pub at_the_end : (times : List ℤ) (count : ℕ) → length rows ≤ count → count ≤ length rows →
      times ≡ rounds (token_test pool policy) (proof_time policy) (map (row_stamp tokens) rows) count (replicate (length pool) now) →
      IsEarliest (IsTokenAccepted pool policy) (proof_time policy) (map (row_stamp tokens) rows) (length pool) now times
  at_the_end times count le ge is =
      let same : count ≡ length stamps = let e = length-map rows (row_stamp tokens) in omega arith in
      let P : List ℤ → Type 0 = λ t. IsEarliest (λ s token at. IsTrue (token_test pool policy s token at)) (proof_time policy) stamps (length pool) now t in
      as_accepted times (subst P (sym (is ∙ ap (λ n. rounds (token_test pool policy) (proof_time policy) stamps n (replicate (length pool) now)) same))
      (rounds_reach_the_earliest Token (token_test pool policy) (proof_time policy) stamps (length pool) now (test_down pool policy) within).0)

  pub when_stable : (times after : List ℤ) (count : ℕ) → times ≡ rounds (token_test pool policy) (proof_time policy) (map (row_stamp tokens) rows) count (replicate (length pool) now) →
      after ≡ round (token_test pool policy) (proof_time policy) (map (row_stamp tokens) rows) times → after ≡ times →
      IsEarliest (IsTokenAccepted pool policy) (proof_time policy) (map (row_stamp tokens) rows) (length pool) now after
  when_stable times after count is next same =
      let accepts = token_test pool policy in
      let proves = proof_time policy in
      let down = test_down pool policy in
      let P : List ℤ → Type 0 = IsGood accepts proves (length pool) now down stamps within in
      let Q : List ℤ → Type 0 = λ t. IsEarliest (λ s token at. IsTrue (accepts s token at)) proves stamps (length pool) now t in
      let good : P times = subst P (sym is)
      (rounds_good accepts proves (length pool) now down stamps within count (replicate (length pool) now) (flat_good accepts proves (length pool) now down stamps within)) in
      as_accepted after (subst Q (sym same) (stable_is_earliest accepts proves (length pool) now down stamps within times good (sym next ∙ same)))
