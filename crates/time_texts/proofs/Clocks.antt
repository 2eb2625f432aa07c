-- The text of a time names it.
use Rattle.std.proofs.Common.{◌≡◌, refl, sym, subst, ℕ, zero, suc, arith, ℤ, pos, true, false, cond, ◌+◌, ◌-◌, ◌≤◌, ◌<◌, ◌/◌, ◌+ℤ◌, ◌-ℤ◌}
use Rattle.std.specs.Prelude.{nat_le}
use Rattle.std.proofs.lemmas.Bool.{leb-true, leb-false}
use Rattle.jiff_core.specs.declared.civil.date.Date.{Date}
use Rattle.jiff_core.specs.Calendar.{day_count, days_in_month, days_in_year}
use Rattle.jiff_core.specs.Date.{epoch_day}
use Rattle.jiff_core.proofs.CalendarLemmas.{day_count-day, day_count-end, day_count-last_of_year, day_count-next_month, day_count-next_year, days_from_civil-day_count}
use Rattle.jiff_core.proofs.SignedLemmas.{signed_arith}
use Rattle.utc_times.proofs.YearLemmas.{not_negative, time_of-parts}
use Rattle.time_texts.specs.Clock.{clock, day_of, from_year_0, month_by, year_by, ClockTellsTheTime, IsOfYears, TimesHaveOneText}
use Rattle.time_texts.proofs.TextsOfTimes.{day_count-zero, time_once, time_within}

-- a day of a year below n
record IsInYear (n day year : ℕ) : Type 0 where
  below : year < n
  begun : day_count (pos year) 1 1 ≤ day
  ended : day < day_count (pos year) 1 1 + days_in_year (pos year)

year_found : (n day : ℕ) → day_count (pos 0) 1 1 ≤ day → day < day_count (pos n) 1 1 → IsInYear n day (year_by n day)
unfolding year_by
year_found zero day low high = absurd (omega (arith, low, high))
year_found (suc n) day low high =
    elim (nat_le (day_count (pos n) 1 1) day) as (λ b. nat_le (day_count (pos n) 1 1) day ≡ b → IsInYear (suc n) day (cond b n (year_by n day))) [
      | true ↦ λ q.
          let next = day_count-next_year (pos n) (pos (suc n)) (omega (arith, signed_arith)) (omega (arith, signed_arith)) in
          record { below = omega arith; begun = leb-true _ _ q; ended = omega (arith, high, next) }
      | false ↦ λ q.
          let found = year_found n day low (leb-false _ _ q) in
          record { below = omega (arith, found.below); begun = found.begun; ended = found.ended }
    ] refl

-- a day of one of the first n months of a year
record IsInMonth (year n day month : ℕ) : Type 0 where
  first : 1 ≤ month
  among : month ≤ n
  begun : day_count (pos year) month 1 ≤ day
  ended : day < day_count (pos year) month 1 + days_in_month (pos year) month

next_month : (year k : ℕ) → day_count (pos year) (suc (suc k)) 1 ≡ day_count (pos year) (suc k) 1 + days_in_month (pos year) (suc k)
next_month year k =
    let P : ℕ → Type 0 = λ m. day_count (pos year) m 1 ≡ day_count (pos year) (suc k) 1 + days_in_month (pos year) (suc k) in
    let same : suc k + 1 ≡ suc (suc k) = omega arith in
    subst P same (day_count-next_month (pos year) (suc k) (omega arith))

month_found : (n year day : ℕ) → day_count (pos year) 1 1 ≤ day → 1 ≤ n → day < day_count (pos year) n 1 + days_in_month (pos year) n → IsInMonth year n day (month_by n year day)
unfolding month_by
month_found zero year day low some high = absurd (omega (arith, some))
month_found (suc zero) year day low some high =
    elim (nat_le (day_count (pos year) 1 1) day) as (λ b. nat_le (day_count (pos year) 1 1) day ≡ b → IsInMonth year 1 day (cond b 1 0)) [
      | true ↦ λ q. record { first = omega arith; among = omega arith; begun = low; ended = high }
      | false ↦ λ q. absurd (omega (arith, low, leb-false _ _ q))
    ] refl
month_found (suc (suc k)) year day low some high =
    elim (nat_le (day_count (pos year) (suc (suc k)) 1) day) as (λ b. nat_le (day_count (pos year) (suc (suc k)) 1) day ≡ b → IsInMonth year (suc (suc k)) day (cond b (suc (suc k)) (month_by (suc k) year day))) [
      | true ↦ λ q. record { first = omega arith; among = omega arith; begun = leb-true _ _ q; ended = high }
      | false ↦ λ q.
          let next = next_month year k in
          let found = month_found (suc k) year day low (omega arith) (omega (arith, leb-false _ _ q, next)) in
          record { first = found.first; among = omega (arith, found.among); begun = found.begun; ended = found.ended }
    ] refl

-- the days of a year are those of its months
to_december : (year day : ℕ) → day < day_count (pos year) 1 1 + days_in_year (pos year) → day < day_count (pos year) 12 1 + days_in_month (pos year) 12
to_december year day late = omega (arith, late, day_count-last_of_year (pos year), day_count-day (pos year) 12 31 1 (omega arith) (omega arith))

-- the date of a day
abbrev date_in : (day year month : ℕ) → IsInYear 10_000 day year → IsInMonth year 12 day month → Date
date_in day year month y m = record {
  year = pos year;
  month = month;
  day = day - day_count (pos year) month 1 + 1;
  year_in = omega (arith, signed_arith, y.below);
  month_in = (m.first, m.among);
  day_in = (omega arith, omega (arith, m.begun, m.ended));
}

-- the day and the second of a time, together
counted : (day count : ℕ) (year month : ℕ) (y : IsInYear 10_000 day year) (m : IsInMonth year 12 day month) → day ≡ count / 86_400 + 3_652_425
    → epoch_day (date_in day year month y m) ≡ pos (count / 86_400) -ℤ pos 719_528
counted day count year month y m e =
    let first = days_from_civil-day_count (pos year) month (day - day_count (pos year) month 1 + 1) in
    let within = day_count-day (pos year) month (day - day_count (pos year) month 1 + 1) 1 (omega arith) (omega arith) in
    omega (arith, signed_arith, e, first, within, m.begun)

in_years : (time : ℤ) → IsOfYears time → (day_count (pos 0) 1 1 ≤ day_of time) × (day_of time < day_count (pos 10_000) 1 1) × (time +ℤ pos 62_167_219_200 ≡ pos (from_year_0 time))
in_years time range =
    let is : time +ℤ pos 62_167_219_200 ≡ pos (from_year_0 time) = not_negative (time +ℤ pos 62_167_219_200) (omega (arith, signed_arith, range)) in
    (omega (arith, day_count-zero), omega (arith, signed_arith, is, range, day_count-end), is)

pub clock_tells_the_time : ClockTellsTheTime
unfolding clock
clock_tells_the_time time range =
    let day : ℕ = day_of time in
    let within = in_years time range in
    let year : ℕ = year_by 10_000 day in
    let y = year_found 10_000 day within.0 within.1 in
    let month : ℕ = month_by 12 year day in
    let m = month_found 12 year day y.begun (omega arith) (to_december year day y.ended) in
    let date = date_in day year month y m in
    time_of-parts date time (from_year_0 time) (sym within.2) (counted day (from_year_0 time) year month y m refl) (omega (arith, signed_arith))

pub times_have_one_text : TimesHaveOneText
times_have_one_text text time e = time_once text (clock time) time e (clock_tells_the_time time (time_within text time e))
