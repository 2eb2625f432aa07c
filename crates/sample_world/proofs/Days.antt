-- The date of a day, by the library's date.
use Rattle.std.proofs.Common.{◌≡◌, refl, subst, ℕ, zero, suc, arith, ℤ, pos, negsuc, true, false, cond, ◌+◌, ◌-◌, ◌≤◌, ◌<◌, neg_ℤ, ◌≤ℤ◌, ◌/◌, ◌%◌, ◌+ℤ◌, ◌-ℤ◌, unsigned_abs}
use Rattle.std.specs.Prelude.{nat_le, nat_lt}
use Rattle.std.proofs.lemmas.Bool.{leb-true, leb-false, ltb-true, ltb-false}
use Rattle.std.proofs.lemmas.Int.{by_lt_z}
use Rattle.jiff_core.specs.declared.civil.date.Date.{Date}
use Rattle.jiff_core.specs.Calendar.{day_count, IsCivilDate}
use Rattle.jiff_core.specs.Date.{epoch_day}
use Rattle.jiff_core.proofs.SignedLemmas.{signed_arith}
use Rattle.jiff_core.proofs.MarchLemmas.{day_count-early}
use Rattle.jiff_core.proofs.CalendarLemmas.{day_count-lt_year, day_count-lt_month, day_count-day, day_count-day_of_year, days_from_civil-day_count}
use Rattle.jiff_core.proofs.DateLemmas.{civil}
use Rattle.sample_world.specs.Moments.{year_below, month_up_to, moment_of}

day_count-zero : day_count (pos 0) 1 1 ≡ 3_652_425
day_count-zero = day_count-early (pos 0) 9999 1 1 refl (omega arith) (omega arith) (omega arith)

-- a day of the year 0 or later
pub year_from_day : (d : Date) → neg_ℤ (pos 719_528) ≤ℤ epoch_day d → pos 0 ≤ℤ d.year
year_from_day d h = by_lt_z d.year (pos 0)
    (λ lt. let c : day_count d.year d.month d.day < day_count (pos 0) 1 1 = day_count-lt_year d.year d.month d.day (pos 0) 1 1 (civil d) (omega arith) lt in
    absurd (omega (arith, signed_arith, c, day_count-zero, days_from_civil-day_count d.year d.month d.day, h)))
    (λ le. le)

pub not_negative : (z : ℤ) → pos 0 ≤ℤ z → z ≡ pos (unsigned_abs z)
not_negative (pos n) h = refl
not_negative (negsuc n) h = absurd (omega (arith, signed_arith, h))

-- the day as a count
pub counted_day : (d : Date) (n : ℕ) → epoch_day d ≡ pos n -ℤ pos 719_528 → day_count d.year d.month d.day ≡ n + 3_652_425
counted_day d n e = omega (arith, signed_arith, e, days_from_civil-day_count d.year d.month d.day)

from_first : (y : ℤ) (m d : ℕ) → 1 ≤ d → day_count y 1 1 ≤ day_count y m d
from_first y m d low = omega (arith, day_count-day_of_year y m d low)

by_lt : {P : Type 0} (m n : ℕ) → (m < n → P) → (n ≤ m → P) → P
by_lt {P = P} m n less more = elim (nat_lt m n) as (λ b. nat_lt m n ≡ b → P) [ true ↦ λ q. less (ltb-true m n q) | false ↦ λ q. more (ltb-false m n q) ] refl

pub year_found : (y m d n : ℕ) → IsCivilDate (pos y) m d → y < n → year_below n (day_count (pos y) m d) ≡ y
unfolding year_below
year_found y m d zero is lt = absurd (omega (arith, lt))
year_found y m d (suc k) is lt =
    elim (nat_le (day_count (pos k) 1 1) (day_count (pos y) m d)) as (λ b. nat_le (day_count (pos k) 1 1) (day_count (pos y) m d) ≡ b → cond b k (year_below k (day_count (pos y) m d)) ≡ y) [
      | true ↦ λ q.
          let begun : day_count (pos k) 1 1 ≤ day_count (pos y) m d = leb-true _ _ q in
          let not_later : y < k → k ≡ y = λ less. absurd (omega (arith, begun, day_count-lt_year (pos y) m d (pos k) 1 1 is (omega arith) (omega (arith, signed_arith, less)))) in
          by_lt y k not_later (λ le. omega (arith, lt, le))
      | false ↦ λ q.
          let late : day_count (pos y) m d < day_count (pos k) 1 1 = leb-false _ _ q in
          by_lt y k (λ less. year_found y m d k is less)
          (λ le. let same : k ≡ y = omega (arith, lt, le) in let P : ℕ → Type 0 = λ j. day_count (pos y) m d < day_count (pos j) 1 1 in
          let first = subst P same late in absurd (omega (arith, first, from_first (pos y) m d is.2.0)))
    ] refl

pub month_found : (y m d n : ℕ) → IsCivilDate (pos y) m d → m ≤ n → month_up_to n y (day_count (pos y) m d) ≡ m
unfolding month_up_to
month_found y m d zero is le = absurd (omega (arith, le, is.1.0))
month_found y m d (suc k) is le =
    elim (nat_le (day_count (pos y) (suc k) 1) (day_count (pos y) m d)) as (λ b. nat_le (day_count (pos y) (suc k) 1) (day_count (pos y) m d) ≡ b → cond b (suc k) (month_up_to k y (day_count (pos y) m d)) ≡ m) [
      | true ↦ λ q.
          let begun : day_count (pos y) (suc k) 1 ≤ day_count (pos y) m d = leb-true _ _ q in
          by_lt m (suc k) (λ less. absurd (omega (arith, begun, day_count-lt_month (pos y) m d (suc k) 1 is (omega arith) less))) (λ ge. omega (arith, le, ge))
      | false ↦ λ q.
          let late : day_count (pos y) m d < day_count (pos y) (suc k) 1 = leb-false _ _ q in
          by_lt m (suc k) (λ less. month_found y m d k is (omega (arith, less)))
          (λ ge. let same : suc k ≡ m = omega (arith, le, ge) in let P : ℕ → Type 0 = λ j. day_count (pos y) m d < day_count (pos y) j 1 in
          let first = subst P same late in absurd (omega (arith, first, day_count-day (pos y) m d 1 is.2.0 (omega arith))))
    ] refl

-- the date of a day is the library's
pub date_found : (d : Date) (day : ℕ) → pos 0 ≤ℤ d.year → day_count d.year d.month d.day ≡ day
    → (year_below 10_000 day ≡ unsigned_abs d.year) × (month_up_to 12 (unsigned_abs d.year) day ≡ d.month)
    × (day - day_count (pos (unsigned_abs d.year)) d.month 1 + 1 ≡ d.day)
date_found d day low is =
    let y : d.year ≡ pos (unsigned_abs d.year) = not_negative d.year low in
    let P : ℤ → Type 0 = λ z. IsCivilDate z d.month d.day in
    let real : IsCivilDate (pos (unsigned_abs d.year)) d.month d.day = subst P y (civil d) in
    let Q : ℤ → Type 0 = λ z. day_count z d.month d.day ≡ day in
    let at : day_count (pos (unsigned_abs d.year)) d.month d.day ≡ day = subst Q y is in (
      rw (← at) (year_found (unsigned_abs d.year) d.month d.day 10_000 real (omega (arith, signed_arith, y, real.0))),
      rw (← at) (month_found (unsigned_abs d.year) d.month d.day 12 real real.1.1),
      omega (arith, at, day_count-day (pos (unsigned_abs d.year)) d.month d.day 1 real.2.0 (omega arith), real.2.0),
    )

-- the moment of a time, by the date of its day
pub moment_found : (d : Date) (seconds : ℤ) (count : ℕ) → pos count ≡ seconds +ℤ pos 62_167_219_200
    → epoch_day d ≡ pos (count / 86_400) -ℤ pos 719_528 → pos 0 ≤ℤ d.year
    → moment_of seconds ≡ record {
      year = unsigned_abs d.year;
      month = d.month;
      day = d.day;
      hour = count % 86_400 / 3600;
      minute = count % 86_400 / 60 % 60;
      second = count % 86_400 % 60;
    }
unfolding moment_of
moment_found d seconds count is on low =
    let found = date_found d (count / 86_400 + 3_652_425) low (counted_day d (count / 86_400) on) in
    rw (← is, found.0, found.1, found.2) refl
