use Rattle.std.proofs.Common.{◌≡◌, refl, ◌∙◌, ap, subst, ℕ, arith, ℤ, pos, negsuc, true, ◌≤◌, neg_ℤ, ◌≤ℤ◌, ◌<◌, ◌/◌, ◌%◌, ◌+ℤ◌, ◌-ℤ◌, Some, unsigned_abs}
use Rattle.utc_times.specs.TimeText.{time_of, time_list, seconds_of, is_real}
use Rattle.utc_times.proofs.TextLemmas.{time_of-time_list}
use Rattle.std.proofs.lemmas.Bool.{le-leb}
use Rattle.std.proofs.lemmas.Int.{by_lt_z}
use Rattle.jiff_core.specs.declared.civil.date.Date.{Date}
use Rattle.jiff_core.specs.Calendar.{day_count, days_in_month}
use Rattle.jiff_core.specs.Date.{epoch_day}
use Rattle.jiff_core.proofs.SignedLemmas.{signed_arith}
use Rattle.jiff_core.proofs.MarchLemmas.{day_count-early}
use Rattle.jiff_core.proofs.CalendarLemmas.{day_count-lt_year, days_from_civil-day_count, days_in_month_bounds}
use Rattle.jiff_core.proofs.DateLemmas.{civil}

day_count-zero : day_count (pos 0) 1 1 ≡ 3_652_425
day_count-zero = day_count-early (pos 0) 9999 1 1 refl (omega arith) (omega arith) (omega arith)

-- a day of the year 0 or later
pub year_from_day : (d : Date) → neg_ℤ (pos 719_528) ≤ℤ epoch_day d → pos 0 ≤ℤ d.year
year_from_day d h = by_lt_z d.year (pos 0)
    (λ lt. let c : day_count d.year d.month d.day < day_count (pos 0) 1 1 = day_count-lt_year d.year d.month d.day (pos 0) 1 1 (civil d) (omega arith) lt in
    absurd (omega (arith, signed_arith, c, day_count-zero, days_from_civil-day_count d.year d.month d.day, h)))
    (λ le. le)

pub not_negative : (z : ℤ) → pos 0 ≤ℤ z → z ≡ pos (unsigned_abs z)
not_negative (pos n) h = refl
not_negative (negsuc n) h = absurd (omega (arith, signed_arith, h))

real : (y m d h n s : ℕ) → 1 ≤ m → m ≤ 12 → 1 ≤ d → d ≤ days_in_month (pos y) m → h ≤ 23 → n ≤ 59 → s ≤ 59
    → is_real y m d h n s ≡ true
real y m d h n s m1 m2 d1 d2 h2 n2 s2 =
    rw (le-leb _ _ m1, le-leb _ _ m2, le-leb _ _ d1, le-leb _ _ d2, le-leb _ _ h2, le-leb _ _ n2, le-leb _ _ s2) refl

-- the text of a date and of a count of seconds since 0000-01-01T00:00:00
pub time_of-parts : (d : Date) (seconds : ℤ) (count : ℕ) → pos count ≡ seconds +ℤ pos 62_167_219_200
    → epoch_day d ≡ pos (count / 86_400) -ℤ pos 719_528 → pos 0 ≤ℤ d.year
    → time_of (time_list (unsigned_abs d.year) d.month d.day (count % 86_400 / 3600) (count % 86_400 / 60 % 60) (count % 86_400 % 60)) ≡ Some seconds
time_of-parts d seconds count ec ed ey =
    let y : d.year ≡ pos (unsigned_abs d.year) = not_negative d.year ey in
    let P : ℤ → Type 0 = λ z. d.day ≤ days_in_month z d.month in
    let day_in = subst P y d.day_in.1 in
    let v : seconds_of (unsigned_abs d.year) d.month d.day (count % 86_400 / 3600) (count % 86_400 / 60 % 60) (count % 86_400 % 60) ≡ seconds = rw (← y, ed) (omega (arith, signed_arith)) in
    time_of-time_list (unsigned_abs d.year) d.month d.day (count % 86_400 / 3600) (count % 86_400 / 60 % 60) (count % 86_400 % 60) (omega (arith, signed_arith, d.year_in)) (omega (arith, d.month_in)) (omega (arith, d.day_in, days_in_month_bounds d.year d.month))
    (omega arith) (omega arith) (omega arith)
    (real (unsigned_abs d.year) d.month d.day (count % 86_400 / 3600) (count % 86_400 / 60 % 60) (count % 86_400 % 60) d.month_in.0 d.month_in.1 d.day_in.0 day_in (omega arith) (omega arith) (omega arith))
    ∙ ap Some v
