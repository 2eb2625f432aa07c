use Rattle.std.proofs.Common.{◌≡◌, subst, sym, ◌∙◌, ap, refl, ℕ, ℤ, pos, negsuc, ◌<◌, ◌^◌, w16, w8, w64, arith, to_z, of_z, FitsSigned, ◌≤◌, ◌≤ℤ◌, neg_ℤ}
use Rattle.std.proofs.lemmas.Int.{to_z-of_z, to_z_pos}
use Rattle.jiff.proofs.SpanFacts.{signed_arith}
use Rattle.std.proofs.lemmas.Int.{by_lt_z}
use Rattle.jiff_core.specs.Calendar.{day_count, IsCivilDate}
use Rattle.jiff_core.specs.Date.{epoch_day}
use Rattle.jiff_core.specs.DateTime.{civil_seconds}
use Rattle.jiff_core.specs.declared.civil.date.Date.{Date}
use Rattle.jiff_core.proofs.MarchLemmas.{day_count-early}
use Rattle.jiff_core.proofs.CalendarLemmas.{day_count-lt_year, day_count-day_of_year, days_from_civil-day_count}
use Rattle.jiff_core.specs.declared.civil.datetime.DateTime.{DateTime}
use Rattle.der_values.specs.Times.{Moment, seconds_to, first_second}
use Rattle.der_values.specs.View.{seen}
use Rattle.der_values.proofs.times.civil_seconds.Goals as goal

number : ℤ → ℕ
number (pos n) = n
number (negsuc n) = 0

pos-injective : (a b : ℕ) → pos a ≡ pos b → a ≡ b
unfolding number
pos-injective a b e = ap number e

same : (a n : ℕ) → n < 2 ^ 7 → pos a ≡ to_z w8 n → a ≡ n
same a n small e = pos-injective a n (e ∙ to_z_pos w8 n small)

-- jiff's seconds, by the numbers of a date and time
by_parts : (dt : DateTime) (m : Moment) → dt.date.year ≡ pos m.year → dt.date.month ≡ m.month → dt.date.day ≡ m.day
    → dt.time.hour ≡ m.hour → dt.time.minute ≡ m.minute → dt.time.second ≡ m.second → civil_seconds dt ≡ seconds_to m
unfolding civil_seconds
by_parts dt m ey em ed eh en es = rw (ey, em, ed, eh, en, es) refl

day_count-zero : day_count (pos 0) 1 1 ≡ 3_652_425
day_count-zero = day_count-early (pos 0) 9999 1 1 refl (omega arith) (omega arith) (omega arith)

first_day : IsCivilDate (pos 0) 1 1
first_day = ((omega (arith, signed_arith), omega (arith, signed_arith)), (omega arith, omega arith), (omega arith, omega arith))

-- a date of the year 0 or a later one
from_zero : (d : Date) (y : ℕ) → d.year ≡ pos y → 3_652_425 ≤ day_count d.year d.month d.day
from_zero d y is = by_lt_z (pos 0) d.year
    (λ later. omega (arith, day_count-zero, day_count-lt_year (pos 0) 1 1 d.year d.month d.day first_day d.day_in.0 later))
    (λ le.
    let zero : d.year ≡ pos 0 = omega (arith, signed_arith) in
    let P : ℤ → Type 0 = λ z. 3_652_425 ≤ day_count z d.month d.day in
    subst P (sym zero) (omega (arith, day_count-zero, day_count-day_of_year (pos 0) d.month d.day d.day_in.0)))

from_first : (dt : DateTime) (y : ℕ) → dt.date.year ≡ pos y → first_second ≤ℤ civil_seconds dt
unfolding civil_seconds
from_first dt y is =
    omega (arith, signed_arith, from_zero dt.date y is, days_from_civil-day_count dt.date.year dt.date.month dt.date.day)

pub returns-in-Ok-clause-value : goal.returns-in-Ok-clause-value
returns-in-Ok-clause-value c =
    let v = c.in-Ok.ensures.value in
    let day = c.requires.day in
    let time = c.requires.time in
    let ey : c.in-Ok.moment.date.year ≡ pos c.args.m.now.year = v.0.0 ∙ to_z_pos w16 c.args.m.now.year (omega (arith, c.requires.year)) in
    let em : c.in-Ok.moment.date.month ≡ c.args.m.now.month = same _ _ (omega (arith, day)) v.0.1 in
    let ed : c.in-Ok.moment.date.day ≡ c.args.m.now.day = same _ _ (omega (arith, day)) v.0.2 in
    let eh : c.in-Ok.moment.time.hour ≡ c.args.m.now.hour = same _ _ (omega (arith, time)) v.1.0 in
    let en : c.in-Ok.moment.time.minute ≡ c.args.m.now.minute = same _ _ (omega (arith, time)) v.1.1 in
    let es : c.in-Ok.moment.time.second ≡ c.args.m.now.second = same _ _ (omega (arith, time)) v.1.2 in
    let fits : FitsSigned w64 c.to_second.result = omega (arith, signed_arith, c.to_second.ensures.bound) in
    to_z-of_z w64 c.to_second.result fits ∙ c.to_second.ensures.value
    ∙ ap civil_seconds c.to_plain.ensures ∙ by_parts c.in-Ok.moment (seen c.args.m.now) ey em ed eh en es

pub returns-in-Ok-clause-range : goal.returns-in-Ok-clause-range
returns-in-Ok-clause-range c =
    let year : c.in-Ok.moment.date.year ≡ pos c.args.m.now.year = c.in-Ok.ensures.value.0.0 ∙ to_z_pos w16 c.args.m.now.year (omega (arith, c.requires.year)) in
    let first = from_first c.in-Ok.moment c.args.m.now.year year in
    let fits : FitsSigned w64 c.to_second.result = omega (arith, signed_arith, c.to_second.ensures.bound) in
    let same : to_z w64 (of_z w64 c.to_second.result) ≡ civil_seconds c.in-Ok.moment = to_z-of_z w64 c.to_second.result fits ∙ c.to_second.ensures.value ∙ ap civil_seconds c.to_plain.ensures in
    let same_result : c.to_second.result ≡ civil_seconds c.in-Ok.moment = c.to_second.ensures.value ∙ ap civil_seconds c.to_plain.ensures in
    omega (arith, signed_arith, c.to_second.ensures.bound)
