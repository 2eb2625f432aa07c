-- Texts that name a time: each time has one, of the years 0000 to 9999.
use Rattle.std.proofs.Common.{◌≡◌, ℕ, zero, suc, ◌+◌, ◌-◌, ◌*◌, ◌≤◌, ◌<◌, ◌^◌, nat_le, ◌==◌, Bool, true, false, ◌&&◌, if◌then◌else◌, List, [], ◌∷◌, length, drop, None, Some, refl, sym, ap, ◌∙◌, arith, ℤ, pos, negsuc, ◌+ℤ◌, ◌*ℤ◌, ◌≤ℤ◌, inl, inr, w64, to_z, of_z}
use Rattle.std.specs.Prelude.{slice_index, unsigned_abs}
use Rattle.jiff_core.specs.declared.civil.date.Date.{Date}
use Rattle.jiff_core.specs.Calendar.{day_count, days_from_civil, days_in_month}
use Rattle.jiff_core.specs.Date.{epoch_day}
use Rattle.jiff_core.proofs.CalendarLemmas.{days_from_civil-day_count, days_in_month_bounds}
use Rattle.jiff_core.proofs.DateLemmas.{cases_date, epoch_day-lt, epoch_day_injective, epoch_day_range, epoch_day_same}
use Rattle.jiff_core.proofs.MarchLemmas.{day_count-early}
use Rattle.jiff_core.proofs.SignedLemmas.{back_small, signed_arith}
use Rattle.utc_times.specs.TimeText.{are_two, has_shape, is_digit, is_real, number_two, seconds_of, time_list, time_of, year_in}
use Rattle.utc_times.proofs.TextLemmas.{time_of-time_list}
use Rattle.time_texts.specs.Clock.{IsOfYears}

-- the items of a list from the k-th on, by their numbers
abbrev pub values : ℕ → ℕ → List ℕ → List ℕ
values k zero t = []
values k (suc n) t = slice_index t k ∷ values (suc k) n t

values_are : (n k : ℕ) (t : List ℕ) → length t ≡ n + k → drop k t ≡ values k n t
values_are zero zero [] e = refl
values_are zero zero (c ∷ t) e = absurd (omega (arith, e))
values_are zero (suc k) [] e = refl
values_are zero (suc k) (c ∷ t) e = values_are zero k t (omega (arith, e))
values_are (suc n) zero [] e = absurd (omega (arith, e))
values_are (suc n) zero (c ∷ t) e = ap (λ cs. c ∷ cs) (values_are n 0 t (omega (arith, e)) ∙ shifted n 0 c t)
  where
    shifted : (n k c : ℕ) (t : List ℕ) → values k n t ≡ values (suc k) n (c ∷ t)
    shifted zero k c t = refl
    shifted (suc n) k c t = ap (λ cs. slice_index t k ∷ cs) (shifted n (suc k) c t)
values_are (suc n) (suc k) [] e = absurd (omega (arith, e))
values_are (suc n) (suc k) (c ∷ t) e = values_are (suc n) k t (omega (arith, e)) ∙ shifted (suc n) k c t
  where
    shifted : (n k c : ℕ) (t : List ℕ) → values k n t ≡ values (suc k) n (c ∷ t)
    shifted zero k c t = refl
    shifted (suc n) k c t = ap (λ cs. slice_index t k ∷ cs) (shifted n (suc k) c t)

both : (a b : Bool) → (a && b) ≡ true → (a ≡ true) × (b ≡ true)
both true b e = (refl, e)
both false b e = cc

abbrev pub IsDigit : ℕ → Type 0
IsDigit c = (48 ≤ c) × (c ≤ 57)

digit : (c : ℕ) → (nat_le 48 c && nat_le c 57) ≡ true → IsDigit c
digit c e = let b = both (nat_le 48 c) (nat_le c 57) e in (le_of 48 c b.0, le_of c 57 b.1)
  where
    le_of : (a b : ℕ) → nat_le a b ≡ true → a ≤ b
    le_of a b e = grind arith

equal : (a b : ℕ) → (a == b) ≡ true → a ≡ b
equal a b e = grind arith

-- the characters of a text that names a time
pub record IsShaped (t : List ℕ) : Type 0 where
  pub size : length t ≡ 20
  pub c0 : IsDigit (slice_index t 0)
  pub c1 : IsDigit (slice_index t 1)
  pub c2 : IsDigit (slice_index t 2)
  pub c3 : IsDigit (slice_index t 3)
  pub c4 : slice_index t 4 ≡ 45
  pub c5 : IsDigit (slice_index t 5)
  pub c6 : IsDigit (slice_index t 6)
  pub c7 : slice_index t 7 ≡ 45
  pub c8 : IsDigit (slice_index t 8)
  pub c9 : IsDigit (slice_index t 9)
  pub c10 : slice_index t 10 ≡ 84
  pub c11 : IsDigit (slice_index t 11)
  pub c12 : IsDigit (slice_index t 12)
  pub c13 : slice_index t 13 ≡ 58
  pub c14 : IsDigit (slice_index t 14)
  pub c15 : IsDigit (slice_index t 15)
  pub c16 : slice_index t 16 ≡ 58
  pub c17 : IsDigit (slice_index t 17)
  pub c18 : IsDigit (slice_index t 18)
  pub c19 : slice_index t 19 ≡ 90

abbrev pub AreDigits : List ℕ → ℕ → Type 0
AreDigits t i = IsDigit (slice_index t i) × IsDigit (slice_index t (i + 1))

two : (t : List ℕ) (i : ℕ) → are_two t i ≡ true → AreDigits t i
two t i e = let b = both (is_digit t i) (is_digit t (i + 1)) e in (digit (slice_index t i) b.0, digit (slice_index t (i + 1)) b.1)

shaped : (t : List ℕ) → has_shape t ≡ true → IsShaped t
shaped t e =
    let b12 = both _ (slice_index t 19 == 90) e in
    let b11 = both _ (are_two t 17) b12.0 in
    let b10 = both _ (slice_index t 16 == 58) b11.0 in
    let b9 = both _ (are_two t 14) b10.0 in
    let b8 = both _ (slice_index t 13 == 58) b9.0 in
    let b7 = both _ (are_two t 11) b8.0 in
    let b6 = both _ (slice_index t 10 == 84) b7.0 in
    let b5 = both _ (are_two t 8) b6.0 in
    let b4 = both _ (slice_index t 7 == 45) b5.0 in
    let b3 = both _ (are_two t 5) b4.0 in
    let b2 = both _ (slice_index t 4 == 45) b3.0 in
    let b1 = both _ (are_two t 2) b2.0 in
    let b0 = both (length t == 20) (are_two t 0) b1.0 in record {
      size = equal (length t) 20 b0.0;
      c0 = (two t 0 b0.1).0;
      c1 = (two t 0 b0.1).1;
      c2 = (two t 2 b1.1).0;
      c3 = (two t 2 b1.1).1;
      c4 = equal (slice_index t 4) 45 b2.1;
      c5 = (two t 5 b3.1).0;
      c6 = (two t 5 b3.1).1;
      c7 = equal (slice_index t 7) 45 b4.1;
      c8 = (two t 8 b5.1).0;
      c9 = (two t 8 b5.1).1;
      c10 = equal (slice_index t 10) 84 b6.1;
      c11 = (two t 11 b7.1).0;
      c12 = (two t 11 b7.1).1;
      c13 = equal (slice_index t 13) 58 b8.1;
      c14 = (two t 14 b9.1).0;
      c15 = (two t 14 b9.1).1;
      c16 = equal (slice_index t 16) 58 b10.1;
      c17 = (two t 17 b11.1).0;
      c18 = (two t 17 b11.1).1;
      c19 = equal (slice_index t 19) 90 b12.1;
    }

pub whole : (t : List ℕ) → length t ≡ 20 → t ≡ values 0 20 t
whole t e = values_are 20 0 t e

-- a date and a time of day
pub record IsReal (y m d h n s : ℕ) : Type 0 where
  pub months : (1 ≤ m) × (m ≤ 12)
  pub days : (1 ≤ d) × (d ≤ days_in_month (pos y) m)
  pub hours : h ≤ 23
  pub minutes : n ≤ 59
  pub seconds : s ≤ 59

real : (y m d h n s : ℕ) → is_real y m d h n s ≡ true → IsReal y m d h n s
real y m d h n s e =
    let b5 = both _ (nat_le s 59) e in
    let b4 = both _ (nat_le n 59) b5.0 in
    let b3 = both _ (nat_le h 23) b4.0 in
    let b2 = both _ (nat_le d (days_in_month (pos y) m)) b3.0 in
    let b1 = both _ (nat_le 1 d) b2.0 in
    let b0 = both (nat_le 1 m) (nat_le m 12) b1.0 in record {
      months = (le_of 1 m b0.0, le_of m 12 b0.1);
      days = (le_of 1 d b1.1, le_of d (days_in_month (pos y) m) b2.1);
      hours = le_of h 23 b3.1;
      minutes = le_of n 59 b4.1;
      seconds = le_of s 59 b5.1;
    }
  where
    le_of : (a b : ℕ) → nat_le a b ≡ true → a ≤ b
    le_of a b e = grind arith

-- what a text names
pub record Names (t : List ℕ) (time : ℤ) : Type 0 where
  pub shape : IsShaped t
  pub is : IsReal (year_in t) (number_two t 5) (number_two t 8) (number_two t 11) (number_two t 14) (number_two t 17)
  pub value : seconds_of (year_in t) (number_two t 5) (number_two t 8) (number_two t 11) (number_two t 14) (number_two t 17) ≡ time

named_by : (a b : Bool) (z time : ℤ) → (if a && b then Some z else None) ≡ Some time → (a ≡ true) × (b ≡ true) × (z ≡ time)
named_by true true z time e = (refl, refl, cc)
named_by true false z time e = cc
named_by false b z time e = cc

pub names : (t : List ℕ) (time : ℤ) → time_of t ≡ Some time → Names t time
names t time e =
    let b = named_by (has_shape t) (is_real (year_in t) (number_two t 5) (number_two t 8) (number_two t 11) (number_two t 14) (number_two t 17)) _ time e in record {
      shape = shaped t b.0;
      is = real (year_in t) (number_two t 5) (number_two t 8) (number_two t 11) (number_two t 14) (number_two t 17) b.1;
      value = b.2;
    }

year_small : (t : List ℕ) → IsShaped t → year_in t ≤ 9999
year_small t s = omega (arith, s.c0, s.c1, s.c2, s.c3)

abbrev date_of : (t : List ℕ) (time : ℤ) → Names t time → Date
date_of t time n = record {
  year = pos (year_in t);
  month = number_two t 5;
  day = number_two t 8;
  year_in = omega (arith, signed_arith, year_small t n.shape);
  month_in = n.is.months;
  day_in = n.is.days;
}

-- the days and the seconds of the day, apart
seconds_apart : (a b : ℤ) (p q : ℕ) → p < 86_400 → q < 86_400 → a *ℤ pos 86_400 +ℤ pos p ≡ b *ℤ pos 86_400 +ℤ pos q → (a ≡ b) × (p ≡ q)
seconds_apart a b p q l k e = (omega (arith, signed_arith), omega (arith, signed_arith))

clock_apart : (h n s i o t : ℕ) → n ≤ 59 → s ≤ 59 → o ≤ 59 → t ≤ 59 → h * 3600 + n * 60 + s ≡ i * 3600 + o * 60 + t → (h ≡ i) × (n ≡ o) × (s ≡ t)
clock_apart h n s i o t n1 s1 o1 t1 e = (omega arith, omega arith, omega arith)

clock_small : (h n s : ℕ) → h ≤ 23 → n ≤ 59 → s ≤ 59 → h * 3600 + n * 60 + s < 86_400
clock_small h n s a b c = omega arith

digits_apart : (a b c d : ℕ) → IsDigit a → IsDigit b → IsDigit c → IsDigit d → (a - 48) * 10 + (b - 48) ≡ (c - 48) * 10 + (d - 48) → (a ≡ c) × (b ≡ d)
digits_apart a b c d ia ib ic id e = (omega (arith, ia, ib, ic, id, e), omega (arith, ia, ib, ic, id, e))

small_two : (a b : ℕ) → IsDigit a → IsDigit b → (a - 48) * 10 + (b - 48) ≤ 99
small_two a b ia ib = omega (arith, ia, ib)

years_apart : (a b c d : ℕ) → b ≤ 99 → d ≤ 99 → a * 100 + b ≡ c * 100 + d → (a ≡ c) × (b ≡ d)
years_apart a b c d lb ld e = (omega arith, omega arith)

-- two texts that name a time are one
pub time_once : (one other : List ℕ) (time : ℤ) → time_of one ≡ Some time → time_of other ≡ Some time → one ≡ other
time_once one other time e f =
    let n = names one time e in
    let m = names other time f in
    let a = n.shape in
    let b = m.shape in
    let apart = seconds_apart (days_from_civil (pos (year_in one)) (number_two one 5) (number_two one 8)) (days_from_civil (pos (year_in other)) (number_two other 5) (number_two other 8)) _ _
    (clock_small _ _ _ n.is.hours n.is.minutes n.is.seconds) (clock_small _ _ _ m.is.hours m.is.minutes m.is.seconds) (n.value ∙ sym m.value) in
    let date = epoch_day_injective (date_of one time n) (date_of other time m) apart.0 in
    let clock = clock_apart _ _ _ _ _ _ n.is.minutes n.is.seconds m.is.minutes m.is.seconds apart.1 in
    let year : year_in one ≡ year_in other = omega (arith, signed_arith, date.0) in
    let years = years_apart _ _ _ _ (small_two _ _ a.c2 a.c3) (small_two _ _ b.c2 b.c3) year in
    let century = digits_apart _ _ _ _ a.c0 a.c1 b.c0 b.c1 years.0 in
    let late = digits_apart _ _ _ _ a.c2 a.c3 b.c2 b.c3 years.1 in
    let month = digits_apart _ _ _ _ a.c5 a.c6 b.c5 b.c6 date.1 in
    let day = digits_apart _ _ _ _ a.c8 a.c9 b.c8 b.c9 date.2 in
    let hour = digits_apart _ _ _ _ a.c11 a.c12 b.c11 b.c12 clock.0 in
    let minute = digits_apart _ _ _ _ a.c14 a.c15 b.c14 b.c15 clock.1 in
    let second = digits_apart _ _ _ _ a.c17 a.c18 b.c17 b.c18 clock.2 in
    whole one a.size ∙ rw (
      century.0,
      century.1,
      late.0,
      late.1,
      a.c4 ∙ sym b.c4,
      month.0,
      month.1,
      a.c7 ∙ sym b.c7,
      day.0,
      day.1,
      a.c10 ∙ sym b.c10,
      hour.0,
      hour.1,
      a.c13 ∙ sym b.c13,
      minute.0,
      minute.1,
      a.c16 ∙ sym b.c16,
      second.0,
      second.1,
      a.c19 ∙ sym b.c19,
    ) refl ∙ sym (whole other b.size)

-- The years.

pub day_count-zero : day_count (pos 0) 1 1 ≡ 3_652_425
day_count-zero = day_count-early (pos 0) 9999 1 1 refl (omega arith) (omega arith) (omega arith)

abbrev first_date : Date
first_date = record { year = pos 0; month = 1; day = 1; year_in = omega (arith, signed_arith); month_in = omega arith; day_in = omega arith }

-- no date of the years from 0 on is before 0000-01-01
not_before : (d : Date) → pos 0 ≤ℤ d.year → epoch_day first_date ≤ℤ epoch_day d
not_before d from =
    elim (cases_date first_date d) [
      | inl lt ↦ let l = epoch_day-lt first_date d lt in omega (arith, signed_arith, l)
      | inr (inl (inl year)) ↦ absurd (omega (arith, signed_arith, year, from))
      | inr (inl (inr (year, inl month))) ↦ absurd (omega (arith, month, d.month_in))
      | inr (inl (inr (year, inr day))) ↦ absurd (omega (arith, day.1, d.day_in))
      | inr (inr same) ↦ let e = epoch_day_same first_date d same.0 same.1 same.2 in omega (arith, signed_arith, e)
    ]

-- a time that a text names is of the years 0000 to 9999
pub time_within : (t : List ℕ) (time : ℤ) → time_of t ≡ Some time → IsOfYears time
time_within t time e =
    let n = names t time e in
    let d = date_of t time n in
    let low = not_before d (omega (arith, signed_arith)) in
    let first = days_from_civil-day_count (pos 0) 1 1 in
    let zero_day = day_count-zero in
    let range = epoch_day_range d in
    let small = clock_small _ _ _ n.is.hours n.is.minutes n.is.seconds in
    let v = n.value in
    (omega (arith, signed_arith), omega (arith, signed_arith))

-- and so is each real one of these years
pub real_within : (y m d h n s : ℕ) → y ≤ 9999 → is_real y m d h n s ≡ true → IsOfYears (seconds_of y m d h n s)
real_within y m d h n s small e =
    let r = real y m d h n s e in
    time_within (time_list y m d h n s) (seconds_of y m d h n s) (time_of-time_list y m d h n s small (omega (arith, r.months)) (omega (arith, r.days, days_in_month_bounds (pos y) m))
    (omega (arith, r.hours)) (omega (arith, r.minutes)) (omega (arith, r.seconds)) e)

-- Such a time is its own 64 bits.

small : (z : ℤ) → IsOfYears z → unsigned_abs z < 2 ^ 63
small (pos n) (low, high) = omega (arith, signed_arith, high)
small (negsuc n) (low, high) = omega (arith, signed_arith, low)

pub time_back : (t : List ℕ) (time : ℤ) → time_of t ≡ Some time → to_z w64 (of_z w64 time) ≡ time
time_back t time e = back_small w64 time (small time (time_within t time e))
