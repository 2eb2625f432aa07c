-- The time that a token says it was made at is of the years 0000 to 9999.
use Rattle.std.proofs.Common.{◌≡◌, ℕ, zero, suc, ◌+◌, ◌-◌, ◌*◌, ◌≤◌, Bool, true, false, ◌==◌, if◌then◌else◌, List, [], ◌∷◌, take, drop, length, Option, None, Some, refl, subst, arith, ℤ, pos, ◌+ℤ◌, ◌≤ℤ◌}
use Rattle.std.specs.Prelude.{nat_lt, int_le, option_and_then}
use Rattle.std.specs.List.{list_all, list_any}
use Rattle.std.proofs.lemmas.Bool.{ltb-false}
use Rattle.der_values.specs.Element.{Element}
use Rattle.der_values.specs.Times.{Moment, digits_from, fraction, generalized_parts, generalized_time, is_above_zero, is_digit, is_real, is_z, last_second, moment_at, number_at, real_seconds, rounding, seconds_of, seconds_to, utc_parts, utc_time, utc_year}
use Rattle.jiff_core.proofs.SignedLemmas.{signed_arith}
use Rattle.der_values.specs.Rules.{nth}
use Rattle.tst_tokens.specs.Tokens.{gen_time, stamp_info}
use Rattle.time_texts.specs.Clock.{IsOfYears}
use Rattle.time_texts.proofs.TextsOfTimes.{real_within}
use Rattle.x509_certs.specs.Signed.{or_0, time_or_0}

then_some : {A B : Type 0} (f : A → Option B) (o : Option A) (z : B) → option_and_then f o ≡ Some z → (x : A) × (o ≡ Some x) × (f x ≡ Some z)
then_some f None z e = cc
then_some f (Some x) z e = (x, refl, e)

if_some : {A : Type 0} (b : Bool) (x z : A) → (if b then Some x else None) ≡ Some z → (b ≡ true) × (x ≡ z)
if_some true x z e = (refl, cc)
if_some false x z e = cc

else_some : {A : Type 0} (b : Bool) (o : Option A) (z : A) → (if b then None else o) ≡ Some z → (b ≡ false) × (o ≡ Some z)
else_some true o z e = cc
else_some false o z e = (refl, e)

-- the most that so many digits spell behind a number
abbrev most : ℕ → ℕ → ℕ
most zero n = n
most (suc count) n = most count (n * 10 + 9)

most_more : (count n : ℕ) → n ≤ most count n
most_more zero n = omega arith
most_more (suc count) n = let more = most_more count (n * 10 + 9) in omega (arith, more)

digits_most : (count : ℕ) (bs : List ℕ) (n m y : ℕ) → n ≤ m → digits_from n (take count bs) ≡ Some y → y ≤ most count m
digits_most zero bs n m y le e = let same : n ≡ y = cc in omega (arith, le, same)
digits_most (suc count) [] n m y le e = let same : n ≡ y = cc in let more = most_more (suc count) m in omega (arith, le, same, more)
digits_most (suc count) (b ∷ bs) n m y le e =
    let low = else_some (nat_lt b 48) _ y e in
    let high = else_some (nat_lt 57 b) _ y low.1 in
    let small : b ≤ 57 = ltb-false 57 b high.0 in
    digits_most count bs (n * 10 + (b - 48)) (m * 10 + 9) y (omega (arith, le, small)) high.1

moment_years : (m : Moment) (z : ℤ) → m.year ≤ 9999 → real_seconds m ≡ Some z → IsOfYears z
unfolding real_seconds
moment_years m z small e =
    let is = if_some (is_real m) (seconds_to m) z e in
    subst IsOfYears is.1 (real_within m.year m.month m.day m.hour m.minute m.second small is.0)

at_years : (year place : ℕ) (text : List ℕ) (z : ℤ) → year ≤ 9999 → moment_at year place text ≡ Some z → IsOfYears z
unfolding moment_at
at_years year place text z small e =
    let month = then_some _ (number_at place 2 text) z e in
    let day = then_some _ (number_at (place + 2) 2 text) z month.2 in
    let hour = then_some _ (number_at (place + 4) 2 text) z day.2 in
    let minute = then_some _ (number_at (place + 6) 2 text) z hour.2 in
    let second = then_some _ (number_at (place + 8) 2 text) z minute.2 in
    moment_years (record { year = year; month = month.0; day = day.0; hour = hour.0; minute = minute.0; second = second.0 }) z small second.2

utc_small : (n : ℕ) → n ≤ 99 → utc_year n ≤ 9999
utc_small n le = by_test (nat_lt n 50)
  where
    by_test : (b : Bool) → (if b then 2000 + n else 1900 + n) ≤ 9999
    by_test true = omega (arith, le)
    by_test false = omega (arith, le)

utc_years : (text : List ℕ) (z : ℤ) → utc_time text ≡ Some z → IsOfYears z
unfolding utc_time utc_parts
utc_years text z e =
    let parts = by_length (length text == 13) _ e in
    let year = then_some _ (number_at 0 2 text) z parts in
    let moment = then_some _ (moment_at (utc_year year.0) 2 text) z year.2 in
    let ends = if_some (is_z (drop 12 text)) moment.0 z moment.2 in
    subst IsOfYears ends.1 (at_years (utc_year year.0) 2 text moment.0 (utc_small year.0 (digits_most 2 (drop 0 text) 0 0 year.0 (omega arith) year.1)) moment.1)
  where
    by_length : (b : Bool) (o : Option ℤ) → (if b then o else None) ≡ Some z → o ≡ Some z
    by_length true o e = e
    by_length false o e = cc

fraction_least : (digits behind : List ℕ) (z : ℤ) → fraction digits behind ≡ Some z → pos 0 ≤ℤ z
unfolding fraction
fraction_least digits behind z e = by_tests (is_z behind) (length digits == 0) (list_all is_digit digits) (list_any is_above_zero digits) e
  where
    by_tests : (a b c d : Bool) → (if a then if b then None else if c then if d then Some (pos 1) else Some (pos 0) else None else None) ≡ Some z → pos 0 ≤ℤ z
    by_tests false b c d e = cc
    by_tests true true c d e = cc
    by_tests true false false d e = cc
    by_tests true false true true e = let same : pos 1 ≡ z = cc in omega (arith, signed_arith, same)
    by_tests true false true false e = let same : pos 0 ≡ z = cc in omega (arith, signed_arith, same)

rounding_least : (bs : List ℕ) (z : ℤ) → rounding bs ≡ Some z → pos 0 ≤ℤ z
unfolding rounding
rounding_least [] z e = cc
rounding_least (b ∷ bs) z e = by_tests (b == 46) (is_z (b ∷ bs)) (fraction (take (length bs - 1) bs) (drop (length bs - 1) bs)) (fraction_least (take (length bs - 1) bs) (drop (length bs - 1) bs) z) e
  where
    by_tests : (a c : Bool) (o : Option ℤ) → (o ≡ Some z → pos 0 ≤ℤ z) → (if a then o else if c then Some (pos 0) else None) ≡ Some z → pos 0 ≤ℤ z
    by_tests true c o least e = least e
    by_tests false true o least e = let same : pos 0 ≡ z = cc in omega (arith, signed_arith, same)
    by_tests false false o least e = cc

generalized_years : (text : List ℕ) (z : ℤ) → generalized_time text ≡ Some z → IsOfYears z
unfolding generalized_time generalized_parts
generalized_years text z e =
    let parts = else_some (nat_lt (length text) 15) _ z e in
    let year = then_some _ (number_at 0 4 text) z parts.1 in
    let moment = then_some _ (moment_at year.0 4 text) z year.2 in
    let more = then_some _ (rounding (drop 14 text)) z moment.2 in
    let most_is = if_some (int_le (moment.0 +ℤ more.0) last_second) (moment.0 +ℤ more.0) z more.2 in
    let within = at_years year.0 4 text moment.0 (digits_most 4 (drop 0 text) 0 0 year.0 (omega arith) year.1) moment.1 in
    let least = rounding_least (drop 14 text) more.0 more.1 in
    let last : (moment.0 +ℤ more.0) ≤ℤ last_second = grind (arith, signed_arith, most_is.0) in
    (omega (arith, signed_arith, within, least, most_is.1), omega (arith, signed_arith, last, most_is.1))

element_years : (e : Element) (z : ℤ) → seconds_of e ≡ Some z → IsOfYears z
unfolding seconds_of
element_years e z is = by_tag (e.tag == 23) (e.tag == 24) (utc_time e.content) (generalized_time e.content) (utc_years e.content z) (generalized_years e.content z) is
  where
    by_tag : (a b : Bool) (o p : Option ℤ) → (o ≡ Some z → IsOfYears z) → (p ≡ Some z → IsOfYears z) → (if a then o else if b then p else None) ≡ Some z → IsOfYears z
    by_tag true b o p first second e = first e
    by_tag false true o p first second e = second e
    by_tag false false o p first second e = cc

pub at_first : IsOfYears (pos 0)
at_first = (omega (arith, signed_arith), omega (arith, signed_arith))

-- a time that is told of an element, or 0
pub time_years : (o : Option Element) → IsOfYears (time_or_0 o)
time_years None = at_first
time_years (Some e) = by_seconds (seconds_of e) (element_years e)
  where
    by_seconds : (found : Option ℤ) → ((z : ℤ) → found ≡ Some z → IsOfYears z) → IsOfYears (or_0 found)
    by_seconds None each = at_first
    by_seconds (Some z) each = each z refl

pub gen_years : (token : List ℕ) → IsOfYears (gen_time token)
gen_years token = time_years (nth 4 (stamp_info token))
