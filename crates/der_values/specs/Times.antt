-- UTCTime and GeneralizedTime in DER: X.690, 11.7 and 11.8; RFC 5280, 4.1.2.5; RFC 3161, 2.4.2.
-- Dates are those of the Gregorian calendar, also before it was in use. Seconds are counted without leap seconds.
use Rattle.std.specs.Prelude.{ℕ, ℤ, pos, neg_ℤ, ◌+ℤ◌, ◌*ℤ◌, int_le, ◌+◌, ◌-◌, ◌*◌, Bool, true, false, ◌&&◌, List, [], ◌∷◌, length, take, drop, Option, Some, None, option_and_then, nat_lt, nat_le, ◌==◌, if◌then◌else◌}
use Rattle.std.specs.List.{list_all, list_any}
use Rattle.jiff_core.specs.Calendar.{days_in_month, days_from_civil, IsBetween}
use Rattle.der_values.specs.Element.{Element}

-- The number that ASCII digits spell behind n; None where a byte is no digit.
abbrev pub digits_from : ℕ → List ℕ → Option ℕ
digits_from n [] = Some n
digits_from n (b ∷ bs) = if nat_lt b 48 then None else if nat_lt 57 b then None else digits_from (n * 10 + (b - 48)) bs

-- A date and a time of day.
pub record Moment : Type 0 where
  pub year : ℕ
  pub month : ℕ
  pub day : ℕ
  pub hour : ℕ
  pub minute : ℕ
  pub second : ℕ

-- The calendar has this day, and a clock this time; a minute has 60 seconds, from 0 to 59.
abbrev pub is_real : Moment → Bool
is_real m =
    nat_le 1 m.month && nat_le m.month 12 && nat_le 1 m.day && nat_le m.day (days_in_month (pos m.year) m.month)
    && nat_le m.hour 23 && nat_le m.minute 59 && nat_le m.second 59

-- The seconds from the beginning of 1970 to a date and time.
abbrev pub seconds_to : Moment → ℤ
seconds_to m = days_from_civil (pos m.year) m.month m.day *ℤ pos 86_400 +ℤ pos (m.hour * 3600 + m.minute * 60 + m.second)

unfoldable pub real_seconds : Moment → Option ℤ
real_seconds m = if is_real m then Some (seconds_to m) else None

infixl 10 ◌>>=◌
abbrev pub ◌>>=◌ : {A B : Type 0} → Option A → (A → Option B) → Option B
o >>= f = option_and_then f o

abbrev pub number_at : ℕ → ℕ → List ℕ → Option ℕ
number_at place count text = digits_from 0 (take count (drop place text))

-- MMDDhhmmss of a year, which stand at a place of the text.
unfoldable pub moment_at : ℕ → ℕ → List ℕ → Option ℤ
moment_at year place text = do
  month ← number_at place 2 text
  day ← number_at (place + 2) 2 text
  hour ← number_at (place + 4) 2 text
  minute ← number_at (place + 6) 2 text
  second ← number_at (place + 8) 2 text
  real_seconds (record { year = year; month = month; day = day; hour = hour; minute = minute; second = second })

-- The text is Z.
abbrev pub is_z : List ℕ → Bool
is_z [] = false
is_z (b ∷ []) = b == 90
is_z (b ∷ c ∷ bs) = false

-- 50 to 99 are of the 20th century, 00 to 49 of the 21st (RFC 5280, 4.1.2.5.1).
abbrev pub utc_year : ℕ → ℕ
utc_year n = if nat_lt n 50 then 2000 + n else 1900 + n

unfoldable pub utc_parts : List ℕ → Option ℤ
utc_parts text = do
  n ← number_at 0 2 text
  seconds ← moment_at (utc_year n) 2 text
  if is_z (drop 12 text) then Some seconds else None

-- YYMMDDhhmmssZ (X.690, 11.8).
unfoldable pub utc_time : List ℕ → Option ℤ
utc_time text = if length text == 13 then utc_parts text else None

abbrev pub is_digit : ℕ → Bool
is_digit b = if nat_lt b 48 then false else nat_le b 57

-- A digit above 0.
abbrev pub is_above_zero : ℕ → Bool
is_above_zero b = if b == 48 then false else true

-- What digits behind the point add, in whole seconds, rounded up. There has to be a digit, and Z behind them.
unfoldable pub fraction : List ℕ → List ℕ → Option ℤ
fraction digits behind =
    if is_z behind
    then if length digits == 0 then None else if list_all is_digit digits then if list_any is_above_zero digits then Some (pos 1) else Some (pos 0) else None
    else None

-- Behind the seconds: Z, or a point, digits and Z (X.690, 11.7).
unfoldable pub rounding : List ℕ → Option ℤ
rounding [] = None
rounding (b ∷ bs) = if b == 46 then fraction (take (length bs - 1) bs) (drop (length bs - 1) bs) else if is_z (b ∷ bs) then Some (pos 0) else None

-- The first second of the year 0000, and the last one of the year 9999.
abbrev pub first_second : ℤ
first_second = neg_ℤ (pos 62_167_219_200)

abbrev pub last_second : ℤ
last_second = pos 253_402_300_799

-- A time of the years 0000 to 9999, so one that has a text.
abbrev pub IsInYears : ℤ → Type 0
IsInYears = IsBetween first_second last_second

unfoldable pub generalized_parts : List ℕ → Option ℤ
generalized_parts text = do
  year ← number_at 0 4 text
  n ← moment_at year 4 text
  more ← rounding (drop 14 text)
  if int_le (n +ℤ more) last_second then Some (n +ℤ more) else None

-- YYYYMMDDhhmmss, and Z or a fraction and Z. Rounded up, it has to lie before the year 10000.
unfoldable pub generalized_time : List ℕ → Option ℤ
generalized_time text = if nat_lt (length text) 15 then None else generalized_parts text

-- A time in seconds since 1970. A fraction is rounded up.
unfoldable pub seconds_of : Element → Option ℤ
seconds_of e = if e.tag == 23 then utc_time e.content else if e.tag == 24 then generalized_time e.content else None

-- A time of RFC 5280, 4.1.2.5: its GeneralizedTime has no fraction.
unfoldable pub plain_seconds_of : Element → Option ℤ
plain_seconds_of e = if e.tag == 24 then if length e.content == 15 then seconds_of e else None else seconds_of e
