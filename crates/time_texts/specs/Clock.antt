-- The text YYYY-MM-DDThh:mm:ssZ of a time of the years 0000 to 9999: RFC 3339, 5.6. Times are seconds since 1970; days are those of the
-- Gregorian calendar.
use Rattle.std.specs.Prelude.{◌≡◌, ℕ, zero, suc, ℤ, pos, neg_ℤ, ◌+ℤ◌, ◌+◌, ◌-◌, ◌/◌, ◌%◌, unsigned_abs, List, Some, nat_le, if◌then◌else◌}
use Rattle.jiff_core.specs.Calendar.{day_count, IsBetween}
use Rattle.utc_times.specs.TimeText.{time_list, time_of}

-- the seconds from the beginning of the year 0 to a time
abbrev pub from_year_0 : ℤ → ℕ
from_year_0 seconds = unsigned_abs (seconds +ℤ pos 62_167_219_200)

-- the day of a time, counted as `day_count` counts days
abbrev pub day_of : ℤ → ℕ
day_of seconds = from_year_0 seconds / 86_400 + 3_652_425

-- the last year below n that has begun by a day
unfoldable pub year_by : ℕ → ℕ → ℕ
year_by zero day = 0
year_by (suc n) day = if nat_le (day_count (pos n) 1 1) day then n else year_by n day

-- the last of the first n months of a year that has begun by a day
unfoldable pub month_by : ℕ → ℕ → ℕ → ℕ
month_by zero year day = 0
month_by (suc n) year day = if nat_le (day_count (pos year) (suc n) 1) day then suc n else month_by n year day

-- the text of a second of a day
abbrev pub text_in : (day second : ℕ) → List ℕ
text_in day second =
    let year = year_by 10_000 day in
    let month = month_by 12 year day in
    time_list year month (day - day_count (pos year) month 1 + 1) (second / 3600) (second / 60 % 60) (second % 60)

-- the text of a time
unfoldable pub clock : ℤ → List ℕ
clock seconds = text_in (day_of seconds) (from_year_0 seconds % 86_400)

-- a time of the years 0000 to 9999
abbrev pub IsOfYears : ℤ → Type 0
IsOfYears time = IsBetween (neg_ℤ (pos 62_167_219_200)) (pos 253_402_300_799) time

-- The laws: it names the time, and no other text does.

abbrev pub ClockTellsTheTime : Type 0
ClockTellsTheTime = (time : ℤ) → IsOfYears time → time_of (clock time) ≡ Some time

abbrev pub TimesHaveOneText : Type 0
TimesHaveOneText = (text : List ℕ) (time : ℤ) → time_of text ≡ Some time → text ≡ clock time
