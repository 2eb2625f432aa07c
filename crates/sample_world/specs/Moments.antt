-- Times, written: RFC 5280, 4.1.2.5 (UTCTime through the year 2049, GeneralizedTime from 2050 on); X.690, 11.7 and 11.8.
-- Times are seconds since 1970; days are those of the Gregorian calendar.
use Rattle.std.specs.Prelude.{ℕ, zero, suc, ℤ, pos, ◌+ℤ◌, ◌+◌, ◌-◌, ◌/◌, ◌%◌, unsigned_abs, List, [], ◌∷◌, ◌++◌, nat_le, nat_lt, if◌then◌else◌}
use Rattle.jiff_core.specs.Calendar.{day_count}
use Rattle.xa_io.specs.Tlv.{tlv}
use Rattle.sample_world.specs.declared.moments.Moment.{Moment}

-- the seconds from the beginning of the year 0 to a time
abbrev pub from_year_0 : ℤ → ℕ
from_year_0 seconds = unsigned_abs (seconds +ℤ pos 62_167_219_200)

-- the day of a time, counted as `day_count` counts days
abbrev pub day_of : ℤ → ℕ
day_of seconds = from_year_0 seconds / 86_400 + 3_652_425

-- the last year below n that begins no later than this day
unfoldable pub year_below : ℕ → ℕ → ℕ
year_below zero day = 0
year_below (suc n) day = if nat_le (day_count (pos n) 1 1) day then n else year_below n day

-- the last of the first n months of the year that begins no later than this day
unfoldable pub month_up_to : ℕ → ℕ → ℕ → ℕ
month_up_to zero year day = 0
month_up_to (suc n) year day = if nat_le (day_count (pos year) (suc n) 1) day then suc n else month_up_to n year day

-- the date of a day, with the time of day at this second of it
abbrev pub moment_in : ℕ → ℕ → Moment
moment_in day second =
    let year = year_below 10_000 day in
    let month = month_up_to 12 year day in
    record {
      year = year;
      month = month;
      day = day - day_count (pos year) month 1 + 1;
      hour = second / 3600;
      minute = second / 60 % 60;
      second = second % 60;
    }

-- the date and the time of day
unfoldable pub moment_of : ℤ → Moment
moment_of seconds = moment_in (day_of seconds) (from_year_0 seconds % 86_400)

-- two digits
abbrev pub two : ℕ → List ℕ
two n = (48 + n / 10) ∷ (48 + n % 10) ∷ []

-- MMDDhhmmssZ
abbrev pub behind_year : Moment → List ℕ
behind_year m = two m.month ++ two m.day ++ two m.hour ++ two m.minute ++ two m.second ++ 90 ∷ []

-- YYMMDDhhmmssZ
unfoldable pub utc_text : Moment → List ℕ
utc_text m = two (m.year % 100) ++ behind_year m

-- YYYYMMDDhhmmssZ
unfoldable pub generalized_text : Moment → List ℕ
generalized_text m = two (m.year / 100) ++ two (m.year % 100) ++ behind_year m

-- a GeneralizedTime
unfoldable pub generalized_time : ℤ → List ℕ
generalized_time seconds = tlv 0x18 (generalized_text (moment_of seconds))

-- a UTCTime through 2049, else a GeneralizedTime
unfoldable pub time : ℤ → List ℕ
time seconds = if nat_lt (moment_of seconds).year 2050 then tlv 0x17 (utc_text (moment_of seconds)) else generalized_time seconds
