-- The definitions on examples.
use Rattle.std.proofs.Common.{◌≡◌, [], ◌∷◌, Some, None, refl}
use Rattle.std.specs.Prelude.{pos, ◌-ℤ◌}
use Rattle.der_values.specs.Element.{element_at, size_at, long_size}
use Rattle.der_values.specs.Kinds.{integer_of}
use Rattle.der_values.specs.Times.{seconds_of, utc_time, utc_parts, generalized_time, generalized_parts, moment_at, real_seconds, rounding, fraction}
use Rattle.jiff_core.specs.Calendar.{days_from_civil, day_count, days_of_years, days_of_months}

sequence : element_at (0x30 ∷ 3 ∷ 2 ∷ 1 ∷ 5 ∷ []) ≡ Some (record { tag = 0x30; content = 2 ∷ 1 ∷ 5 ∷ []; whole = 0x30 ∷ 3 ∷ 2 ∷ 1 ∷ 5 ∷ [] })
unfolding element_at size_at
sequence = refl

indefinite : element_at (0x30 ∷ 0x80 ∷ 0 ∷ 0 ∷ []) ≡ None
unfolding element_at size_at long_size
indefinite = refl

not_minimal : element_at (4 ∷ 0x81 ∷ 1 ∷ 0xFF ∷ []) ≡ None
unfolding element_at size_at long_size
not_minimal = refl

long_tag : element_at (0x1F ∷ 1 ∷ 0 ∷ []) ≡ None
unfolding element_at
long_tag = refl

empty : element_at [] ≡ None
unfolding element_at
empty = refl

integer : integer_of (record { tag = 2; content = 0 ∷ 5 ∷ []; whole = 2 ∷ 2 ∷ 0 ∷ 5 ∷ [] }) ≡ None
unfolding integer_of
integer = refl

-- 20300101000000.5Z
with_fraction : seconds_of (record { tag = 24; content = 50 ∷ 48 ∷ 51 ∷ 48 ∷ 48 ∷ 49 ∷ 48 ∷ 49 ∷ 48 ∷ 48 ∷ 48 ∷ 48 ∷ 48 ∷ 48 ∷ 46 ∷ 53 ∷ 90 ∷ []; whole = [] }) ≡ Some (pos 1893456001)
unfolding seconds_of generalized_time generalized_parts rounding fraction moment_at real_seconds days_from_civil day_count days_of_years days_of_months
with_fraction = refl

-- 500101000000Z
before_1970 : seconds_of (record { tag = 23; content = 53 ∷ 48 ∷ 48 ∷ 49 ∷ 48 ∷ 49 ∷ 48 ∷ 48 ∷ 48 ∷ 48 ∷ 48 ∷ 48 ∷ 90 ∷ []; whole = [] }) ≡ Some (pos 0 -ℤ pos 631152000)
unfolding seconds_of utc_time utc_parts moment_at real_seconds days_from_civil day_count days_of_years days_of_months
before_1970 = refl
