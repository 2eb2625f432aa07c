use Rattle.std.proofs.Common.{◌≡◌, refl, ℕ, ◌+◌, ◌-◌, ◌*◌, ◌/◌, ◌%◌, ◌≤◌, nat_le, true, ◌&&◌, Some, arith}
use Rattle.utc_times.specs.TimeText.{time_list, time_of, is_real, seconds_of}

-- a digit is one
digit : (n : ℕ) → n ≤ 9 → (nat_le 48 (48 + n) && nat_le (48 + n) 57) ≡ true
digit n h = grind arith

two_back : (n : ℕ) → (48 + n / 10 - 48) * 10 + (48 + n % 10 - 48) ≡ n
two_back n = omega arith

year_back : (y : ℕ) → ((48 + y / 1000 - 48) * 10 + (48 + y / 100 % 10 - 48)) * 100 + ((48 + y / 10 % 10 - 48) * 10 + (48 + y % 10 - 48)) ≡ y
year_back y = omega arith

pub time_of-time_list : (y m d h n s : ℕ) → y ≤ 9999 → m ≤ 99 → d ≤ 99 → h ≤ 99 → n ≤ 99 → s ≤ 99
    → is_real y m d h n s ≡ true → time_of (time_list y m d h n s) ≡ Some (seconds_of y m d h n s)
time_of-time_list y m d h n s hy hm hd hh hn hs real =
    let f1 = digit (y / 1000) (omega arith) in
    let f2 = digit (y / 100 % 10) (omega arith) in
    let f3 = digit (y / 10 % 10) (omega arith) in
    let f4 = digit (y % 10) (omega arith) in
    rw (
      f1,
      f2,
      f3,
      f4,
      digit (m / 10) (omega arith),
      digit (m % 10) (omega arith),
      digit (d / 10) (omega arith),
      digit (d % 10) (omega arith),
      digit (h / 10) (omega arith),
      digit (h % 10) (omega arith),
      digit (n / 10) (omega arith),
      digit (n % 10) (omega arith),
      digit (s / 10) (omega arith),
      digit (s % 10) (omega arith),
      year_back y,
      two_back m,
      two_back d,
      two_back h,
      two_back n,
      two_back s,
      real,
    ) refl
