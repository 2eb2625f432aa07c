-- What a character is to base64: RFC 4648, section 4.
use Rattle.std.specs.Prelude.{ℕ, ◌+◌, ◌-◌, nat_eq, nat_le, Bool, ◌&&◌, if◌then◌else◌, Option, Some, None}

-- whether a number is at most one, and at least another
abbrev pub is_within : ℕ → ℕ → ℕ → Bool
is_within low high c = nat_le c high && nat_le low c

-- the value of a symbol: table 1. A letter, a digit, `+` or `/`
unfoldable pub value_of : ℕ → Option ℕ
value_of c = if is_within 65 90 c then Some (c - 65)
    else (if is_within 97 122 c then Some (c - 71)
    else (if is_within 48 57 c then Some (c + 4)
    else (if nat_eq c 43 then Some 62
    else (if nat_eq c 47 then Some 63 else None))))

-- the padding character, `=`
abbrev pub is_padding : ℕ → Bool
is_padding c = nat_eq c 61
