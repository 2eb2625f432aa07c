use Rattle.std.proofs.Common.{◌≡◌, length, nat_le}
use denote.Text.{Utf8}
use denote.Shadow.{shadow}
use Rattle.std.specs.Prelude.{encode_utf8_all}
use Rattle.std.specs.Str.{chars}
use Rattle.xml_items.specs.Found.{value_in, IsValueText}
use Rattle.xml_items.proofs.value_texts.value_fits.Given as goal

-- the value fits where that of the rest fits into what is left
abbrev pub invariant-characters : goal.invariant-characters
invariant-characters l =
    shadow (Utf8 l.rest) × IsValueText l.rest
    × (nat_le (length (encode_utf8_all (value_in (chars l.text)))) l.most ≡ nat_le (length (encode_utf8_all (value_in (chars l.rest)))) l.left)

abbrev pub decreases-characters : goal.decreases-characters
decreases-characters l = length l.rest
