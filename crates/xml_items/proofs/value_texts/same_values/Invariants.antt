use Rattle.std.proofs.Common.{◌≡◌, length}
use denote.Text.{Utf8}
use denote.Shadow.{shadow}
use Rattle.std.specs.Str.{chars, bytes_eq}
use Rattle.xml_items.specs.Found.{value_in, IsValueText}
use Rattle.xml_items.proofs.value_texts.same_values.Given as goal

-- the values are the same where those of the rests are
abbrev pub invariant-characters : goal.invariant-characters
invariant-characters l =
    shadow (Utf8 l.x) × shadow (Utf8 l.y) × IsValueText l.x × IsValueText l.y
    × (bytes_eq (value_in (chars l.a)) (value_in (chars l.b)) ≡ bytes_eq (value_in (chars l.x)) (value_in (chars l.y)))

abbrev pub decreases-characters : goal.decreases-characters
decreases-characters l = length l.x
