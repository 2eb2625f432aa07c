use Rattle.std.proofs.Common.{◌≡◌, length}
use denote.Text.{Utf8}
use denote.Shadow.{shadow}
use Rattle.std.specs.Str.{chars}
use Rattle.document_model.specs.Canonical.{is_before}
use Rattle.xml_items.specs.Found.{value_in, IsValueText}
use Rattle.canon_tags.proofs.orders.is_value_before.Given as goal

-- what the values give is what is left of them gives
abbrev pub invariant-characters : goal.invariant-characters
invariant-characters l =
    shadow (Utf8 l.x) × shadow (Utf8 l.y) × IsValueText l.x × IsValueText l.y
    × (is_before (value_in (chars l.a)) (value_in (chars l.b)) ≡ is_before (value_in (chars l.x)) (value_in (chars l.y)))

abbrev pub decreases-characters : goal.decreases-characters
decreases-characters l = length l.y
