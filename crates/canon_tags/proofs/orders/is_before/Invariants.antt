use Rattle.std.proofs.Common.{◌≡◌, length}
use denote.Text.{Utf8}
use denote.Shadow.{shadow}
use Rattle.std.specs.Str.{chars}
use Rattle.document_model.specs.Canonical.{is_before}
use Rattle.canon_tags.proofs.orders.is_before.Given as goal

-- what the texts give is what is left of them gives
abbrev pub invariant-characters : goal.invariant-characters
invariant-characters l = shadow (Utf8 l.x) × shadow (Utf8 l.y) × (is_before (chars l.a) (chars l.b) ≡ is_before (chars l.x) (chars l.y))

abbrev pub decreases-characters : goal.decreases-characters
decreases-characters l = length l.y
