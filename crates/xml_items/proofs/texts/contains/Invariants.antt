use Rattle.std.proofs.Common.{◌≡◌, length}
use denote.Text.{Utf8}
use denote.Shadow.{shadow}
use Rattle.std.specs.Str.{chars}
use Rattle.document_model.specs.Characters.{contains}
use Rattle.xml_items.proofs.texts.contains.Given as goal

-- the part doesn't begin before the rest
abbrev pub invariant-loop-rest : goal.invariant-loop-rest
invariant-loop-rest l = shadow (Utf8 l.rest) × (contains (chars l.text) l.part ≡ contains (chars l.rest) l.part)

abbrev pub decreases-loop-rest : goal.decreases-loop-rest
decreases-loop-rest l = length l.rest
