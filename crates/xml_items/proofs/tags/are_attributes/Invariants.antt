use Rattle.std.proofs.Common.{◌≡◌, is_some}
use denote.Text.{Utf8}
use denote.Shadow.{shadow}
use Rattle.std.specs.Str.{chars}
use Rattle.xml_items.specs.Found.{read_attributes}
use Rattle.xml_items.proofs.tags.are_attributes.Given as goal

-- what is before the rest is attributes
abbrev pub invariant-loop-rest : goal.invariant-loop-rest
invariant-loop-rest l = shadow (Utf8 l.rest) × (is_some (read_attributes l.most (chars l.text)) ≡ is_some (read_attributes l.left (chars l.rest)))

abbrev pub decreases-loop-rest : goal.decreases-loop-rest
decreases-loop-rest l = l.left
