use denote.Text.{Utf8}
use denote.Shadow.{shadow}
use Rattle.std.specs.Str.{chars}
use Rattle.xml_items.proofs.Attributes.{Counts}
use Rattle.xml_items.proofs.tags.attribute_count.Given as goal

-- the attributes that are left
abbrev pub invariant-loop-count : goal.invariant-loop-count
invariant-loop-count l = shadow (Utf8 l.rest) × Counts (chars l.attributes) (chars l.rest) l.count
