use Rattle.std.proofs.Common.{◌≡◌, length, map}
use Rattle.xml_items.specs.Attributes.{attribute_in}
use Rattle.doc_spans.specs.ScopesIn.{scope_in, attributes_soundly}
use Rattle.doc_spans.proofs.tabled.Known.has_sound_attributes.Given as goal

-- those that were passed are sound, before all behind them
abbrev pub invariant-attributes : goal.invariant-attributes
invariant-attributes l = attributes_soundly (scope_in l.self.scope) (map attribute_in l.fn.attributes) ≡ attributes_soundly (scope_in l.self.scope) (map attribute_in l.rest)

abbrev pub decreases-attributes : goal.decreases-attributes
decreases-attributes l = length l.rest
