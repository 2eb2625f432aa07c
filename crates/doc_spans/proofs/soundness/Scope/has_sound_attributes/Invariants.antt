use Rattle.std.proofs.Common.{◌≡◌}
use Rattle.xml_items.specs.Attributes.{attributes_left}
use Rattle.doc_spans.specs.ScopesIn.{scope_in, attributes_soundly}
use Rattle.doc_spans.proofs.soundness.Scope.has_sound_attributes.Given as goal

-- those that were passed are sound, before all behind them
abbrev pub invariant-attributes : goal.invariant-attributes
invariant-attributes l = attributes_soundly (scope_in l.self) (attributes_left l.fn.attributes) ≡ attributes_soundly (scope_in l.self) (attributes_left l.rest)

abbrev pub decreases-attributes : goal.decreases-attributes
decreases-attributes l = l.rest.left
