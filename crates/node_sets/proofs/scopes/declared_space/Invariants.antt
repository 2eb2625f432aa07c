use Rattle.std.proofs.Common.{◌≡◌}
use Rattle.std.specs.Prelude.{IfSome}
use Rattle.std.specs.Str.{chars}
use Rattle.document_model.specs.Scopes.{declared_space}
use Rattle.doc_spans.specs.Seen.{Has}
use Rattle.node_sets.specs.Scopes.{scope_of, scope_from}
use Rattle.node_sets.proofs.InScope.{steps_from}
use Rattle.node_sets.proofs.scopes.declared_space.Given as goal

-- the elements that were passed don't declare the prefix
abbrev pub invariant-outward : goal.invariant-outward
invariant-outward l = IfSome l.at (Has l.doc) × (declared_space (chars l.prefix) (scope_of l.doc l.fn.node) ≡ declared_space (chars l.prefix) (scope_from l.doc l.at))

abbrev pub decreases-outward : goal.decreases-outward
decreases-outward l = steps_from l.doc l.at
