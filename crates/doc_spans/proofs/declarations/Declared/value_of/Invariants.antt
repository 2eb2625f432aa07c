use Rattle.std.proofs.Common.{◌≡◌, ◌≤◌, length, take}
use Rattle.std.specs.Str.{chars}
use Rattle.doc_spans.specs.Scoped.{declared_in}
use Rattle.doc_spans.specs.Declarations.{nearest_first}
use Rattle.doc_spans.proofs.declarations.Declared.value_of.Given as goal

-- those that were passed don't declare the prefix
abbrev pub invariant-declarations : goal.invariant-declarations
invariant-declarations l =
    (l.left ≤ length l.self.items.now)
    × (declared_in (chars l.prefix) (nearest_first l.self.items.now) ≡ declared_in (chars l.prefix) (nearest_first (take l.left l.self.items.now)))

abbrev pub decreases-declarations : goal.decreases-declarations
decreases-declarations l = l.left
