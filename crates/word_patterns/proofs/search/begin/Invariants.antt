use Rattle.std.proofs.Common.{◌≡◌, ◌++◌, length}
use Rattle.word_patterns.specs.Patterns.{cursors_in, patterns_in}
use Rattle.word_patterns.proofs.search.begin.Given as goal

-- those that were put, and those that are left, are all
abbrev pub invariant-patterns : goal.invariant-patterns
invariant-patterns l = cursors_in l.cursors.items ++ patterns_in l.rest ≡ patterns_in l.fn.patterns

abbrev pub decreases-patterns : goal.decreases-patterns
decreases-patterns l = length l.rest
