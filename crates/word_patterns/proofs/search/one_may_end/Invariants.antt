use Rattle.std.proofs.Common.{◌≡◌, length}
use Rattle.word_patterns.specs.Grammar.{one_may_end}
use Rattle.word_patterns.specs.Patterns.{cursors_in}
use Rattle.word_patterns.proofs.search.one_may_end.Given as goal

-- those that were passed want a word
abbrev pub invariant-cursors : goal.invariant-cursors
invariant-cursors l = one_may_end (cursors_in l.fn.cursors) ≡ one_may_end (cursors_in l.rest)

abbrev pub decreases-cursors : goal.decreases-cursors
decreases-cursors l = length l.rest
