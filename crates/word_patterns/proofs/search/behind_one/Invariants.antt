use Rattle.std.proofs.Common.{◌≡◌, ◌++◌, length}
use Rattle.word_patterns.specs.Grammar.{behind_one}
use Rattle.word_patterns.specs.Patterns.{cursors_in}
use Rattle.word_patterns.proofs.search.behind_one.Given as goal

-- what was put, and what the patterns that are left put, is the whole
abbrev pub invariant-cursors : goal.invariant-cursors
invariant-cursors l = cursors_in l.next.items ++ behind_one l.word (cursors_in l.rest) ≡ behind_one l.word (cursors_in l.fn.cursors)

abbrev pub decreases-cursors : goal.decreases-cursors
decreases-cursors l = length l.rest
