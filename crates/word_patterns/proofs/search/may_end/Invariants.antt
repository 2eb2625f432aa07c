use Rattle.std.proofs.Common.{◌≡◌, length}
use Rattle.word_patterns.specs.Grammar.{may_end}
use Rattle.word_patterns.specs.Patterns.{cursor_in}
use Rattle.word_patterns.proofs.search.may_end.Given as goal

-- the parts that were passed need no word
abbrev pub invariant-parts : goal.invariant-parts
invariant-parts l = may_end (cursor_in l.fn.cursor) ≡ may_end (cursor_in l.rest)

abbrev pub decreases-parts : goal.decreases-parts
decreases-parts l = length l.rest.parts.now
