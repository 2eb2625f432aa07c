use Rattle.std.proofs.Common.{◌≡◌, ◌++◌, length}
use Rattle.word_patterns.specs.Grammar.{behind}
use Rattle.word_patterns.specs.Patterns.{cursor_in, cursors_in}
use Rattle.word_patterns.proofs.search.push_behind.Given as goal

-- what was put, and what the parts that are left put, is the whole
abbrev pub invariant-parts : goal.invariant-parts
invariant-parts l = cursors_in l.cursors.items ++ behind l.word (cursor_in l.cursor) ≡ cursors_in l.initial.cursors.items ++ behind l.word (cursor_in l.initial.cursor)

abbrev pub decreases-parts : goal.decreases-parts
decreases-parts l = length l.cursor.parts.now
