use Rattle.std.proofs.Common.{◌≡◌, drop, map, string_bytes}
use Rattle.word_patterns.specs.Grammar.{faulty_from}
use Rattle.word_patterns.specs.Good.{AreFew}
use Rattle.word_patterns.specs.Patterns.{cursors_in, patterns_in}
use Rattle.word_patterns.proofs.search.search.Given as goal

-- the faulty word is that of the words that are left, behind what may stand here
abbrev pub invariant-loop-word : goal.invariant-loop-word
invariant-loop-word l =
    (faulty_from 1 (patterns_in l.fn.patterns) (map string_bytes l.fn.words) ≡ faulty_from l.number (cursors_in l.cursors.items) (map string_bytes (drop l.word-index l.words)))
    × AreFew l.number (cursors_in l.cursors.items)
