use Rattle.std.proofs.Common.{◌≡◌, map, string_bytes, length}
use Rattle.word_patterns.specs.Grammar.{text_behind}
use Rattle.word_patterns.proofs.lookup.text_behind.Given as goal

-- the words that were passed don't begin with the key
abbrev pub invariant-words : goal.invariant-words
invariant-words l = text_behind l.key (map string_bytes l.fn.words) ≡ text_behind l.key (map string_bytes l.rest)

abbrev pub decreases-words : goal.decreases-words
decreases-words l = length l.rest
