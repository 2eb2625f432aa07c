use Rattle.std.proofs.Common.{◌≡◌, take, map, string_bytes}
use Rattle.word_patterns.specs.Grammar.{text_now, texts_behind}
use Rattle.word_patterns.proofs.lookup.texts_behind.Given as goal

-- the texts of the words so far
abbrev pub invariant-loop-word : goal.invariant-loop-word
invariant-loop-word l = map text_now l.texts.items ≡ texts_behind l.key (map string_bytes (take l.word-index l.words))
