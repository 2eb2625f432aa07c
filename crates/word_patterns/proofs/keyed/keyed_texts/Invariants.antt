use Rattle.std.proofs.Common.{◌≡◌, take, map, string_bytes}
use Rattle.word_patterns.specs.Keyed.{keyed_texts, key_now, keyed_now}
use Rattle.word_patterns.proofs.keyed.keyed_texts.Given as goal

-- the texts of the words so far
abbrev pub invariant-loop-word : goal.invariant-loop-word
invariant-loop-word g l = map keyed_now l.texts.items ≡ keyed_texts (map key_now l.keys) (map string_bytes (take l.word-index l.words))
