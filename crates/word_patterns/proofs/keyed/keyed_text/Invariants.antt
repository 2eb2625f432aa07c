use Rattle.std.proofs.Common.{◌≡◌, map, length}
use Rattle.word_patterns.specs.Keyed.{keyed_text, key_now}
use Rattle.word_patterns.proofs.keyed.keyed_text.Given as goal

-- the word begins with none of the keys that were passed
abbrev pub invariant-keys : goal.invariant-keys
invariant-keys g l = keyed_text (map key_now l.fn.keys) l.word ≡ keyed_text (map key_now l.rest) l.word

abbrev pub decreases-keys : goal.decreases-keys
decreases-keys g l = length l.rest
