use Rattle.std.proofs.Common.{◌≡◌, ◌++◌, drop, map}
use Rattle.der_values.specs.Distinct.{octets}
use Rattle.report_texts.specs.Words.{behind}
use Rattle.report_texts.proofs.lines.put_words.Given as goal

-- with those that are left, it is the whole
abbrev pub invariant-loop-word : goal.invariant-loop-word
invariant-loop-word l = l.out ++ behind (map octets (drop l.word-index l.words)) ≡ l.initial.out ++ behind (map octets l.words)
