use Rattle.std.proofs.Common.{◌≡◌, ◌++◌, map, take}
use Rattle.word_patterns.specs.Grammar.{text_now}
use Rattle.whole_files.specs.Wants.{want_of}
use Rattle.command_words.specs.Wanting.{certificate_want}
use Rattle.command_words.proofs.preparing.want_certificates.Given as goal

abbrev pub invariant-loop-name : goal.invariant-loop-name
invariant-loop-name l = map want_of l.wanted.items ≡ map want_of l.initial.wanted.items ++ map certificate_want (map text_now (take l.name-index l.names))
