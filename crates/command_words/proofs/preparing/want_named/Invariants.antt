use Rattle.std.proofs.Common.{◌≡◌, ◌++◌, map, take}
use Rattle.std.specs.Prelude.{filter}
use Rattle.word_patterns.specs.Grammar.{text_now}
use Rattle.whole_files.specs.Wants.{want_of}
use Rattle.command_words.specs.Wanting.{external_want}
use Rattle.command_words.specs.Preparing.{names_file}
use Rattle.command_words.proofs.preparing.want_named.Given as goal

abbrev pub invariant-loop-uri : goal.invariant-loop-uri
invariant-loop-uri l = map want_of l.wanted.items ≡ map want_of l.initial.wanted.items ++ map external_want (filter names_file (map text_now (take l.uri-index l.uris)))
