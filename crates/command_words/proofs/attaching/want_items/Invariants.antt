use Rattle.std.proofs.Common.{◌≡◌, ◌++◌, map, take}
use Rattle.word_patterns.specs.Keyed.{keyed_now}
use Rattle.whole_files.specs.Wants.{want_of}
use Rattle.command_words.specs.Attaching.{item_want}
use Rattle.command_words.proofs.attaching.want_items.Given as goal

abbrev pub invariant-loop-item : goal.invariant-loop-item
invariant-loop-item l = map want_of l.wanted.items ≡ map want_of l.initial.wanted.items ++ map item_want (map keyed_now (take l.item-index l.items))
