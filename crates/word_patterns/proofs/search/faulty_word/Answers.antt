use Rattle.std.proofs.Common.{map, string_bytes}
use Rattle.word_patterns.specs.Patterns.{patterns_in}
use Rattle.word_patterns.proofs.Cursors.{found}
use Rattle.word_patterns.proofs.search.faulty_word.Goals as goal

pub returns : goal.returns
returns c = found (patterns_in c.args.patterns.now) (map string_bytes c.args.words.now) c.search.result c.requires.some c.requires.good c.search.ensures
