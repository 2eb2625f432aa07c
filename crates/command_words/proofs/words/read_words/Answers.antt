use Rattle.std.proofs.Common.{map, string_bytes, subst}
use Rattle.std.specs.Prelude.{MatchOption}
use Rattle.word_patterns.specs.Grammar.{IsFaultyWord}
use Rattle.command_words.specs.Asked.{IsSound}
use Rattle.command_words.specs.Words.{IsCommand, patterns}
use Rattle.command_words.proofs.WordLemmas.{sound_words}
use Rattle.command_words.proofs.words.read_words.Goals as goal

pub returns-in_ok-command_of-in-None : goal.returns-in_ok-command_of-in-None
returns-in_ok-command_of-in-None c =
    let words = map string_bytes c.args.words.now in
    let command : IsCommand words = subst (λ number. MatchOption number (IsCommand words) (λ at. IsFaultyWord patterns words at)) c.in-None.is c.in_ok-index.ensures in
    (command, c.in_ok-command_of-in-None.ensures, subst IsSound c.in_ok-command_of-in-None.ensures (sound_words words command))
