use Rattle.command_words.proofs.WordLemmas.{all_good}
use Rattle.command_words.proofs.words.faulty.Goals as goal

pub faulty_word-requires-clause-good : goal.faulty_word-requires-clause-good
faulty_word-requires-clause-good c = all_good
