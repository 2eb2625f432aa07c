use Rattle.command_words.proofs.MakerLemmas.{sound_preparation}
use Rattle.command_words.proofs.preparing.preparations_are_sound.Goals as goal

pub returns : goal.returns
returns c = sound_preparation
