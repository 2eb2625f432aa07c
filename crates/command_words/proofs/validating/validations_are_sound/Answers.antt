use Rattle.command_words.proofs.MakerLemmas.{sound_validation}
use Rattle.command_words.proofs.validating.validations_are_sound.Goals as goal

pub returns : goal.returns
returns c = sound_validation
