use Rattle.command_words.proofs.MakerLemmas.{sound_attachment}
use Rattle.command_words.proofs.attaching.attachments_are_sound.Goals as goal

pub returns : goal.returns
returns c = sound_attachment
