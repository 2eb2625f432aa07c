use Rattle.command_words.proofs.MakerLemmas.{no_name}
use Rattle.command_words.proofs.preparing.names_file.Goals as goal

pub returns-in-None : goal.returns-in-None
returns-in-None c = no_name c.args.uri.now c.in-None.ensures.chars
