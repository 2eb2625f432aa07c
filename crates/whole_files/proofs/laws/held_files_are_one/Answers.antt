use Rattle.whole_files.proofs.HeldLemmas.{held_once}
use Rattle.whole_files.proofs.laws.held_files_are_one.Goals as goal

pub returns : goal.returns
returns c = held_once
