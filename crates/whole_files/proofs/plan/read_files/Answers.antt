use Rattle.std.proofs.Common.{map}
use Rattle.whole_files.specs.Wants.{names_of, want_of}
use Rattle.whole_files.proofs.PlanLemmas.{asks_none}
use Rattle.whole_files.proofs.plan.read_files.Goals as goal

pub returns-in-Err-clause-asked : goal.returns-in-Err-clause-asked
returns-in-Err-clause-asked g c = asks_none (names_of (map want_of c.args.wanted.now)) _
