use Rattle.std.specs.Prelude.{Some}
use Rattle.std.proofs.lemmas.Grind.{common_steps}
use Rattle.std.proofs.Common.{arith}
use Rattle.xa_io.specs.Sink.{appended}
use Rattle.xa_io.proofs.Parts.{gave_take}
use Rattle.xa_io.proofs.memory.MemSinkSink.put.Goals as goal

pub returns-in-Some-clause-part : goal.returns-in-Some-clause-part
unfolding appended
returns-in-Some-clause-part c =
    gave_take c.args.piece.now (Some c.args.self.now.bytes.items) (Some c.extend_from_slice.new.self.items) c.min-count.result (grind (arith, common_steps))
