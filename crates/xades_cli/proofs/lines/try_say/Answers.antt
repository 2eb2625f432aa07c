use Rattle.std.proofs.Common.{sym}
use Rattle.xa_io.proofs.Parts.{appended_nil}
use Rattle.xades_cli.proofs.lines.try_say.Goals as goal

pub returns-in-Done-clause-ok : goal.returns-in-Done-clause-ok
returns-in-Done-clause-ok g c = rw c.in-Done.is (sym (appended_nil (g.E.Sink.given c.args.err.now)))

pub returns-in-No-clause-ok : goal.returns-in-No-clause-ok
returns-in-No-clause-ok g c = rw c.in-No.is (sym (appended_nil (g.E.Sink.given c.args.err.now)))
