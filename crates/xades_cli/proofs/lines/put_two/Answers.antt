use Rattle.std.proofs.Common.{ap, ◌∙◌}
use Rattle.xa_io.specs.Sink.{appended}
use Rattle.xa_io.proofs.Parts.{appended_append, gave_later}
use Rattle.xades_cli.proofs.lines.put_two.Goals as goal

pub returns-in-Ok-put-clause-ok : goal.returns-in-Ok-put-clause-ok
returns-in-Ok-put-clause-ok g c =
    c.in-Ok-put.ensures.ok ∙ ap (λ o. appended o c.args.second.now) c.in-Ok.ensures.ok ∙ appended_append (g.E.Sink.given c.args.err.now) c.args.first.now c.args.second.now

pub returns-in-Err-put-clause-part : goal.returns-in-Err-put-clause-part
returns-in-Err-put-clause-part g c = gave_later c.args.first.now c.args.second.now _ _ _ c.in-Ok.ensures.ok c.in-Err-put.ensures.part
