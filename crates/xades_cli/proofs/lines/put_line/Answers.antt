use Rattle.std.proofs.Common.{◌++◌, ap, ◌∙◌, codes}
use Rattle.xa_io.specs.Sink.{appended}
use Rattle.xa_io.proofs.Parts.{appended_append, gave_within, gave_later}
use Rattle.xades_cli.proofs.lines.put_line.Goals as goal

pub returns-in-Err-clause-part : goal.returns-in-Err-clause-part
returns-in-Err-clause-part g c =
    gave_within (c.args.opening.now ++ c.args.first.now ++ c.args.middle.now) (c.args.second.now ++ codes "\n") _ _ c.in-Err.ensures.part

pub returns-in-Ok-put_two-clause-ok : goal.returns-in-Ok-put_two-clause-ok
returns-in-Ok-put_two-clause-ok g c =
    c.in-Ok-put_two.ensures.ok ∙ ap (λ o. appended o (c.args.second.now ++ codes "\n")) c.in-Ok.ensures.ok
    ∙ appended_append (g.E.Sink.given c.args.err.now) (c.args.opening.now ++ c.args.first.now ++ c.args.middle.now) (c.args.second.now ++ codes "\n")

pub returns-in-Err-put_two-clause-part : goal.returns-in-Err-put_two-clause-part
returns-in-Err-put_two-clause-part g c =
    gave_later (c.args.opening.now ++ c.args.first.now ++ c.args.middle.now) (c.args.second.now ++ codes "\n") _ _ _ c.in-Ok.ensures.ok c.in-Err-put_two.ensures.part
