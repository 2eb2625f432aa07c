use Rattle.std.proofs.Common.{sym, ap, ◌∙◌}
use Rattle.doc_spans.specs.Seen.{path_in}
use Rattle.signature_model.specs.Readable.{by_shape}
use Rattle.signature_shape.specs.Faults.{fault_in}
use Rattle.qualifying_props.proofs.read.judge_shape.Goals as goal

pub returns-in-Some-clause-err : goal.returns-in-Some-clause-err
returns-in-Some-clause-err c next =
    let doc = c.args.doc in
    (path_in doc c.in-Some.fault.node, ap (by_shape next) (sym c.in_ok-found.ensures.fault ∙ ap (fault_in doc) c.in-Some.is), c.beginning.ensures)

pub returns-in-None-clause-ok : goal.returns-in-None-clause-ok
returns-in-None-clause-ok c = record { none = sym c.in_ok-found.ensures.fault ∙ ap (fault_in c.args.doc) c.in-None.is }
