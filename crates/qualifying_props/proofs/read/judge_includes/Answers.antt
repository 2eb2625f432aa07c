use Rattle.std.proofs.Common.{sym, ap, ◌∙◌}
use Rattle.std.specs.Prelude.{option_map}
use Rattle.doc_spans.specs.Seen.{path_in}
use Rattle.signature_model.specs.Readable.{by_include}
use Rattle.qualifying_props.proofs.read.judge_includes.Goals as goal

pub returns-in-Some-clause-err : goal.returns-in-Some-clause-err
returns-in-Some-clause-err c next =
    let doc = c.args.doc in
    (path_in doc c.in-Some.node, ap (by_include next) (sym c.first_include.ensures.place ∙ ap (option_map (path_in doc)) (sym c.node.ensures ∙ c.in-Some.is)), c.beginning.ensures)

pub returns-in-None-clause-ok : goal.returns-in-None-clause-ok
returns-in-None-clause-ok c = sym c.first_include.ensures.place ∙ ap (option_map (path_in c.args.doc)) (sym c.node.ensures ∙ c.in-None.is)
