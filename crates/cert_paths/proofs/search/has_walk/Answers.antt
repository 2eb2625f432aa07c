use Rattle.cert_paths.proofs.Steps.{answer_at_seven}
use Rattle.cert_paths.proofs.search.has_walk.Goals as goal

pub returns : goal.returns
returns g c =
    answer_at_seven (g.G.Graph.issuing c.args.graph.now) c.loop-steps.table.items c.loop-steps.steps c.args.leaf c.index.result.now
    c.loop-steps-test.false c.loop-steps.auto.steps-end c.requires.leaf c.loop-steps.invariant c.index.ensures
