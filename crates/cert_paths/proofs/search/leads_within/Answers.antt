use Rattle.std.proofs.Common.{◌+◌, sym, ◌∙◌, true≢false}
use Rattle.cert_paths.proofs.Steps.{further, taken, at_once}
use Rattle.cert_paths.proofs.search.leads_within.Goals as goal

pub returns-else-is_rooted : goal.returns-else-is_rooted
returns-else-is_rooted g c =
    let issuing = g.G.Graph.issuing c.args.graph.now in (
      λ h. further issuing c.args.steps c.args.counted c.args.certificate (c.leads_above.ensures.0 h),
      λ h. c.leads_above.ensures.1 (taken issuing c.args.steps c.args.counted c.args.certificate (λ root. true≢false (sym (c.is_rooted.ensures.1 root) ∙ c.if-is_rooted.false)) h),
    )

pub returns-then-is_rooted : goal.returns-then-is_rooted
returns-then-is_rooted g c =
    let issuing = g.G.Graph.issuing c.args.graph.now in
    (λ h. at_once issuing (c.args.steps + 1) c.args.counted c.args.certificate (c.is_rooted.ensures.0 c.if-is_rooted.true), λ h. c.if-is_rooted.true)
