use Rattle.std.proofs.Common.{◌%◌, ◌/◌}
use Rattle.cert_paths.proofs.Steps.{at_once, only_at_once}
use Rattle.cert_paths.proofs.search.first_entry.Goals as goal

pub returns : goal.returns
returns g c =
    let issuing = g.G.Graph.issuing c.args.graph.now in (
      λ h. at_once issuing 0 (c.args.place % 8) (c.args.place / 8) (c.is_rooted.ensures.0 h),
      λ h. c.is_rooted.ensures.1 (only_at_once issuing (c.args.place % 8) (c.args.place / 8) h),
    )
