use Rattle.std.proofs.Common.{◌<◌, arith}
use Rattle.cert_paths.specs.Numbered.{LeadsWithin}
use Rattle.cert_paths.proofs.Steps.{entry_pushed}
use Rattle.cert_paths.proofs.search.first_table.Goals as goal

pub loop-place-preserved : goal.loop-place-preserved
loop-place-preserved g c =
    let each = c.loop-place.invariant.0 in
    let len = c.in_ok-push.ensures.len in (
      omega arith,
      entry_pushed (LeadsWithin (g.G.Graph.issuing c.args.graph.now) 0) (λ n. n < 8) (λ n lt. lt) c.loop-place.table.items c.push.new.self.items c.loop-place.place
          c.first_entry.result c.in_ok-push.ensures.items each c.loop-place.invariant.1 (λ room. c.first_entry.ensures),
    )
