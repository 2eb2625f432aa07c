use Rattle.std.proofs.Common.{◌+◌, ◌<◌, arith}
use Rattle.cert_paths.specs.Numbered.{LeadsWithin}
use Rattle.cert_paths.proofs.Steps.{entry_pushed}
use Rattle.cert_paths.proofs.search.next_table.Goals as goal

pub loop-place-preserved : goal.loop-place-preserved
loop-place-preserved g c =
    let each = c.loop-place.invariant.0 in
    let len = c.in_ok-push.ensures.len in (
      omega arith,
      entry_pushed (LeadsWithin (g.G.Graph.issuing c.args.graph.now) (c.args.steps + 1)) (λ n. n + c.args.steps < 7) (λ n lt. omega arith) c.loop-place.table.items
          c.push.new.self.items c.loop-place.place c.next_entry.result c.in_ok-push.ensures.items each c.loop-place.invariant.1 c.next_entry.ensures,
    )
