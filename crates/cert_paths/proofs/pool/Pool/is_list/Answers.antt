use Rattle.std.proofs.Common.{List, slice_get, sym, ap, ◌∙◌}
use Rattle.acceptance.specs.Certificates.{Part}
use Rattle.cert_paths.specs.Pool.{part_numbers, is_list_at}
use Rattle.cert_paths.proofs.PoolLaws.{list_there}
use Rattle.cert_paths.proofs.pool.Pool.is_list.Goals as goal

pub returns : goal.returns
returns c =
    list_there c.self.inside.objects c.self.inside.held.entries c.args.number (c.in-Some.field-0-0.now, c.in-Some.place.now) c.self.invariant (sym c.in-Some.ensures.entry)
    ∙ ap (λ (pool : List Part). is_list_at pool (slice_get (part_numbers pool) c.args.number)) c.self.view_is
