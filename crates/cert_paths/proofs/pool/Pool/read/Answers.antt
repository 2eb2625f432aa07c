use Rattle.std.proofs.Common.{List, Some, slice_get, sym, ap, ◌∙◌}
use Rattle.acceptance.specs.Certificates.{Part}
use Rattle.cert_paths.specs.Held.{part_of}
use Rattle.cert_paths.specs.Pool.{part_numbers}
use Rattle.cert_paths.proofs.PoolLaws.{read_there}
use Rattle.cert_paths.proofs.pool.Pool.read.Goals as goal

pub returns : goal.returns
returns c n is =
    ap (λ (pool : List Part). slice_get pool n) (sym c.self.view_is)
    ∙ read_there c.self.inside.objects c.self.inside.held.entries c.args.number (c.in-Some.bytes.now, c.in-Some.place.now) c.self.invariant (sym c.in-Some.ensures.entry) n
    (ap (λ (pool : List Part). slice_get (part_numbers pool) c.args.number) c.self.view_is ∙ is)
    ∙ ap Some (sym (c.read_whole.ensures ∙ ap (part_of c.in-Some.place.now.is_list) c.as_slice.ensures.value))
