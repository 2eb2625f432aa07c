use Rattle.std.proofs.Common.{sym}
use Rattle.cert_paths.proofs.PoolLaws.{fresh_from, place_from}
use Rattle.cert_paths.proofs.pool.place_of.Goals as goal

pub returns-in-None : goal.returns-in-None
returns-in-None c = fresh_from c.args.bytes.now c.args.held.now.entries (sym c.in-None.ensures.value)

pub returns-in-Some : goal.returns-in-Some
returns-in-Some c =
    place_from c.args.bytes.now c.args.held.now.entries c.in-Some.field-0-0 (c.in-Some.field-0-1.now, c.in-Some.place.now) (sym c.in-Some.ensures.index) c.in-Some.ensures.entry
