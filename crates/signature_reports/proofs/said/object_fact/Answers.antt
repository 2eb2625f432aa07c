use Rattle.std.proofs.Common.{◌<◌, ℕ, sym, subst}
use Rattle.signature_reports.proofs.Objects.{part_within}
use Rattle.signature_reports.proofs.said.object_fact.Goals as goal

pub time-requires : goal.time-requires
time-requires c = subst (λ (n : ℕ). c.part.result.number < n) (sym c.requires.times) (part_within c.args.pool.now c.args.number c.part.result.number c.part.ensures)
