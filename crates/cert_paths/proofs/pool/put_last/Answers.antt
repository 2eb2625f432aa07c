use Rattle.std.proofs.Common.{◌∙◌, refl}
use Rattle.cert_paths.proofs.PoolLaws.{put_behind}
use Rattle.cert_paths.proofs.pool.put_last.Goals as goal

pub returns-clause-ok : goal.returns-clause-ok
returns-clause-ok c = (
  c.in-Ok.copy,
  c.in-Ok.ensures.items,
  c.in-Ok-insert.ensures.entries ∙ put_behind _ (λ a b. refl) c.args.bytes.now c.args.held.now.entries c.in-Ok.copy c.args.place c.in-Ok.ensures.items c.requires,
)
