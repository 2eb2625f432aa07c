use Rattle.std.proofs.Common.{sym, ap, ◌∙◌, length}
use Rattle.cert_paths.proofs.HeldLaws.{length-parts_below}
use Rattle.cert_paths.proofs.pool.Pool.objects.Goals as goal

pub returns : goal.returns
returns c = sym (length-parts_below c.self.inside.objects c.self.inside.held.entries) ∙ ap length c.self.view_is
