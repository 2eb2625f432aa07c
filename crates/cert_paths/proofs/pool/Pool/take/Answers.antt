use Rattle.std.proofs.Common.{◌≡◌, ◌++◌, ◌∷◌, [], List, sym, ap, ◌∙◌, length, arith}
use Rattle.acceptance.specs.Certificates.{Part, other}
use Rattle.cert_paths.proofs.HeldLaws.{length-parts_below, taken, IsHeld-taken}
use Rattle.cert_paths.proofs.pool.Pool.take.Goals as goal

pub overflow_add-self : goal.overflow_add-self
overflow_add-self c =
    let long : c.self.inside.objects ≡ length c.args.self.now = sym (length-parts_below c.self.inside.objects c.self.inside.held.entries) ∙ ap length c.self.view_is in
    omega arith

pub invariant_of-self : goal.invariant_of-self
invariant_of-self c = IsHeld-taken _ _ c.self.invariant

pub returns-clause-pool : goal.returns-clause-pool
returns-clause-pool c =
    taken c.self.inside.objects c.self.inside.held.entries c.self.invariant ∙ ap (λ (ps : List Part). ps ++ other ∷ []) c.self.view_is

pub returns-clause-number : goal.returns-clause-number
returns-clause-number c = sym (length-parts_below c.self.inside.objects c.self.inside.held.entries) ∙ ap length c.self.view_is
