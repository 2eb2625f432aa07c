use Rattle.std.proofs.Common.{◌≡◌, ◌++◌}
use Rattle.lms_verify.specs.LmOts.{chain, coef}
use Rattle.sample_world.specs.Joined.{joined}
use Rattle.sample_world.specs.LmsKeys.{secret}
use Rattle.sample_world.proofs.lms_trees.LmsTree.put_values.Given as goal

abbrev pub invariant-chains : goal.invariant-chains
invariant-chains l =
    l.out ≡ l.fn.out ++ joined (λ i. chain l.self.id l.q i 0 (coef l.digits i 8) (secret l.self.seed l.self.id l.q i)) l.i
