use Rattle.std.proofs.Common.{◌≡◌, ◌++◌, ◌+◌, ◌/◌, ◌^◌}
use Rattle.sample_world.specs.Joined.{joined, sibling}
use Rattle.sample_world.specs.LmsKeys.{node}
use Rattle.sample_world.proofs.lms_trees.LmsTree.put_path.Given as goal

abbrev pub invariant-heights : goal.invariant-heights
invariant-heights l =
    (l.r ≡ (32 + l.q) / 2 ^ l.n)
    × (l.out ≡ l.fn.out ++ joined (λ k. node l.self.seed l.self.id (sibling ((32 + l.q) / 2 ^ k)) k) l.n)
