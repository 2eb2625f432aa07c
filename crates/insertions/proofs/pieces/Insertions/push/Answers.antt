use Rattle.std.proofs.Common.{◌≤◌, subst, sym}
use Rattle.std.specs.Result.{is_ok}
use Rattle.insertions.specs.Placed.{last_place}
use Rattle.insertions.proofs.WithAll.{rises_still}
use Rattle.insertions.proofs.pieces.Insertions.push.Goals as goal

pub invariant_of-self-inside : goal.invariant_of-self-inside
invariant_of-self-inside c = (
  rises_still c.self.inside.list.items c.push.new.self.items c.args.one (is_ok c.push.result) c.self.inside.rise
      (subst (λ all. last_place all ≤ c.args.one.at) (sym c.self.view_is) c.requires) c.push.ensures.items,
  tt,
)
