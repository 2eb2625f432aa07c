use Rattle.std.proofs.Common.{◌≤◌, sym, subst, ap, ◌∙◌, arith, ◌-◌}
use Rattle.insertions.specs.Placed.{last_place}
use Rattle.insertions.proofs.WithAll.{last_next}
use Rattle.insertions.proofs.pieces.Insertions.open.Goals as goal

pub add-result-requires : goal.add-result-requires
add-result-requires c =
    let last = ap last_place c.in_ok-push.ensures.ok ∙ last_next 0 c.args.self.now _ in
    subst (λ n. n ≤ c.args.end - 1) (sym last) (omega (arith, c.requires.end))
