use Rattle.std.proofs.Common.{◌≡◌, append_assoc, refl, rules}
use Rattle.std.proofs.lemmas.List.{append-nil}
use Rattle.lms_verify.specs.LmOts.{chain, coef}
use Rattle.sample_world.specs.LmsKeys.{secret}
use Rattle.sample_world.proofs.Trees.{joined_none, joined_more}
use Rattle.sample_world.proofs.lms_trees.LmsTree.put_values.Goals as goal

pub chains-init : goal.chains-init
chains-init c = rw (joined_none, append-nil) refl

pub chains-preserved : goal.chains-preserved
chains-preserved c =
    let value : c.chain-value.result ≡ chain c.self.inside.id c.args.q c.chains.i 0 (coef c.digits-digits.result c.chains.i 8) (secret c.self.inside.seed c.self.inside.id c.args.q c.chains.i) =
    rw (c.secret-start.ensures, c.coef.ensures.value) at c.chain-value.ensures in
    rw (← c.self.view_is, joined_more, ← append_assoc, ← rw (← c.self.view_is) at c.chains.invariant, ← value) (search rules)
