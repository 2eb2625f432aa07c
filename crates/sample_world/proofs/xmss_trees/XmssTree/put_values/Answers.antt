use Rattle.std.proofs.Common.{◌≡◌, append_assoc, refl, rules}
use Rattle.std.proofs.lemmas.List.{append-nil}
use Rattle.xmss_definitions.specs.Wots.{chain, digit}
use Rattle.xmss_definitions.specs.Address.{only_tree}
use Rattle.sample_world.specs.World.{xmss_secret, xmss_seed}
use Rattle.sample_world.proofs.Trees.{joined_none, joined_more}
use Rattle.sample_world.proofs.xmss_trees.XmssTree.put_values.Goals as goal

pub chains-init : goal.chains-init
chains-init c = rw (joined_none, append-nil) refl

pub chains-preserved : goal.chains-preserved
chains-preserved c =
    let s = c.self.inside.secret in
    let value : c.chain-value.result ≡ chain (only_tree (xmss_seed s)) c.args.idx c.chains.i 0 (digit c.digits-digits.result c.chains.i) (xmss_secret s c.args.idx c.chains.i) =
    rw (c.self.invariant.0, c.xmss_secret-start.ensures, c.from-steps.ensures, c.digit.ensures.value) at c.chain-value.ensures in
    rw (← c.self.view_is, joined_more, ← append_assoc, ← rw (← c.self.view_is) at c.chains.invariant, ← value) (search rules)
