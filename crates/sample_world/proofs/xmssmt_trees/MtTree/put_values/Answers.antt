use Rattle.std.proofs.Common.{◌≡◌, append_assoc, refl, rules}
use Rattle.std.proofs.lemmas.List.{append-nil}
use Rattle.xmss_definitions.specs.Wots.{chain, digit}
use Rattle.sample_world.specs.MtTrees.{MadeTree, tree_of, secrets_of}
use Rattle.sample_world.proofs.Trees.{joined_none, joined_more}
use Rattle.sample_world.proofs.xmssmt_trees.MtTree.put_values.Goals as goal

pub chains-init : goal.chains-init
chains-init c = rw (joined_none, append-nil) refl

pub chains-preserved : goal.chains-preserved
chains-preserved c =
    let made : MadeTree = record { secret = c.self.inside.secret; layer = c.self.inside.layer; number = c.self.inside.number } in
    let value : c.chain-value.result ≡ chain (tree_of made) c.args.idx c.chains.i 0 (digit c.digits-digits.result c.chains.i) (secrets_of made c.args.idx c.chains.i) =
    rw (c.self.invariant.0, c.xmssmt_secret-start.ensures, c.from-steps.ensures, c.digit.ensures.value) at c.chain-value.ensures in
    rw (← c.self.view_is, joined_more, ← append_assoc, ← rw (← c.self.view_is) at c.chains.invariant, ← value) (search rules)
