use Rattle.std.proofs.Common.{◌≡◌, drop, length, sym, refl, ◌∙◌, arith, length-append, length-drop, length-take, lit≤, rules}
use Rattle.std.proofs.lemmas.List.{take-append-le, take_all}
use Rattle.xmss_definitions.proofs.Paths.{lifted_none, lifted_more, l_tree_is}
use Rattle.xmssmt_verify.proofs.tree.l_tree.Goals as goal

pub heights-init : goal.heights-init
heights-init c =
    let long : length c.args.ends ≡ 67 = search rules in
    (long, lit≤ tt, lit≤ tt, rw (lifted_none, take_all 67 c.args.ends (omega arith)) refl)

pub heights-preserved : goal.heights-preserved
heights-preserved c =
    let inv = c.heights.invariant in
    let front = length-take c.heights.count c.heights.nodes in
    let same = c.pair_up-count.auto.nodes in
    let count = c.pair_up-count.ensures.count in
    let rest = length-drop c.heights.count c.heights.nodes in
    let whole = length-append c.pair_up-count.new.nodes (drop c.heights.count c.heights.nodes) in
    let cut = take-append-le c.pair_up-count.result c.pair_up-count.new.nodes (drop c.heights.count c.heights.nodes) (omega arith) in (
      omega arith,
      omega arith,
      omega arith,
      cut ∙ c.pair_up-count.ensures.value ∙ rw inv.3 (sym (lifted_more _ _ _ _)),
    )

pub returns : goal.returns
returns c =
    let inv = c.heights.invariant in
    l_tree_is c.args.prf.now c.args.leaf c.args.ends c.heights.nodes c.heights.count c.heights.height (omega arith) inv.3 (omega arith) (omega arith)
