use Rattle.std.proofs.Common.{sym, ◌∙◌, arith}
use Rattle.der_values.proofs.Numbers.{count_small}
use Rattle.der_values.proofs.kinds.count.Goals as goal

pub returns-then-is_small-clause-small : goal.returns-then-is_small-clause-small
returns-then-is_small-clause-small c =
    let small = count_small c.args.content.now (λ i. let f = c.type_inv.content i in omega arith) (sym c.is_small.ensures ∙ c.if-is_small.true) in
    rw c.number.ensures.value small
