use Rattle.std.proofs.Common.{ℕ, List, ◌+◌, sym, subst, arith}
use Rattle.xml_items.specs.ShortNames.{IsShortRow}
use Rattle.xml_items.proofs.ShortTags.{part_of, join}
use Rattle.xml_items.proofs.QuickTags.{row_none, row_more, nothing}
use Rattle.xml_items.proofs.short_tags.row_end.Goals as goal

pub pairs-init : goal.pairs-init
pairs-init c = (omega arith, omega (arith, c.requires), omega arith, subst (λ (x : List ℕ). IsShortRow x 0) (sym (nothing c.args.bytes.now c.args.start)) row_none)

pub pairs-preserved : goal.pairs-preserved
pairs-preserved c =
    let d = c.args.bytes.now in
    let i = c.pairs.invariant in
    let end = c.pair_end-end.result in
    let order = c.pair_end-end.ensures.order in (
      omega (arith, i.0, order),
      c.pair_end-end.ensures.bound,
      omega arith,
      subst (λ (x : List ℕ). IsShortRow x (c.pairs.count + 1)) (sym (join d c.args.start c.pairs.at end i.0 order))
          (row_more (part_of d c.args.start c.pairs.at) (part_of d c.pairs.at end) c.pairs.count i.3 (c.pair_end-end.ensures.pair (omega arith))),
    )
