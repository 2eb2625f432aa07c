use Rattle.std.proofs.Common.{◌≡◌, ◌+◌, ◌≤◌, ℕ, List, map, slice_get, Some, sym, ap, subst, ◌∙◌, arith, Bor}
use Rattle.der_values.specs.Distinct.{Has, IsOutside, octets}
use Rattle.der_values.specs.Element.{Element}
use Rattle.der_values.specs.Rules.{first_in}
use Rattle.der_values.specs.View.{elements_left}
use Rattle.der_values.proofs.DistinctLaws.{passed_more, passed_apart, has_permuted}
use Rattle.der_values.proofs.distinct.distinct.Goals as goal

-- what is outside a sorted block is outside the block
outside : (count : ℕ) (block sorted slice : List (Bor (List ℕ))) (left again : List Element) → ((x : List ℕ) → Has (map octets block) x → Has (map octets sorted) x) → slice ≡ sorted → again ≡ left →
    IsOutside count (map octets slice) again → IsOutside count (map octets block) left
outside count block sorted slice left again moved same left_is out j x lt at has =
    out j x lt (ap (λ (es : List Element). slice_get (map first_in es) j) left_is ∙ at) (subst (λ (l : List (Bor (List ℕ))). Has (map octets l) x) (sym same) (moved x has))

pub returns-then-until-passed : goal.returns-then-until-passed
returns-then-until-passed c =
    let left = elements_left c.next_block.new.rest in
    let out = outside c.count_outside-outside.result c.in-Some.block.items c.sort_block.new.block.items c.as_slice.result.now left (elements_left c.again.result)
    (λ x has. has_permuted c.in-Some.block.items c.sort_block.new.block.items x c.sort_block.ensures.permutation has) c.as_slice.ensures.value c.again.ensures c.count_outside-outside.ensures in
    let more = passed_more c.args.content.now (elements_left c.loop.rest) left c.loop.passed 4096 c.loop.until c.count_outside-outside.result c.min-until.result
    (map octets c.in-Some.block.items) c.loop.invariant.passed c.in-Some.ensures out (omega (arith, c.min-until.ensures)) (omega (arith, c.min-until.ensures, c.saturating_add.ensures)) in
    passed_apart c.args.content.now left (c.loop.passed + 4096) c.min-until.result c.min-until.result more c.if-until-passed.true (omega arith)

pub loop-preserved : goal.loop-preserved
loop-preserved c =
    let left = elements_left c.next_block.new.rest in
    let out = outside c.count_outside-outside.result c.in-Some.block.items c.sort_block.new.block.items c.as_slice.result.now left (elements_left c.again.result)
    (λ x has. has_permuted c.in-Some.block.items c.sort_block.new.block.items x c.sort_block.ensures.permutation has) c.as_slice.ensures.value c.again.ensures c.count_outside-outside.ensures in
    let count = c.loop.invariant.count in
    record {
      passed = passed_more c.args.content.now (elements_left c.loop.rest) left c.loop.passed 4096 c.loop.until c.count_outside-outside.result c.min-until.result
          (map octets c.in-Some.block.items) c.loop.invariant.passed c.in-Some.ensures out (omega (arith, c.min-until.ensures)) (omega (arith, c.min-until.ensures, c.saturating_add.ensures));
      count = omega arith;
    }
