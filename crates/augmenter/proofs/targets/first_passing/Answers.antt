use Rattle.std.proofs.Common.{arith, refl, sym, ◌∙◌}
use Rattle.reference_chains.specs.declared.places.Place.TheVariants.{Document}
use Rattle.augmenter.specs.Targets.{test_on}
use Rattle.augmenter.proofs.FoundPlaces.{none_left, passed_on, passes_here}
use Rattle.augmenter.proofs.targets.first_passing.Goals as goal

pub returns-then-passes : goal.returns-then-passes
returns-then-passes c = λ uris are.
    sym (c.loop-number.invariant uris are
    ∙ passes_here c.args.doc (test_on c.args.doc c.args.test) uris c.args.places.now c.loop-number.number _ Document are c.loop-number-test.true refl (sym c.passes.ensures ∙ c.if-passes.true))

pub loop-number-preserved : goal.loop-number-preserved
loop-number-preserved c = λ uris are.
    c.loop-number.invariant uris are
    ∙ passed_on c.args.doc (test_on c.args.doc c.args.test) uris c.args.places.now c.loop-number.number _ Document are c.loop-number-test.true refl (sym c.passes.ensures ∙ c.if-passes.false)

pub returns : goal.returns
returns c = λ uris are.
    sym (c.loop-number.invariant uris are ∙ none_left c.args.doc (test_on c.args.doc c.args.test) uris c.args.places.now c.loop-number.number are (let t = c.loop-number-test.false in omega (arith, t)))
