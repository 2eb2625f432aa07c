use Rattle.std.proofs.Common.{◌∙◌, sym, arith}
use Rattle.std.specs.Str.{chars}
use Rattle.document_model.specs.Canonical.{is_before}
use Rattle.canon_tags.proofs.Sorting.{place_stop, place_on, place_end}
use Rattle.canon_tags.proofs.prefixes.place_of.Goals as goal

pub returns-then-not-is_before-clause-place : goal.returns-then-not-is_before-clause-place
returns-then-not-is_before-clause-place c =
    place_stop is_before (λ text. chars text.now) (chars c.args.prefix.now) _ c.args.found.now c.prefixes.at c.prefixes-test.true (sym c.is_before.ensures ∙ c.if-not-is_before.true) c.prefixes.invariant.1

pub prefixes-preserved : goal.prefixes-preserved
prefixes-preserved c = (
  omega (arith, c.prefixes-test.true),
  place_on is_before (λ text. chars text.now) (chars c.args.prefix.now) _ c.args.found.now c.prefixes.at c.prefixes-test.true (sym c.is_before.ensures ∙ c.if-not-is_before.false) c.prefixes.invariant.1,
)

pub returns-clause-place : goal.returns-clause-place
returns-clause-place c = place_end is_before (λ text. chars text.now) (chars c.args.prefix.now) c.args.found.now c.prefixes.at c.prefixes-test.false c.prefixes.invariant.1
