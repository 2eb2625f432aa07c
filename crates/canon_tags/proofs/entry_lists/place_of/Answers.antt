use Rattle.std.proofs.Common.{◌∙◌, sym, ap, arith}
use Rattle.canon_tags.specs.Entries.{entry_in, is_named_before}
use Rattle.canon_tags.proofs.Sorting.{place_stop, place_on, place_end}
use Rattle.canon_tags.proofs.entry_lists.place_of.Goals as goal

pub returns-then-not-is_before-clause-place : goal.returns-then-not-is_before-clause-place
returns-then-not-is_before-clause-place c =
    place_stop is_named_before entry_in (entry_in c.args.entry.now) c.index-entries-at.result c.args.entries.now c.entries.at c.entries-test.true
    (sym (ap (λ e. is_named_before (entry_in e) (entry_in c.args.entry.now)) c.index-entries-at.is) ∙ sym c.is_before.ensures ∙ c.if-not-is_before.true) c.entries.invariant.1

pub entries-preserved : goal.entries-preserved
entries-preserved c = (
  omega (arith, c.entries-test.true),
  place_on is_named_before entry_in (entry_in c.args.entry.now) c.index-entries-at.result c.args.entries.now c.entries.at c.entries-test.true
      (sym (ap (λ e. is_named_before (entry_in e) (entry_in c.args.entry.now)) c.index-entries-at.is) ∙ sym c.is_before.ensures ∙ c.if-not-is_before.false) c.entries.invariant.1,
)

pub returns-clause-place : goal.returns-clause-place
returns-clause-place c = place_end is_named_before entry_in (entry_in c.args.entry.now) c.args.entries.now c.entries.at c.entries-test.false c.entries.invariant.1
