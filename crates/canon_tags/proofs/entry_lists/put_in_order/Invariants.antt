use Rattle.std.proofs.Common.{◌≡◌, vec_len}
use Rattle.document_model.specs.Canonical.{sorted}
use Rattle.canon_tags.specs.Entries.{entries_in, is_named_before}
use Rattle.canon_tags.proofs.Sorting.{sorted_onto}
use Rattle.canon_tags.proofs.entry_lists.put_in_order.Given as goal

-- those that are left are still to be placed
abbrev pub invariant-entries : goal.invariant-entries
invariant-entries l = sorted_onto is_named_before (entries_in l.entries.items) (entries_in l.pending.items) ≡ sorted is_named_before (entries_in l.initial.pending.items)

abbrev pub decreases-entries : goal.decreases-entries
decreases-entries l = vec_len l.pending
