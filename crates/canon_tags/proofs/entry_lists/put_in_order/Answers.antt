use Rattle.canon_tags.specs.Entries.{entry_in, entries_in, is_named_before}
use Rattle.canon_tags.proofs.Sorting.{place_popped}
use Rattle.canon_tags.proofs.entry_lists.put_in_order.Goals as goal

pub entries-preserved : goal.entries-preserved
entries-preserved c =
    place_popped is_named_before entry_in c.in-Some.entry c.entries.pending.items c.pop.new.self.items (entries_in c.entries.entries.items) (entries_in c.place.new.entries.items) _
    c.in-Some.ensures.items c.in_ok-place.ensures c.entries.invariant
