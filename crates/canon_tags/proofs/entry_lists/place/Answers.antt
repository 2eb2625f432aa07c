use Rattle.canon_tags.specs.Entries.{entry_in, is_named_before}
use Rattle.canon_tags.proofs.Sorting.{place_inserted}
use Rattle.canon_tags.proofs.entry_lists.place.Goals as goal

pub returns : goal.returns
returns c =
    place_inserted is_named_before entry_in c.args.entry c.args.entries.now.items c.as_slice.result.now c.insert.new.self.items c.place_of-at.result
    c.as_slice.ensures.value c.place_of-at.ensures.place c.in_ok-insert.ensures.items
