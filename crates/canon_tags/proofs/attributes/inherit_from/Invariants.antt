use Rattle.std.proofs.Common.{◌≡◌, ◌≤◌, ◌++◌, map, take, vec_len}
use Rattle.xml_items.specs.Attributes.{attributes_left}
use Rattle.canon_tags.specs.Entries.{entries_in, named, attributes_of_entries, inherited_of}
use Rattle.doc_spans.specs.Looked.{declared}
use Rattle.canon_tags.proofs.attributes.inherit_from.Given as goal

-- those that were taken, and then those that are left; those that were there before stand in front
abbrev pub invariant-attributes : goal.invariant-attributes
invariant-attributes l =
    (l.count ≤ vec_len l.entries) × (take l.count l.entries.items ≡ l.initial.entries.items)
    × (entries_in l.entries.items ++ map (named (declared l.scope)) (inherited_of (attributes_of_entries (entries_in l.initial.entries.items)) (attributes_left l.rest))
    ≡ entries_in l.initial.entries.items ++ map (named (declared l.scope)) (inherited_of (attributes_of_entries (entries_in l.initial.entries.items)) (attributes_left l.fn.attributes)))

abbrev pub decreases-attributes : goal.decreases-attributes
decreases-attributes l = l.rest.left
