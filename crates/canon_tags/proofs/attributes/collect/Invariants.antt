use Rattle.std.proofs.Common.{◌≡◌, ◌++◌, length, map}
use Rattle.xml_items.specs.Attributes.{attribute_in}
use Rattle.canon_tags.specs.Entries.{entries_in, named, plain_ones}
use Rattle.doc_spans.specs.Looked.{declared}
use Rattle.canon_tags.proofs.attributes.collect.Given as goal

-- those that were taken, and then those that are left
abbrev pub invariant-attributes : goal.invariant-attributes
invariant-attributes l =
    entries_in l.entries.items ++ map (named (declared l.scope)) (plain_ones (map attribute_in l.rest))
    ≡ entries_in l.initial.entries.items ++ map (named (declared l.scope)) (plain_ones (map attribute_in l.fn.attributes))

abbrev pub decreases-attributes : goal.decreases-attributes
decreases-attributes l = length l.rest
