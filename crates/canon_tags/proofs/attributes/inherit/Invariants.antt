use Rattle.std.proofs.Common.{◌≡◌, ◌≤◌, List, map, length, take}
use Rattle.document_model.specs.Items.{Attribute}
use Rattle.document_model.specs.Canonical.{with_inherited}
use Rattle.canon_tags.specs.Entries.{entries_in, named, attributes_of_entries}
use Rattle.doc_spans.specs.Looked.{declared}
use Rattle.doc_spans.specs.Opened.{opened_in}
use Rattle.canon_tags.proofs.attributes.inherit.Given as goal

-- what all elements give is what those that are left give
abbrev pub invariant-tags : goal.invariant-tags
invariant-tags l =
    (l.left ≤ length l.tags)
    × ((attributes : List Attribute) → entries_in l.initial.entries.items ≡ map (named (declared l.scope)) attributes
    → (entries_in l.entries.items ≡ map (named (declared l.scope)) (attributes_of_entries (entries_in l.entries.items)))
    × (with_inherited attributes (opened_in l.tags) ≡ with_inherited (attributes_of_entries (entries_in l.entries.items)) (opened_in (take l.left l.tags))))

abbrev pub decreases-tags : goal.decreases-tags
decreases-tags l = l.left
