use Rattle.std.proofs.Common.{◌≡◌, drop}
use Rattle.std.specs.Str.{chars}
use Rattle.document_model.specs.Canonical.{has_local}
use Rattle.canon_tags.specs.Entries.{entries_in, attributes_of_entries}
use Rattle.canon_tags.proofs.entry_lists.has_local.Given as goal

-- none that was passed is such an attribute
abbrev pub invariant-entries : goal.invariant-entries
invariant-entries l =
    has_local (chars l.local) (attributes_of_entries (entries_in l.entries))
    ≡ has_local (chars l.local) (attributes_of_entries (entries_in (drop l.entry-index l.entries)))
