use Rattle.std.proofs.Common.{◌≡◌, ◌++◌, drop}
use Rattle.std.specs.Prelude.{encode_utf8_all}
use Rattle.canon_tags.specs.Entries.{entries_in, entries_text}
use Rattle.canon_tags.proofs.entry_lists.put_entries.Given as goal

-- what is written, and then what is left
abbrev pub invariant-entries : goal.invariant-entries
invariant-entries l =
    l.out ++ encode_utf8_all (entries_text (entries_in (drop l.entry-index l.entries)))
    ≡ l.initial.out ++ encode_utf8_all (entries_text (entries_in l.entries))
