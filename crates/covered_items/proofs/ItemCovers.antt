-- What an item adds to what a signature covers, by its kind.
use Rattle.std.proofs.Common.{sym, ◌∙◌}
use Rattle.std.proofs.lemmas.List.{append-nil}
use Rattle.signature_model.specs.Covers.{covers}
use Rattle.signature_model.specs.Fragments.{Value, Stamp, Data, Archive}
use Rattle.covered_items.specs.Entries.{ItemCoversTheNextOctets}
use Rattle.covered_items.proofs.StampsAdded.{stamp_covers, archive_covers}
use Rattle.covered_items.proofs.ValueAdded.{value_covers}
use Rattle.covered_items.proofs.DataCovers.{data_cover_nothing}

pub item_covers_the_next_octets : ItemCoversTheNextOctets
item_covers_the_next_octets handed document signature (Value octets) b some t = value_covers handed document signature octets b some t
item_covers_the_next_octets handed document signature (Stamp token) b some t = stamp_covers handed document signature token b t
item_covers_the_next_octets handed document signature (Data certificates lists) b some t =
    data_cover_nothing handed document signature certificates lists t ∙ sym (append-nil (covers handed document signature))
item_covers_the_next_octets handed document signature (Archive token) b some t = archive_covers handed document signature token b t
