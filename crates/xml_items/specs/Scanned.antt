-- What a scanner found, as a piece and the bytes behind it.
use Rattle.std.specs.Prelude.{ℕ, ◌-◌, List, drop, take}
use Rattle.document_model.specs.Items.{Piece}
use Rattle.xml_items.specs.Items.{item_in}
use Rattle.xml_items.specs.declared.scanner.Scanned.{Scanned}

abbrev pub piece_in : List ℕ → ℕ → Scanned → Piece × List ℕ
piece_in bytes at scanned = (record { text = take (scanned.end - at) (drop at bytes); item = item_in scanned.found }, drop scanned.end bytes)
