-- The laws on an item, by its kind.
use Rattle.std.proofs.Common.{◌≡◌, ℕ, Bool, List, ◌∙◌}
use Rattle.document_model.specs.Tree.{Nodes}
use Rattle.signature_model.specs.Spots.{Spot}
use Rattle.signature_model.specs.Parts.{DatumKind}
use Rattle.signature_model.specs.Readable.{answer, Read, HasParts}
use Rattle.signature_model.specs.Covers.{IsFree}
use Rattle.signature_model.specs.Fragments.{Item, Value, Stamp, Data, Archive, with_item}
use Rattle.signature_model.specs.Keeping.{MayTake, TakesItem}
use Rattle.signature_model.proofs.ReadTakes.{read_takes_item}
use Rattle.signature_model.proofs.StaysFree.{stays_free}
use Rattle.signature_model.proofs.ItemCounted.{item_keeps_counted}
use Rattle.covered_items.specs.Whole.{IsWholeItem}
use Rattle.attached_items.specs.ReadAgain.{ItemHasPartsAgain, ItemIsReadAgain}
use Rattle.attached_items.proofs.ReadAs.{only_one, answers}
use Rattle.attached_items.proofs.ValueAgain.{value_has_parts}
use Rattle.attached_items.proofs.StampAgain.{stamp_has_parts, archive_has_parts}
use Rattle.attached_items.proofs.DataAgain.{data_has_parts}

has_parts : (is_whole : DatumKind → List ℕ → Bool) (document : Nodes) (signature : Spot) (item : Item) → IsWholeItem is_whole item → TakesItem document signature item
    → HasParts is_whole document signature → HasParts is_whole (with_item document signature item) signature
has_parts is_whole document signature (Value octets) w t h = value_has_parts is_whole document signature octets w t h
has_parts is_whole document signature (Stamp token) w t h = stamp_has_parts is_whole document signature token w.0 w.1 t h
has_parts is_whole document signature (Data certificates lists) w t h = data_has_parts is_whole document signature certificates lists w.0 w.1 t h
has_parts is_whole document signature (Archive token) w t h = archive_has_parts is_whole document signature token w.0 w.1 t h

pub item_has_parts_again : ItemHasPartsAgain
item_has_parts_again is_whole document signature item w t h = (has_parts is_whole document signature item w t h, stays_free document signature item t)

-- the only signature of a document

read_again : (is_whole : DatumKind → List ℕ → Bool) (document : Nodes) (signature : Spot) (item : Item) → IsWholeItem is_whole item
    → answer is_whole document ≡ Read signature → IsFree document signature → MayTake document signature item
    → answer is_whole (with_item document signature item) ≡ Read signature
read_again is_whole document signature item w read free may =
    let takes = read_takes_item is_whole document signature item read free may in
    let only = only_one is_whole document signature read in
    answers is_whole (with_item document signature item) signature (record {
      counted_is = item_keeps_counted document signature item takes ∙ only.counted_is;
      parts = has_parts is_whole document signature item w takes only.parts;
    })

pub item_is_read_again : ItemIsReadAgain
item_is_read_again is_whole document signature item w r may = record {
  read = read_again is_whole document signature item w r.read r.free may;
  free = stays_free document signature item (read_takes_item is_whole document signature item r.read r.free may);
}
