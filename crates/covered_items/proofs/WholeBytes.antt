-- The octets of whole objects, and of whole items, are bytes.
use Rattle.std.specs.Prelude.{ℕ, Bool, List, [], ◌∷◌}
use Rattle.signature_model.specs.Parts.{DatumKind}
use Rattle.signature_model.specs.Fragments.{Item, Value, Stamp, Data, Archive}
use Rattle.covered_items.specs.Whole.{EachBytes, HasBytes, AreWhole, IsWholeItem}

pub whole_bytes : (is_whole : DatumKind → List ℕ → Bool) (kind : DatumKind) (all : List (List ℕ)) → AreWhole is_whole kind all → EachBytes all
whole_bytes is_whole kind [] w = tt
whole_bytes is_whole kind (octets ∷ all) w = (w.0, whole_bytes is_whole kind all w.2)

pub item_bytes : (is_whole : DatumKind → List ℕ → Bool) (item : Item) → IsWholeItem is_whole item → HasBytes item
item_bytes is_whole (Value octets) w = w
item_bytes is_whole (Stamp token) w = w.0
item_bytes is_whole (Data certificates lists) w = (whole_bytes is_whole _ certificates w.0, whole_bytes is_whole _ lists w.1)
item_bytes is_whole (Archive token) w = w.0
