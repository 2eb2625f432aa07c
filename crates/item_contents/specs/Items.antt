-- Items in memory, and what they are: signature_model, after XML Signature 1.1, "The SignatureValue Element", and EN 319 132-1, clauses 5.3,
-- 5.4 and 5.5.
use Rattle.std.specs.Prelude.{map}
use Rattle.signature_model.specs.Fragments as model
use Rattle.item_contents.specs.declared.items.Item.{Item}
use Rattle.item_contents.specs.declared.items.Item.TheVariants.{Value, Stamp, Data, Archive}
use Rattle.der_values.specs.Distinct.{octets}

abbrev pub item_of : Item → model.Item
item_of (Value value) = model.Value value.now
item_of (Stamp token) = model.Stamp token.now
item_of (Data certificates lists) = model.Data (map octets certificates.now) (map octets lists.now)
item_of (Archive token) = model.Archive token.now
