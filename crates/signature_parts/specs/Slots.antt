-- What a slot in memory means.
use Rattle.std.specs.Prelude.{Bool, ◌&&◌, not, List, map}
use Rattle.std.specs.List.{list_any}
use Rattle.signature_elements.specs.Names.{expanded}
use Rattle.signature_model.specs.Holding as model
use Rattle.signature_model.specs.Spots.{Spot, is_called}
use Rattle.signature_parts.specs.declared.slots.Order.{Order}
use Rattle.signature_parts.specs.declared.slots.Slot.{Slot}

abbrev pub slot_in : Slot → model.Slot
slot_in slot = record { name = expanded slot.name; required = slot.required; many = slot.many }

abbrev pub slots_left : Order → List model.Slot
slots_left order = map slot_in order.left.now

-- whether a slot wants a child that isn't among some children
abbrev pub is_lacking : model.Slot → List Spot → Bool
is_lacking slot children = slot.required && not (list_any (is_called slot.name) children)
