-- What elements have to hold: tests that give the places of their faults. This project's own.
use Rattle.std.specs.Prelude.{ℕ, Bool, true, false, not, ◌&&◌, if◌then◌else◌, List, [], ◌∷◌, ◌++◌, drop, filter, flat_map, Option, Some, None, is_some}
use Rattle.std.specs.List.{list_any}
use Rattle.std.specs.Option.{option_map_or}
use Rattle.document_model.specs.Characters.{is_empty}
use Rattle.document_model.specs.Names.{Expanded}
use Rattle.document_model.specs.Tree.{Nodes, Path}
use Rattle.signature_model.specs.Spots.{Spot, is_called, has_attribute, elements_in, called, paths, held_at, has_stray_text, is_text_alone}
use Rattle.signature_model.specs.Parts.{octets_in, is_blank}

-- Children in order. A slot takes one child with its name, or any number of them
pub record Slot : Type 0 where
  pub name : Expanded
  pub required : Bool
  pub many : Bool

abbrev pub one : Expanded → Slot
one name = record { name = name; required = true; many = false }

abbrev pub at_most_one : Expanded → Slot
at_most_one name = record { name = name; required = false; many = false }

abbrev pub any_number : Expanded → Slot
any_number name = record { name = name; required = false; many = true }

abbrev pub one_or_more : Expanded → Slot
one_or_more name = record { name = name; required = true; many = true }

-- the slots that are left where a child comes next, if one of them takes it
abbrev pub after : Spot → List Slot → Option (List Slot)
after child [] = None
after child (slot ∷ slots) =
    if is_called slot.name child then Some (if slot.many then slot ∷ slots else slots)
    else (if slot.required && not slot.many then None else after child slots)

-- the first child that no slot takes
abbrev pub first_misfit : List Slot → List Spot → List Path
first_misfit slots [] = []
first_misfit slots (child ∷ children) = option_map_or (λ left. first_misfit left children) (after child slots) (child.path ∷ [])

abbrev pub lacks_one : List Slot → List Spot → Bool
lacks_one slots children = list_any (λ slot. slot.required && not (list_any (is_called slot.name) children)) slots

-- where one is missing the place is the holder, else the first child that is too many or out of place
abbrev pub misfits_among : List Slot → Spot → List Spot → List Path
misfits_among slots holder children = if lacks_one slots children then holder.path ∷ [] else first_misfit slots children

abbrev pub misfits : Nodes → List Slot → List Spot → List Path
misfits document slots holders = flat_map (λ holder. misfits_among slots holder (elements_in document holder)) holders

-- Children in any order.

abbrev pub lacking : Nodes → Expanded → List Spot → List Path
lacking document name holders = paths (filter (λ holder. is_empty (called document name holder)) holders)

abbrev pub further : Nodes → Expanded → List Spot → List Path
further document name holders = flat_map (λ holder. paths (drop 1 (called document name holder))) holders

-- exactly one child with a name
abbrev pub not_one : Nodes → Expanded → List Spot → List Path
not_one document name holders = lacking document name holders ++ further document name holders

-- Attributes and text.

abbrev pub without_attribute : List ℕ → List Spot → List Path
without_attribute local spots = paths (filter (λ spot. not (has_attribute local spot)) spots)

-- those with text among their elements that isn't white space
abbrev pub with_stray_text : Nodes → List Spot → List Path
with_stray_text document spots = paths (filter (λ spot. has_stray_text (held_at document spot.path)) spots)

-- those that hold something else than text, in place of a value
abbrev pub without_value : Nodes → List Spot → List Path
without_value document spots = paths (filter (λ spot. not (is_text_alone (held_at document spot.path))) spots)

-- or whose text isn't strict base64, white space skipped; or is blank
abbrev pub without_octets : Nodes → List Spot → List Path
without_octets document spots = without_value document spots ++ paths (filter (λ spot. not (is_some (octets_in document spot))) spots)

abbrev pub without_text : Nodes → List Spot → List Path
without_text document spots = without_value document spots ++ paths (filter (is_blank document) spots)
