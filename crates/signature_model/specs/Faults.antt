-- What a signature may lack: the words of its lines, and the faults of its parts. This project's own.
use Rattle.std.specs.Prelude.{if◌then◌else◌, List, [], ◌∷◌, map, Option, Some, None}
use Rattle.document_model.specs.Tree.{Path}
use Rattle.document_model.specs.Canonical.{is_before}

-- the lines of a signature's shape, in their order
pub data What : Type 0 where
  Parts : What
  Info : What
  Form : What
  Method : What
  Reference : What
  Qualifying : What
  Properties : What
  Covered : What
  Signed : What
  DataObject : What
  Key : What
  Value : What
  Stamp : What
  Values : What

pub record ShapeFault : Type 0 where
  pub what : What
  pub place : Path

-- A place is an element's path. Paths in this order are elements in document order.

abbrev pub earlier : Path → Option Path → Path
earlier place None = place
earlier place (Some other) = if is_before other place then other else place

abbrev pub first_place : List Path → Option Path
first_place [] = None
first_place (place ∷ places) = Some (earlier place (first_place places))

abbrev pub sooner : ShapeFault → Option ShapeFault → ShapeFault
sooner fault None = fault
sooner fault (Some other) = if is_before other.place fault.place then other else fault

-- the fault with the first place; of several there the first one
abbrev pub first_fault : List ShapeFault → Option ShapeFault
first_fault [] = None
first_fault (fault ∷ faults) = Some (sooner fault (first_fault faults))

-- One after another, from the front: what is kept of those so far, with one more. Of two at one place the one that was there is kept.

abbrev pub with_place : Path → Option Path → Option Path
with_place place None = Some place
with_place place (Some kept) = if is_before place kept then Some place else Some kept

abbrev pub with_places : List Path → Option Path → Option Path
with_places [] kept = kept
with_places (place ∷ places) kept = with_places places (with_place place kept)

abbrev pub with_fault : ShapeFault → Option ShapeFault → Option ShapeFault
with_fault fault None = Some fault
with_fault fault (Some kept) = if is_before fault.place kept.place then Some fault else Some kept

abbrev pub with_faults : List ShapeFault → Option ShapeFault → Option ShapeFault
with_faults [] kept = kept
with_faults (fault ∷ faults) kept = with_faults faults (with_fault fault kept)

abbrev pub of_line : What → List Path → List ShapeFault
of_line what places = map (λ place. record { what = what; place = place }) places
