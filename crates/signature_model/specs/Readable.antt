-- Whether a document has a signature with parts, else its first fault. This project's own.
use Rattle.std.specs.Prelude.{◌≡◌, ℕ, Bool, false, not, List, [], ◌∷◌, filter, map, Option, Some, None}
use Rattle.std.specs.Option.{option_map_or}
use Rattle.document_model.specs.Tree.{Nodes, Path}
use Rattle.signature_model.specs.Spots.{Spot, paths}
use Rattle.signature_model.specs.Parts.{counted, includes, Datum, DatumKind, data_in, octets_in}
use Rattle.signature_model.specs.Faults.{What, ShapeFault, first_place, first_fault}
use Rattle.signature_model.specs.Shape.{shape_faults}

pub data Answer : Type 0 where
  Read : Spot → Answer
  NoSignature : Answer
  Several : Answer
  Shape : (place : Path) → (what : What) → Answer
  Include : (place : Path) → Answer
  PropertyData : (place : Path) → Answer

-- an element whose text isn't strict base64 of a whole object of its kind, for a test on the octets of each kind
abbrev pub is_bad : (DatumKind → List ℕ → Bool) → Nodes → Datum → Bool
is_bad is_whole document datum = not (option_map_or (is_whole datum.kind) (octets_in document datum.spot) false)

abbrev pub bad_data : (DatumKind → List ℕ → Bool) → Nodes → Spot → List Path
bad_data is_whole document signature = map (λ datum. datum.spot.path) (filter (is_bad is_whole document) (data_in document signature))

-- the first answer that there is: each goes on to the next where there is no fault
abbrev pub by_data : Spot → Option Path → Answer
by_data signature None = Read signature
by_data signature (Some place) = PropertyData place

abbrev pub by_include : Answer → Option Path → Answer
by_include next None = next
by_include next (Some place) = Include place

abbrev pub by_shape : Answer → Option ShapeFault → Answer
by_shape next None = next
by_shape next (Some fault) = Shape fault.place fault.what

-- the parts of one signature
abbrev pub read_parts : (DatumKind → List ℕ → Bool) → Nodes → Spot → Answer
read_parts is_whole document signature =
    by_shape (by_include (by_data signature (first_place (bad_data is_whole document signature)))
    (first_place (paths (includes document signature))))
    (first_fault (shape_faults document signature))

-- of signatures to choose from, the only one
abbrev pub only : (Spot → Answer) → List Spot → Answer
only read [] = NoSignature
only read (signature ∷ []) = read signature
only read (signature ∷ next ∷ signatures) = Several

abbrev pub answer : (DatumKind → List ℕ → Bool) → Nodes → Answer
answer is_whole document = only (read_parts is_whole document) (counted document)

-- the signature has parts
abbrev pub HasParts : (DatumKind → List ℕ → Bool) → Nodes → Spot → Type 0
HasParts is_whole document signature = read_parts is_whole document signature ≡ Read signature
