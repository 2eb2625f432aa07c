-- What is found of all References, step by step.
use Rattle.std.specs.Prelude.{◌≡◌, Bool, true, false, ◌<◌, ◌^◌, List, map, length}
use Rattle.std.specs.List.{All}
use Rattle.doc_spans.specs.declared.documents.Doc.{Doc}
use Rattle.doc_spans.specs.Seen.{document_in}
use Rattle.node_sets.specs.declared.identifiers.IdAnswer.TheVariants.{One, Absent, Many}
use Rattle.signature_elements.specs.Standing.{spot_of, IsThere}
use Rattle.signature_model.specs.Chains.{place}
use Rattle.signature_model.specs.Spots.{Spot}
use Rattle.reference_chains.specs.declared.places.Place.{Place}
use Rattle.reference_chains.specs.declared.places.Place.TheVariants.{Document, Named, External}
use Rattle.reference_chains.specs.declared.references.Reference.{Reference}
use Rattle.reference_chains.specs.Places.{found, found_in, HasPlace}
use Rattle.reference_chains.specs.References.{IsReference}
use Rattle.references.specs.declared.rows.Row.{Row}
use Rattle.references.specs.declared.targets.Sought.{Sought}
use Rattle.references.specs.RefsOf.{IsRow}

-- whether it is an identifier that no element has, or that several have
abbrev pub names_none : Place → Bool
names_none Document = false
names_none (Named (One node)) = false
names_none (Named Absent) = true
names_none (Named Many) = false
names_none External = false

abbrev pub names_several : Place → Bool
names_several Document = false
names_several (Named (One node)) = false
names_several (Named Absent) = false
names_several (Named Many) = true
names_several External = false

-- what a Reference names was looked up
pub record IsSought (doc : Doc) (sought : Sought) : Type 0 where
  pub there : IsThere doc sought.node
  pub found_is : found_in doc sought.place ≡ found (document_in doc) (place (spot_of doc sought.node))
  pub has_place : HasPlace doc sought.place

-- the elements, in their order
abbrev pub sought_spots : Doc → List Sought → List Spot
sought_spots doc all = map (λ sought. spot_of doc sought.node) all

abbrev pub reference_spots : Doc → List Reference → List Spot
reference_spots doc all = map (λ reference. spot_of doc reference.node) all

abbrev pub row_spots : Doc → List Row → List Spot
row_spots doc rows = map (λ row. spot_of doc row.reference.node) rows

-- they are these elements
pub record AreSought (doc : Doc) (spots : List Spot) (all : List Sought) : Type 0 where
  pub same : sought_spots doc all ≡ spots
  pub each : All (IsSought doc) all
  pub few : length all < 2 ^ 32

pub record AreReferences (doc : Doc) (spots : List Spot) (all : List Reference) : Type 0 where
  pub same : reference_spots doc all ≡ spots
  pub each : All (IsReference doc) all
  pub few : length all < 2 ^ 32

pub record AreRows (doc : Doc) (spots : List Spot) (rows : List Row) : Type 0 where
  pub same : row_spots doc rows ≡ spots
  pub each : All (IsRow doc) rows
  pub few : length rows < 2 ^ 32
