-- The first of the elements that were added one after another.
use Rattle.std.specs.Prelude.{◌≡◌, List, Option, option_map, IfSome}
use Rattle.document_model.specs.Tree.{Path}
use Rattle.doc_spans.specs.declared.documents.Doc.{Doc}
use Rattle.doc_spans.specs.Seen.{Has, path_in}
use Rattle.signature_model.specs.Faults.{first_place, with_places}
use Rattle.signature_parts.specs.declared.places.FirstPlace.{FirstPlace}

-- its path
abbrev pub place_in : Doc → FirstPlace → Option Path
place_in doc first = option_map (path_in doc) first.node

-- it is a node of the document, if there is one
abbrev pub IsWithin : Doc → FirstPlace → Type 0
IsWithin doc first = IfSome first.node (Has doc)

-- after some places were added to those before
pub record Adds (doc : Doc) (places : List Path) (before now : FirstPlace) : Type 0 where
  pub place : place_in doc now ≡ with_places places (place_in doc before)
  pub within : IsWithin doc now

-- it is the first of some places
pub record IsFirst (doc : Doc) (places : List Path) (now : FirstPlace) : Type 0 where
  pub place : place_in doc now ≡ first_place places
  pub within : IsWithin doc now
