-- Where an element begins.
use Rattle.std.specs.Prelude.{ℕ, List, Option, find, option_map}
use Rattle.document_model.specs.Characters.{◌is◌}
use Rattle.document_model.specs.Places.{places_of}
use Rattle.document_model.specs.Tree.{Path}

-- the place of the first byte of the node with a path, among the nodes of a document in these bytes
abbrev pub begins_at : List ℕ → Path → Option ℕ
begins_at bytes path = option_map (λ place. place.start) (find (λ place. place.path is path) (places_of bytes))
