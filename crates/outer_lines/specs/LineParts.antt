-- What the lines on a signature's parts ask of one element after another.
use Rattle.std.specs.Prelude.{List, [], codes, filter, if◌then◌else◌, is_none, not}
use Rattle.document_model.specs.Characters.{is_empty}
use Rattle.document_model.specs.Tree.{Nodes, Path}
use Rattle.signature_model.specs.Parts.{form_in, objects, qualifying_objects}
use Rattle.signature_model.specs.Shape.{id_of, or_first, points_to}
use Rattle.signature_model.specs.Spots.{Spot, attribute, paths}

-- methods that name no canonical form
abbrev pub formless : Nodes → List Spot → List Path
formless document methods = paths (filter (λ method. is_none (form_in document method)) methods)

-- where no object holds qualifying properties: the first object, or else the signature
abbrev pub without_holder : Nodes → Spot → List Path
without_holder document signature =
    if is_empty (qualifying_objects document signature) then or_first (objects document signature) signature else []

-- qualifying properties whose Target isn't the signature
abbrev pub pointing_elsewhere : Spot → List Spot → List Path
pointing_elsewhere signature properties =
    paths (filter (λ spot. not (points_to (attribute (codes "Target") spot) (id_of signature))) properties)
