-- Where the prepared signature stands. The layout is this project's own.
use Rattle.std.specs.Prelude.{List, [], ◌∷◌, ◌++◌, codes}
use Rattle.std.specs.Option.{option_map_or}
use Rattle.document_model.specs.Items.{Attribute}
use Rattle.document_model.specs.Tree.{Nodes, Path, node_at, below, count}
use Rattle.document_model.specs.Scopes.{Tag, tags_at}
use Rattle.signature_model.specs.Vocabulary.{ds_space}
use Rattle.signature_model.specs.Spots.{Spot}
use Rattle.signature_model.specs.Fragments.{prefixed, having, declaring}
use Rattle.signature_model.specs.Prepared.{Draft, root_path}

-- the document element's path
abbrev pub root_of : Nodes → Path
root_of document = root_path 0 document

-- the signature's own tag
abbrev pub signature_attributes : Draft → List Attribute
signature_attributes draft = declaring (codes "ds") ds_space ∷ having (codes "Id") draft.id ∷ []

abbrev pub signature_tag : Draft → Tag
signature_tag draft = record { name = prefixed (codes "ds") (codes "Signature"); attributes = signature_attributes draft }

-- the signature stands behind all that the document element holds
abbrev pub signature_in : Nodes → Draft → Spot
signature_in document draft = record {
  path = root_of document ++ option_map_or (λ node. count (below node)) (node_at document (root_of document)) 0 ∷ [];
  tags = signature_tag draft ∷ tags_at document (root_of document);
}
