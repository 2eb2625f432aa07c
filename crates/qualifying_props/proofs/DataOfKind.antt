-- Lists of data of one kind.
use Rattle.std.proofs.Common.{◌≡◌, List, [], ◌++◌, ◌∙◌, ap}
use Rattle.std.specs.Prelude.{map, unwrap_or}
use Rattle.document_model.specs.Names.{Expanded}
use Rattle.document_model.specs.Tree.{Nodes}
use Rattle.doc_spans.proofs.Each.{map_join, map_map}
use Rattle.signature_model.specs.Parts.{DatumKind, as_kind, octets_in}
use Rattle.signature_model.specs.Spots.{Spot, called, called_in}
use Rattle.std.proofs.Common.{◌∷◌}
use Rattle.qualifying_props.specs.Data.{all_octets, octets_of}

-- the data that stand under a name in one more holder
pub data_called : (kind : DatumKind) (document : Nodes) (name : Expanded) (holders left : List Spot) (holder : Spot) → holders ≡ holder ∷ left
    → as_kind kind (called_in document name holders) ≡ as_kind kind (called document name holder) ++ as_kind kind (called_in document name left)
data_called kind document name holders left holder e =
    ap (λ hs. as_kind kind (called_in document name hs)) e
    ∙ map_join (λ spot. record { kind = kind; spot = spot }) (called document name holder) (called_in document name left)

-- their octets
pub octets_as_kind : (kind : DatumKind) (document : Nodes) (spots : List Spot)
    → all_octets document (as_kind kind spots) ≡ map (λ spot. unwrap_or (octets_in document spot) []) spots
octets_as_kind kind document spots = map_map (octets_of document) (λ spot. record { kind = kind; spot = spot }) spots
