-- What a property of the host shows stays where a property is put in.
use Rattle.std.proofs.Common.{◌≡◌, cond, List, [], ◌∷◌, ◌∙◌, ap}
use Rattle.std.specs.Prelude.{flat_map, unwrap_or}
use Rattle.document_model.specs.Names.{Expanded}
use Rattle.document_model.specs.Tree.{Nodes, put_last}
use Rattle.signature_model.specs.Base64.{skipping}
use Rattle.signature_model.specs.Spots.{Spot}
use Rattle.signature_model.specs.Parts as parts
use Rattle.signature_model.specs.Parts.{Datum}
use Rattle.signature_model.proofs.Lists.{each_flat, flat_same}
use Rattle.signature_model.proofs.Apart.{text_stays}
use Rattle.signature_model.proofs.PropertyKept.{PropertySetting, IsHeld, token_stays}
use Rattle.attached_items.proofs.Inside.{Inside, inside_apart, values_same, values_inside, data_same, data_inside}
use Rattle.signature_objects.specs.Objects.{Object}
use Rattle.signature_objects.specs.Held.{objects_of_token, objects_of_datum, material_in, objects_in}

abbrev object_of : Nodes → Datum → List Object
object_of document datum = objects_of_datum datum.kind (parts.octets_or_none document (datum.spot ∷ []))

datum_same : (document added : Nodes) (place : Spot) (datum : Datum) → Inside document place datum.spot
    → object_of (put_last added place.path document) datum ≡ object_of document datum
datum_same document added place datum i =
    ap (λ text. objects_of_datum datum.kind (unwrap_or (skipping text) [])) (text_stays document added place datum.spot (inside_apart document place datum.spot i))

material_same : (document added : Nodes) (place property : Spot) → IsHeld document place property
    → material_in (put_last added place.path document) property ≡ material_in document property
material_same document added place property c =
    let new : Nodes = put_last added place.path document in
    let inside = values_inside document place property c in
    ap (λ spots. flat_map (object_of new) (flat_map (parts.data_of_values new) spots)) (values_same document added place property c)
    ∙ ap (flat_map (object_of new)) (flat_same (Inside document place) (parts.data_of_values new) (parts.data_of_values document) (parts.values_of document property) (data_same document added place) inside)
    ∙ flat_same (λ (datum : Datum). Inside document place datum.spot) (object_of new) (object_of document) (flat_map (parts.data_of_values document) (parts.values_of document property))
    (datum_same document added place)
    (each_flat (Inside document place) (λ (datum : Datum). Inside document place datum.spot) (parts.data_of_values document) (parts.values_of document property) (data_inside document place) inside)

-- A property shows what it showed.
pub objects_same : (document added : Nodes) (signature place : Spot) (host_name : Expanded) → PropertySetting document added signature place host_name
    → (property : Spot) → IsHeld document place property → objects_in (put_last added place.path document) property ≡ objects_in document property
objects_same document added signature place host_name s property c =
    let tokens = token_stays document added signature place host_name s property c in
    let material = material_same document added place property c in
    λ i. cond (parts.is_stamp property) (objects_of_token (tokens i)) (material i)
