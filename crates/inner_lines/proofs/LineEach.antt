-- What lines ask of several elements they ask of one after another.
use Rattle.std.proofs.Common.{not, List, ◌++◌, refl, sym, ◌∙◌, ap, codes}
use Rattle.std.proofs.lemmas.List.{append-nil, map-append}
use Rattle.std.specs.Prelude.{drop, filter, flat_map, map}
use Rattle.document_model.specs.Characters.{is_empty}
use Rattle.document_model.specs.Names.{Expanded}
use Rattle.document_model.specs.Tree.{Nodes, Path}
use Rattle.signature_model.specs.Vocabulary.{ds, xades}
use Rattle.signature_model.specs.Spots.{Spot, is_called, elements_in, called, called_in, first, paths, held_at, has_stray_text, is_text_alone}
use Rattle.signature_model.specs.Parts.{Datum, is_validation_data, values_of, data_of_values, token_elements, transforms}
use Rattle.signature_model.specs.Holding.{lacking, further, not_one, with_stray_text, without_value}
use Rattle.signature_model.specs.Shape.{data_object_line_of, wants_format, is_in_stamp}
use Rattle.inner_lines.specs.LineParts.{key_data_faults, wanting_faults, stamp_faults, revocation_lists, data_in_values, values_faults, material_faults, transform_faults, transforms_faults}
use Rattle.signature_parts.proofs.Spread.{Each, Spread, each_tested, each_flat, each_joined, each_of, spread_filter, spread_flat}

pub each_stray : (document : Nodes) → Each (with_stray_text document)
each_stray document = each_tested (λ spot. has_stray_text (held_at document spot.path))

pub each_alone : (document : Nodes) → Each (without_value document)
each_alone document = each_tested (λ spot. not (is_text_alone (held_at document spot.path)))

pub each_further : (document : Nodes) (name : Expanded) → Each (further document name)
each_further document name = each_flat (λ holder. paths (drop 1 (called document name holder)))

pub each_not_one : (document : Nodes) (name : Expanded) → Each (not_one document name)
each_not_one document name =
    each_joined (lacking document name) (further document name) (each_tested (λ holder. is_empty (called document name holder))) (each_further document name)

pub each_key_data : (document : Nodes) → Each (key_data_faults document)
each_key_data document =
    let name = ds (codes "X509Certificate") in
    each_joined (with_stray_text document) (λ spots. without_value document (called_in document name spots)) (each_stray document)
    (each_of (without_value document) (called_in document name) (each_alone document) (spread_flat (called document name)))

pub each_stamp : (document : Nodes) → Each (stamp_faults document)
each_stamp document =
    let method = ds (codes "CanonicalizationMethod") in
    let token = xades (codes "EncapsulatedTimeStamp") in
    let children : List Spot → List Path = λ spots. paths (filter (λ child. not (is_in_stamp child)) (flat_map (elements_in document) spots)) in
    let tokens : List Spot → List Path = λ spots. without_value document (flat_map (λ holder. first (token_elements document holder)) spots) in
    let here : List Spot → List Path = with_stray_text document in
    let methods : List Spot → List Path = further document method in
    let one : List Spot → List Path = not_one document token in
    each_joined (λ spots. here spots ++ methods spots ++ one spots ++ children spots) tokens
    (each_joined (λ spots. here spots ++ methods spots ++ one spots) children
    (each_joined (λ spots. here spots ++ methods spots) one (each_joined here methods (each_stray document) (each_further document method)) (each_not_one document token))
    (each_of (λ spots. paths (filter (λ child. not (is_in_stamp child)) spots)) (flat_map (elements_in document)) (each_tested (λ child. not (is_in_stamp child))) (spread_flat (elements_in document))))
    (each_of (without_value document) (flat_map (λ holder. first (token_elements document holder))) (each_alone document) (spread_flat (λ holder. first (token_elements document holder))))

pub spread_data : (document : Nodes) → Spread (data_in_values document)
spread_data document = record {
  none = refl;
  more = λ spot spots.
      map-append (λ (datum : Datum). datum.spot) (data_of_values document spot) (flat_map (data_of_values document) spots)
      ∙ ap (λ a. map (λ (datum : Datum). datum.spot) a ++ data_in_values document spots) (sym (append-nil (data_of_values document spot)));
}

pub each_values : (document : Nodes) → Each (values_faults document)
each_values document =
    let lists : List Spot → List Path = λ spots. with_stray_text document (flat_map (revocation_lists document) spots) in
    let values : List Spot → List Path = λ spots. without_value document (data_in_values document spots) in
    each_joined (λ spots. with_stray_text document spots ++ lists spots) values
    (each_joined (with_stray_text document) lists (each_stray document)
    (each_of (with_stray_text document) (flat_map (revocation_lists document)) (each_stray document) (spread_flat (revocation_lists document))))
    (each_of (without_value document) (data_in_values document) (each_alone document) (spread_data document))

pub each_material : (document : Nodes) → Each (material_faults document)
each_material document =
    each_joined (λ spots. with_stray_text document (filter is_validation_data spots)) (λ spots. values_faults document (flat_map (values_of document) spots))
    (each_of (with_stray_text document) (filter is_validation_data) (each_stray document) (spread_filter is_validation_data))
    (each_of (values_faults document) (flat_map (values_of document)) (each_values document) (spread_flat (values_of document)))

each_named : (document : Nodes) → Each (λ spots. with_stray_text document (filter (is_called (ds (codes "Transform"))) spots))
each_named document = each_of (with_stray_text document) (filter (is_called (ds (codes "Transform")))) (each_stray document) (spread_filter (is_called (ds (codes "Transform"))))

pub each_transform : (document : Nodes) → Each (transform_faults document)
each_transform document = each_of (λ spots. with_stray_text document (filter (is_called (ds (codes "Transform"))) spots)) (flat_map (transforms document)) (each_named document) (spread_flat (transforms document))

pub each_transforms : (document : Nodes) → Each (transforms_faults document)
each_transforms document = each_of (λ spots. with_stray_text document (filter (is_called (ds (codes "Transform"))) spots)) (flat_map (elements_in document)) (each_named document) (spread_flat (elements_in document))

pub each_wanting : (document : Nodes) (signature : Spot) → Each (wanting_faults document signature)
each_wanting document signature =
    each_of (flat_map (data_object_line_of document signature)) (filter (wants_format document signature)) (each_flat (data_object_line_of document signature)) (spread_filter (wants_format document signature))
