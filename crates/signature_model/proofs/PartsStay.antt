-- Where content is put into the value or as a property, the Objects, KeyInfo, SignedInfo and its method stay.
use Rattle.std.proofs.Common.{◌≡◌, false, not, ◌∙◌, ap, codes}
use Rattle.std.specs.Prelude.{filter}
use Rattle.document_model.specs.Characters.{is_empty}
use Rattle.document_model.specs.Names.{Expanded, same_expanded}
use Rattle.document_model.specs.Tree.{Nodes, put_last}
use Rattle.signature_model.specs.Vocabulary.{ds, xades}
use Rattle.signature_model.specs.Spots.{Spot, called_in, first}
use Rattle.signature_model.specs.Parts.{signed_info, key_info, objects, method, is_qualifying, qualifying_objects}
use Rattle.signature_model.proofs.Standing.{Each}
use Rattle.signature_model.proofs.Lists.{each_first, filter_same}
use Rattle.signature_model.proofs.Apart.{Apart, IsNamed, called_stay, called_in_stay, called_named, called_in_named, named_stand, all_apart}
use Rattle.signature_model.proofs.References.{signed_info_stays, signed_info_named}
use Rattle.signature_model.proofs.Covered.{Setting, signature_apart}

pub objects_apart : (document added : Nodes) (signature place : Spot) (host_name : Expanded) → Setting document added signature place host_name
    → same_expanded (ds (codes "Object")) host_name ≡ false → Each (Apart document place) (objects document signature)
objects_apart document added signature place host_name s d =
    all_apart document place (ds (codes "Object")) host_name s.place_named d _
    (called_named document (ds (codes "Object")) signature s.signature_named.stands)

pub qualifying_objects_stay : (document added : Nodes) (signature place : Spot) (host_name : Expanded) → Setting document added signature place host_name
    → same_expanded (ds (codes "Object")) host_name ≡ false → qualifying_objects (put_last added place.path document) signature ≡ qualifying_objects document signature
qualifying_objects_stay document added signature place host_name s d =
    let new : Nodes = put_last added place.path document in
    ap (filter (is_qualifying new)) (called_stay document added place (ds (codes "Object")) signature (signature_apart document added signature place host_name s))
    ∙ filter_same (Apart document place) (is_qualifying new) (is_qualifying document) (objects document signature)
    (λ object a. ap (λ spots. not (is_empty spots)) (called_stay document added place (xades (codes "QualifyingProperties")) object a))
    (objects_apart document added signature place host_name s d)

pub key_info_stays : (document added : Nodes) (signature place : Spot) (host_name : Expanded) → Setting document added signature place host_name
    → key_info (put_last added place.path document) signature ≡ key_info document signature
key_info_stays document added signature place host_name s =
    ap first (called_stay document added place (ds (codes "KeyInfo")) signature (signature_apart document added signature place host_name s))

pub info_stays : (document added : Nodes) (signature place : Spot) (host_name : Expanded) → Setting document added signature place host_name
    → signed_info (put_last added place.path document) signature ≡ signed_info document signature
info_stays document added signature place host_name s = signed_info_stays document added place signature (signature_apart document added signature place host_name s)

pub method_stays : (document added : Nodes) (signature place : Spot) (host_name : Expanded) → Setting document added signature place host_name
    → method (put_last added place.path document) signature ≡ method document signature
method_stays document added signature place host_name s =
    let new : Nodes = put_last added place.path document in
    ap (λ infos. first (called_in new (ds (codes "CanonicalizationMethod")) infos)) (info_stays document added signature place host_name s)
    ∙ ap first (called_in_stay document added place (ds (codes "CanonicalizationMethod")) (signed_info document signature)
    (all_apart document place (ds (codes "SignedInfo")) host_name s.place_named s.other.signed_info _
    (signed_info_named document signature s.signature_named.stands)))

pub method_apart : (document added : Nodes) (signature place : Spot) (host_name : Expanded) → Setting document added signature place host_name
    → Each (Apart document place) (method document signature)
method_apart document added signature place host_name s =
    all_apart document place (ds (codes "CanonicalizationMethod")) host_name s.place_named s.other.method (method document signature)
    (each_first (IsNamed document (ds (codes "CanonicalizationMethod"))) _
    (called_in_named document (ds (codes "CanonicalizationMethod")) (signed_info document signature)
    (named_stand document (ds (codes "SignedInfo")) _ (signed_info_named document signature s.signature_named.stands))))
