-- The fragments of time-stamps, as they are read where they stand.
use Rattle.std.proofs.Common.{◌≡◌, ℕ, true, List, [], ◌∷◌, Some, refl, ◌∙◌, ap, codes}
use Rattle.std.proofs.lemmas.List.{append-nil}
use Rattle.std.specs.Prelude.{filter, unwrap_or, option_and_then}
use Rattle.base64.specs.GeneralPurpose.{encode_of, IsBytes}
use Rattle.base64.specs.Engines.{standard}
use Rattle.document_model.specs.Names.{Name}
use Rattle.document_model.specs.Items.{Attribute}
use Rattle.document_model.specs.Tree.{Nodes, Path, Element, no_nodes}
use Rattle.document_model.specs.Scopes.{Tag}
use Rattle.document_model.specs.Methods.{exclusive_name, form_named}
use Rattle.signature_model.specs.Vocabulary.{ds, xades, ds_space, xades_space, xadesv141_space}
use Rattle.signature_model.specs.Spots.{Spot, is_called, attribute, emptied_all, first, text_among, is_text_alone}
use Rattle.signature_model.specs.Base64.{skipping}
use Rattle.signature_model.specs.Parts.{kind_of, SignatureStamp, ArchiveStamp, token, octets_or_none, stamp_form, form_in, form_or, plain_form, prefix_list}
use Rattle.signature_model.specs.Octets.{next_form}
use Rattle.signature_model.specs.Fragments.{prefixed, having, declaring, text, encoded, xades_element, exclusive_method, ◌then◌}
use Rattle.covered_items.proofs.NewElements.{Stands, spot_below, held_stands, elements_stand, child_there}
use Rattle.covered_items.proofs.Base64ReadBack.{read_back}

-- A time-stamp, by the attributes of its token's element.

abbrev pub stamp_inner : List Attribute → List ℕ → Nodes
stamp_inner attributes token = exclusive_method then xades_element (codes "EncapsulatedTimeStamp") attributes (encoded token)

abbrev pub signature_stamp_name : Name
signature_stamp_name = prefixed (codes "xades") (codes "SignatureTimeStamp")

abbrev pub signature_stamp_attributes : List Attribute
signature_stamp_attributes = declaring (codes "xades") xades_space ∷ []

abbrev pub archive_stamp_name : Name
archive_stamp_name = prefixed (codes "xadesv141") (codes "ArchiveTimeStamp")

abbrev pub archive_stamp_attributes : List Attribute
archive_stamp_attributes = declaring (codes "xadesv141") xadesv141_space ∷ []

abbrev pub token_name : Name
token_name = prefixed (codes "xades") (codes "EncapsulatedTimeStamp")

abbrev pub method_name : Name
method_name = prefixed (codes "ds") (codes "CanonicalizationMethod")

abbrev pub method_attributes : List Attribute
method_attributes = declaring (codes "ds") ds_space ∷ having (codes "Algorithm") exclusive_name ∷ []

pub text_whole : (cs : List ℕ) → text_among (emptied_all (text cs)) ≡ cs
text_whole [] = refl
text_whole (c ∷ cs) = append-nil (c ∷ cs)

pub text_is_alone : (cs : List ℕ) → is_text_alone (emptied_all (text cs)) ≡ true
text_is_alone [] = refl
text_is_alone (c ∷ cs) = refl

-- what an element with a token reads as
pub token_read : (document : Nodes) (spot : Spot) (name : Name) (attributes : List Attribute) (octets : List ℕ) → IsBytes octets
    → Stands document spot (Element name attributes (encoded octets)) → octets_or_none document (spot ∷ []) ≡ octets
token_read document spot name attributes octets b s =
    ap (λ nodes. unwrap_or (skipping (text_among nodes)) []) (held_stands document spot (Element name attributes (encoded octets)) s)
    ∙ ap (λ cs. unwrap_or (skipping cs) []) (text_whole (encode_of standard octets))
    ∙ ap (λ o. unwrap_or o []) (read_back octets b)

-- what an exclusive method reads as
pub method_read : (document : Nodes) (path : Path) (tags : List Tag) (k : ℕ) → Stands document (spot_below path tags k method_name method_attributes) (Element method_name method_attributes no_nodes)
    → form_in document (spot_below path tags k method_name method_attributes) ≡ Some next_form
method_read document path tags k s =
    let spot : Spot = spot_below path tags k method_name method_attributes in
    ap (λ spots. option_and_then (form_named (prefix_list (filter (is_called (record { space = exclusive_name; local = codes "InclusiveNamespaces" })) spots))) (attribute (codes "Algorithm") spot))
    (elements_stand document spot (Element method_name method_attributes no_nodes) s)

-- A signature time-stamp.

pub stamp_kind : (path : Path) (tags : List Tag) (k : ℕ) → kind_of (spot_below path tags k signature_stamp_name signature_stamp_attributes) ≡ SignatureStamp
stamp_kind path tags k = refl

pub stamp_token : (document : Nodes) (path : Path) (tags : List Tag) (k : ℕ) (octets : List ℕ) → IsBytes octets
    → Stands document (spot_below path tags k signature_stamp_name signature_stamp_attributes) (Element signature_stamp_name signature_stamp_attributes (stamp_inner [] octets))
    → token document (spot_below path tags k signature_stamp_name signature_stamp_attributes) ≡ octets
stamp_token document path tags k octets b s =
    let spot : Spot = spot_below path tags k signature_stamp_name signature_stamp_attributes in
    ap (λ spots. octets_or_none document (filter (is_called (xades (codes "EncapsulatedTimeStamp"))) spots))
    (elements_stand document spot (Element signature_stamp_name signature_stamp_attributes (stamp_inner [] octets)) s)
    ∙ token_read document (spot_below spot.path spot.tags 1 token_name []) token_name [] octets b
    (child_there document spot (Element signature_stamp_name signature_stamp_attributes (stamp_inner [] octets)) s 1 token_name [] (encoded octets) refl)

pub stamp_form_next : (document : Nodes) (path : Path) (tags : List Tag) (k : ℕ) (octets : List ℕ)
    → Stands document (spot_below path tags k signature_stamp_name signature_stamp_attributes) (Element signature_stamp_name signature_stamp_attributes (stamp_inner [] octets))
    → stamp_form document (spot_below path tags k signature_stamp_name signature_stamp_attributes) ≡ next_form
stamp_form_next document path tags k octets s =
    let spot : Spot = spot_below path tags k signature_stamp_name signature_stamp_attributes in
    ap (λ spots. form_or plain_form document (first (filter (is_called (ds (codes "CanonicalizationMethod"))) spots)))
    (elements_stand document spot (Element signature_stamp_name signature_stamp_attributes (stamp_inner [] octets)) s)
    ∙ ap (λ o. unwrap_or o plain_form) (method_read document spot.path spot.tags 0
    (child_there document spot (Element signature_stamp_name signature_stamp_attributes (stamp_inner [] octets)) s 0 method_name method_attributes no_nodes refl))

-- An archive time-stamp.

pub archive_kind : (path : Path) (tags : List Tag) (k : ℕ) → kind_of (spot_below path tags k archive_stamp_name archive_stamp_attributes) ≡ ArchiveStamp
archive_kind path tags k = refl

abbrev pub archive_inner : List ℕ → Nodes
archive_inner octets = stamp_inner (declaring (codes "xades") xades_space ∷ []) octets

pub archive_token : (document : Nodes) (path : Path) (tags : List Tag) (k : ℕ) (octets : List ℕ) → IsBytes octets
    → Stands document (spot_below path tags k archive_stamp_name archive_stamp_attributes) (Element archive_stamp_name archive_stamp_attributes (archive_inner octets))
    → token document (spot_below path tags k archive_stamp_name archive_stamp_attributes) ≡ octets
archive_token document path tags k octets b s =
    let spot : Spot = spot_below path tags k archive_stamp_name archive_stamp_attributes in
    ap (λ spots. octets_or_none document (filter (is_called (xades (codes "EncapsulatedTimeStamp"))) spots))
    (elements_stand document spot (Element archive_stamp_name archive_stamp_attributes (archive_inner octets)) s)
    ∙ token_read document (spot_below spot.path spot.tags 1 token_name (declaring (codes "xades") xades_space ∷ [])) token_name (declaring (codes "xades") xades_space ∷ []) octets b
    (child_there document spot (Element archive_stamp_name archive_stamp_attributes (archive_inner octets)) s 1 token_name (declaring (codes "xades") xades_space ∷ []) (encoded octets) refl)

pub archive_form_next : (document : Nodes) (path : Path) (tags : List Tag) (k : ℕ) (octets : List ℕ)
    → Stands document (spot_below path tags k archive_stamp_name archive_stamp_attributes) (Element archive_stamp_name archive_stamp_attributes (archive_inner octets))
    → stamp_form document (spot_below path tags k archive_stamp_name archive_stamp_attributes) ≡ next_form
archive_form_next document path tags k octets s =
    let spot : Spot = spot_below path tags k archive_stamp_name archive_stamp_attributes in
    ap (λ spots. form_or plain_form document (first (filter (is_called (ds (codes "CanonicalizationMethod"))) spots)))
    (elements_stand document spot (Element archive_stamp_name archive_stamp_attributes (archive_inner octets)) s)
    ∙ ap (λ o. unwrap_or o plain_form) (method_read document spot.path spot.tags 0
    (child_there document spot (Element archive_stamp_name archive_stamp_attributes (archive_inner octets)) s 0 method_name method_attributes no_nodes refl))
