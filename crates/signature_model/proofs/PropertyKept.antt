-- The law for properties: what the References, the value and earlier stamps cover stays.
use Rattle.std.proofs.Common.{◌≡◌, ℕ, Bool, true, false, cond, not, List, [], ◌∷◌, ◌++◌, refl, sym, ◌∙◌, ap, codes, append_assoc, ◌==◌, ◌&&◌}
use Rattle.std.proofs.lemmas.Bool.{not-true}
use Rattle.std.proofs.lemmas.List.{append-nil}
use Rattle.std.specs.Prelude.{filter, flat_map, encode_utf8_all, unwrap_or}
use Rattle.std.specs.List.{list_any}
use Rattle.std.specs.Cmp.{unsigned_Decides}
use Rattle.document_model.specs.Characters.{is_empty}
use Rattle.document_model.specs.Names.{Expanded, same_expanded}
use Rattle.document_model.specs.Tree.{Nodes, Path, put_last}
use Rattle.document_model.specs.NodeSets.{subtree, is_within}
use Rattle.document_model.specs.Canonical.{Form}
use Rattle.document_model.proofs.Kept.{keeps_texts}
use Rattle.signature_model.specs.Vocabulary.{ds, xades}
use Rattle.signature_model.specs.Spots.{Spot, is_called, elements_in, called, first, without_white}
use Rattle.signature_model.specs.Base64.{skipping}
use Rattle.signature_model.specs.Parts.{signed_info, value, key_info, objects, method, references, is_qualifying, qualifying_objects, other_objects, qualifying, unsigned, unsigned_signature, properties, host, PropertyKind, SignatureStamp, ArchiveStamp, Material, Passed, kind_of, stamp_method, stamp_form, plain_form, form_or, form_in, octets_or_none, is_blank, is_signed, token_elements, token}
use Rattle.signature_model.specs.Parts as parts
use Rattle.signature_model.specs.Chains.{Handed}
use Rattle.signature_model.specs.Octets.{reference_octets, subtree_octets, joined_octets, value_octets, archive_octets, octets_of_stamp, octets_at}
use Rattle.signature_model.specs.Covers.{Entry, Signed, digested, stamped_by, stamped, covers}
use Rattle.signature_model.specs.Keeping.{IsSpot, GoesOn}
use Rattle.signature_model.proofs.Standing.{Each, IsChild, children_stand}
use Rattle.signature_model.proofs.Lists.{not_both, each_filter, each_append, each_map, each_first, flat_same, filter_same, any_same, not_within_holder, not_within_other}
use Rattle.signature_model.proofs.Apart.{Apart, IsNamed, other_path, same_tags, called_stay, text_stays, form_stays, called_named, all_apart}
use Rattle.signature_model.proofs.References.{whole_or_element, references_stay, reference_stays}
use Rattle.signature_model.proofs.PartsStay.{objects_apart, key_info_stays, info_stays, method_stays, method_apart}
use Rattle.signature_model.proofs.Covered.{Below, IsProperty, Setting, Unreached, unreached_references, signature_apart, all_digested_stay}

-- Texts of elements that aren't around the host.

pub record Beside (document : Nodes) (place spot : Spot) : Type 0 where
  pub stands : IsSpot document spot
  pub beside : is_within spot.path place.path ≡ false

pub off : (a b c : Bool) → a ≡ false → (a && b && c) ≡ false
off a b c e = rw e refl

subtree_stays : (form : Form) (document added : Nodes) (place : Spot) → IsSpot document place → (spot : Spot) → Beside document place spot
    → subtree_octets form (put_last added place.path document) spot ≡ subtree_octets form document spot
subtree_stays form document added place p spot b =
    ap encode_utf8_all ((keeps_texts (subtree spot.path) document added place.path p.element
    (whole_or_element document spot.path b.stands.element) (off (is_within spot.path place.path) true true b.beside)).1 form)

pub joined_stay : (form : Form) (document added : Nodes) (place : Spot) → IsSpot document place → (spots : List Spot) → Each (Beside document place) spots
    → joined_octets form (put_last added place.path document) spots ≡ joined_octets form document spots
joined_stay form document added place p spots b =
    flat_same (Beside document place) (subtree_octets form (put_last added place.path document)) (subtree_octets form document) spots (subtree_stays form document added place p) b

-- Children of the signature, by name.

abbrev pub IsPart : Nodes → Spot → Expanded → Spot → Type 0
IsPart document signature name spot = IsChild document signature spot × (is_called name spot ≡ true)

pub parts_called : (document : Nodes) (signature : Spot) (name : Expanded) → IsSpot document signature → Each (IsPart document signature name) (called document name signature)
parts_called document signature name s = each_filter (IsChild document signature) (is_called name) (elements_in document signature) (children_stand document signature s)

-- a child of the signature that isn't the Object of the properties is beside the host
child_beside : (document : Nodes) (signature place : Spot) (b : Below document signature place) (spot : Spot) → IsChild document signature spot
    → (spot.path ≡ b.object.path → ⊥) → Beside document place spot
child_beside document signature place b spot c d =
    let k : ℕ = c.number.0 in
    let i : ℕ = b.is_child.number.0 in
    let place_path : place.path ≡ signature.path ++ (i ∷ b.rest) =
    b.path ∙ ap (λ path. path ++ b.rest) b.is_child.number.1 ∙ append_assoc signature.path (i ∷ []) b.rest in
    let differ : k ≡ i → ⊥ = λ e. d (c.number.1 ∙ ap (λ j. signature.path ++ j ∷ []) e ∙ sym b.is_child.number.1) in
    record {
      stands = c.stands;
      beside = ap (λ path. is_within path place.path) c.number.1 ∙ ap (is_within (signature.path ++ k ∷ [])) place_path
          ∙ not_within_other signature.path k i b.rest differ;
    }

-- one with another name isn't
named_beside : (document : Nodes) (signature place : Spot) (b : Below document signature place) (name : Expanded) → same_expanded name (ds (codes "Object")) ≡ false
    → (spot : Spot) → IsPart document signature name spot → Beside document place spot
named_beside document signature place b name d spot c = child_beside document signature place b spot c.0
    (other_path document spot b.object c.0.stands b.is_child.stands name (ds (codes "Object")) c.1 b.named d)

-- and an Object without QualifyingProperties isn't
same_qualifying : (document : Nodes) (a b : Spot) → a.path ≡ b.path → a.tags ≡ b.tags → is_qualifying document a ≡ is_qualifying document b
same_qualifying document a b p t = λ i. is_qualifying document (record { path = p i; tags = t i })

object_beside : (document : Nodes) (signature place : Spot) (b : Below document signature place) (spot : Spot)
    → IsPart document signature (ds (codes "Object")) spot × (not (is_qualifying document spot) ≡ true) → Beside document place spot
object_beside document signature place b spot c = child_beside document signature place b spot c.0.0
    (λ e. not_both (sym b.qualifies ∙ sym (same_qualifying document spot b.object e (same_tags document spot b.object c.0.0.stands b.is_child.stands e)) ∙ not-true _ c.1))

parts_beside : (document : Nodes) (signature place : Spot) (b : Below document signature place) (name : Expanded) → same_expanded name (ds (codes "Object")) ≡ false
    → IsSpot document signature → Each (Beside document place) (first (called document name signature))
parts_beside document signature place b name d s = each_first (Beside document place) _
    (each_map (IsPart document signature name) (Beside document place) _ (named_beside document signature place b name d) (parts_called document signature name s))

objects_beside : (document : Nodes) (signature place : Spot) → Below document signature place → IsSpot document signature → Each (Beside document place) (other_objects document signature)
objects_beside document signature place b s =
    each_map (λ spot. IsPart document signature (ds (codes "Object")) spot × (not (is_qualifying document spot) ≡ true)) (Beside document place) _
    (object_beside document signature place b)
    (each_filter (IsPart document signature (ds (codes "Object"))) (λ object. not (is_qualifying document object)) (objects document signature)
    (parts_called document signature (ds (codes "Object")) s))

-- The setting of a property.

pub record PropertySetting (document added : Nodes) (signature place : Spot) (host_name : Expanded) : Type 0 where
  pub setting : Setting document added signature place host_name
  pub names : IsProperty host_name
  pub below : Below document signature place

-- Objects.

qualifying_stays : (document added : Nodes) (place object : Spot) → Apart document place object → is_qualifying (put_last added place.path document) object ≡ is_qualifying document object
qualifying_stays document added place object a =
    ap (λ spots. not (is_empty spots)) (called_stay document added place (xades (codes "QualifyingProperties")) object a)

other_objects_stay : (document added : Nodes) (signature place : Spot) (host_name : Expanded) → PropertySetting document added signature place host_name
    → other_objects (put_last added place.path document) signature ≡ other_objects document signature
other_objects_stay document added signature place host_name s =
    let new : Nodes = put_last added place.path document in
    ap (filter (λ object. not (is_qualifying new object))) (called_stay document added place (ds (codes "Object")) signature (signature_apart document added signature place host_name s.setting))
    ∙ filter_same (Apart document place) (λ object. not (is_qualifying new object)) (λ object. not (is_qualifying document object)) (objects document signature)
    (λ object a. ap not (qualifying_stays document added place object a))
    (objects_apart document added signature place host_name s.setting s.names.object)

-- Forms and base64 of first elements.

pub form_or_stays : (form : Form) (document added : Nodes) (place : Spot) (spots : List Spot) → Each (Apart document place) spots
    → form_or form (put_last added place.path document) spots ≡ form_or form document spots
form_or_stays form document added place [] a = refl
form_or_stays form document added place (spot ∷ spots) a = ap (λ o. unwrap_or o form) (form_stays document added place spot a.0)

pub octets_or_none_stay : (document added : Nodes) (place : Spot) (spots : List Spot) → Each (Apart document place) spots
    → octets_or_none (put_last added place.path document) spots ≡ octets_or_none document spots
octets_or_none_stay document added place [] a = refl
octets_or_none_stay document added place (spot ∷ spots) a = ap (λ text. unwrap_or (skipping text) []) (text_stays document added place spot a.0)

-- The value.

value_named : (document : Nodes) (signature : Spot) → IsSpot document signature → Each (IsNamed document (ds (codes "SignatureValue"))) (value document signature)
value_named document signature s = each_first (IsNamed document (ds (codes "SignatureValue"))) _ (called_named document (ds (codes "SignatureValue")) signature s)

pub value_apart : (document added : Nodes) (signature place : Spot) (host_name : Expanded) → PropertySetting document added signature place host_name
    → Each (Apart document place) (value document signature)
value_apart document added signature place host_name s =
    all_apart document place (ds (codes "SignatureValue")) host_name s.setting.place_named s.names.value _ (value_named document signature s.setting.signature_named.stands)

pub value_stays : (document added : Nodes) (signature place : Spot) (host_name : Expanded) → PropertySetting document added signature place host_name
    → value (put_last added place.path document) signature ≡ value document signature
value_stays document added signature place host_name s =
    ap first (called_stay document added place (ds (codes "SignatureValue")) signature (signature_apart document added signature place host_name s.setting))

pub blank_stays : (document added : Nodes) (place spot : Spot) → Apart document place spot → is_blank (put_last added place.path document) spot ≡ is_blank document spot
blank_stays document added place spot a = ap (λ text. is_empty (without_white text)) (text_stays document added place spot a)

pub signed_stays : (document added : Nodes) (signature place : Spot) (host_name : Expanded) → PropertySetting document added signature place host_name
    → is_signed (put_last added place.path document) signature ≡ is_signed document signature
signed_stays document added signature place host_name s =
    let new : Nodes = put_last added place.path document in
    ap (list_any (λ spot. not (is_blank new spot))) (value_stays document added signature place host_name s)
    ∙ any_same (Apart document place) (λ spot. not (is_blank new spot)) (λ spot. not (is_blank document spot)) (value document signature)
    (λ spot a. ap not (blank_stays document added place spot a)) (value_apart document added signature place host_name s)

pub value_bytes_stay : (document added : Nodes) (signature place : Spot) (host_name : Expanded) → PropertySetting document added signature place host_name
    → parts.value_octets (put_last added place.path document) signature ≡ parts.value_octets document signature
value_bytes_stay document added signature place host_name s =
    ap (octets_or_none (put_last added place.path document)) (value_stays document added signature place host_name s)
    ∙ octets_or_none_stay document added place (value document signature) (value_apart document added signature place host_name s)

-- Texts of parts.

part_texts_stay : (form : Form) (document added : Nodes) (signature place : Spot) (host_name : Expanded) → PropertySetting document added signature place host_name
    → (spots : List Spot) → Each (Beside document place) spots → joined_octets form (put_last added place.path document) spots ≡ joined_octets form document spots
part_texts_stay form document added signature place host_name s spots b = joined_stay form document added place s.setting.place_named.stands spots b

info_beside : (document added : Nodes) (signature place : Spot) (host_name : Expanded) → PropertySetting document added signature place host_name → Each (Beside document place) (signed_info document signature)
info_beside document added signature place host_name s = parts_beside document signature place s.below (ds (codes "SignedInfo")) refl s.setting.signature_named.stands

value_beside : (document added : Nodes) (signature place : Spot) (host_name : Expanded) → PropertySetting document added signature place host_name → Each (Beside document place) (value document signature)
value_beside document added signature place host_name s = parts_beside document signature place s.below (ds (codes "SignatureValue")) refl s.setting.signature_named.stands

key_beside : (document added : Nodes) (signature place : Spot) (host_name : Expanded) → PropertySetting document added signature place host_name → Each (Beside document place) (key_info document signature)
key_beside document added signature place host_name s = parts_beside document signature place s.below (ds (codes "KeyInfo")) refl s.setting.signature_named.stands

pub signed_octets_stay : (document added : Nodes) (signature place : Spot) (host_name : Expanded) → PropertySetting document added signature place host_name
    → value_octets (put_last added place.path document) signature ≡ value_octets document signature
signed_octets_stay document added signature place host_name s =
    let new : Nodes = put_last added place.path document in
    let infos = info_stays document added signature place host_name s.setting in
    let methods = method_stays document added signature place host_name s.setting in
    (λ i. joined_octets (form_or plain_form new (methods i)) new (infos i))
    ∙ ap (λ form. joined_octets form new (signed_info document signature)) (form_or_stays plain_form document added place (method document signature) (method_apart document added signature place host_name s.setting))
    ∙ part_texts_stay (form_or plain_form document (method document signature)) document added signature place host_name s (signed_info document signature) (info_beside document added signature place host_name s)

-- Stamps.

archive_stays : (form : Form) (handed : Handed) (document added : Nodes) (signature place : Spot) (host_name : Expanded) → PropertySetting document added signature place host_name
    → (before : List Spot) → Each (Beside document place) before
    → archive_octets form handed (put_last added place.path document) signature before ≡ archive_octets form handed document signature before
archive_stays form handed document added signature place host_name s before b =
    let new : Nodes = put_last added place.path document in
    let refs = ap (flat_map (reference_octets form handed new signature.path))
    (references_stay document added place signature host_name s.setting.place_named s.setting.other (signature_apart document added signature place host_name s.setting))
    ∙ flat_same (Unreached document signature place) (reference_octets form handed new signature.path) (reference_octets form handed document signature.path) (references document signature)
    (λ reference u. reference_stays form handed document added place host_name s.setting.place_named s.setting.other s.setting.no_identifiers signature.path reference u.0 u.1)
    (unreached_references document added signature place host_name s.setting) in
    let infos = info_stays document added signature place host_name s.setting in
    let values = value_stays document added signature place host_name s in
    let keys = key_info_stays document added signature place host_name s.setting in
    let three : joined_octets form new (signed_info new signature ++ value new signature ++ key_info new signature)
    ≡ joined_octets form document (signed_info document signature ++ value document signature ++ key_info document signature) =
    (λ i. joined_octets form new (infos i ++ values i ++ keys i))
    ∙ part_texts_stay form document added signature place host_name s (signed_info document signature ++ value document signature ++ key_info document signature)
    (each_append (Beside document place) (signed_info document signature ++ value document signature) (key_info document signature)
    (each_append (Beside document place) (signed_info document signature) (value document signature)
    (info_beside document added signature place host_name s) (value_beside document added signature place host_name s))
    (key_beside document added signature place host_name s)) in
    let earlier = part_texts_stay form document added signature place host_name s before b in
    let others = ap (joined_octets form new) (other_objects_stay document added signature place host_name s)
    ∙ part_texts_stay form document added signature place host_name s (other_objects document signature)
    (objects_beside document signature place s.below s.setting.signature_named.stands) in
    λ i. refs i ++ three i ++ earlier i ++ others i

pub stamp_octets_stay : (kind : PropertyKind) (form : Form) (handed : Handed) (document added : Nodes) (signature place : Spot) (host_name : Expanded)
    → PropertySetting document added signature place host_name → (before : List Spot) → Each (Beside document place) before
    → octets_of_stamp kind form handed (put_last added place.path document) signature before ≡ octets_of_stamp kind form handed document signature before
stamp_octets_stay SignatureStamp form handed document added signature place host_name s before b =
    ap (joined_octets form (put_last added place.path document)) (value_stays document added signature place host_name s)
    ∙ part_texts_stay form document added signature place host_name s (value document signature) (value_beside document added signature place host_name s)
stamp_octets_stay ArchiveStamp form handed document added signature place host_name s before b = archive_stays form handed document added signature place host_name s before b
stamp_octets_stay Material form handed document added signature place host_name s before b = refl
stamp_octets_stay Passed form handed document added signature place host_name s before b = refl

-- a property that the host holds
abbrev pub IsHeld : Nodes → Spot → Spot → Type 0
IsHeld document place property = IsChild document place property

pub same_self : (path : Path) → is_within path path ≡ true
same_self [] = refl
same_self (k ∷ path) = let here : (k == k) ≡ true = (unsigned_Decides k k).1 refl in rw here (same_self path)

pub held_beside : (document : Nodes) (place property : Spot) → IsHeld document place property → Beside document place property
held_beside document place property c = record {
  stands = c.stands;
  beside = ap (λ path. is_within path place.path) c.number.1 ∙ not_within_holder place.path c.number.0;
}

pub held_apart : (document : Nodes) (place property : Spot) → IsHeld document place property → Apart document place property
held_apart document place property c = record {
  stands = c.stands;
  apart = λ e. not_both (sym (same_self place.path) ∙ ap (λ path. is_within path place.path) (sym e) ∙ (held_beside document place property c).beside);
}

pub token_stays : (document added : Nodes) (signature place : Spot) (host_name : Expanded) → PropertySetting document added signature place host_name
    → (property : Spot) → IsHeld document place property → token (put_last added place.path document) property ≡ token document property
token_stays document added signature place host_name s property c =
    ap (octets_or_none (put_last added place.path document)) (called_stay document added place (xades (codes "EncapsulatedTimeStamp")) property (held_apart document place property c))
    ∙ octets_or_none_stay document added place (token_elements document property)
    (all_apart document place (xades (codes "EncapsulatedTimeStamp")) host_name s.setting.place_named s.names.token _
    (called_named document (xades (codes "EncapsulatedTimeStamp")) property c.stands))

stamp_form_stays : (document added : Nodes) (signature place : Spot) (host_name : Expanded) → PropertySetting document added signature place host_name
    → (property : Spot) → IsHeld document place property → stamp_form (put_last added place.path document) property ≡ stamp_form document property
stamp_form_stays document added signature place host_name s property c =
    ap (λ spots. form_or plain_form (put_last added place.path document) (first spots)) (called_stay document added place (ds (codes "CanonicalizationMethod")) property (held_apart document place property c))
    ∙ form_or_stays plain_form document added place (stamp_method document property)
    (all_apart document place (ds (codes "CanonicalizationMethod")) host_name s.setting.place_named s.setting.other.method _
    (each_first (IsNamed document (ds (codes "CanonicalizationMethod"))) _ (called_named document (ds (codes "CanonicalizationMethod")) property c.stands)))

pub octets_at_stay : (handed : Handed) (document added : Nodes) (signature place : Spot) (host_name : Expanded) → PropertySetting document added signature place host_name
    → (before : List Spot) → Each (Beside document place) before → (property : Spot) → IsHeld document place property
    → octets_at handed (put_last added place.path document) signature before property ≡ octets_at handed document signature before property
octets_at_stay handed document added signature place host_name s before b property c =
    ap (λ form. octets_of_stamp (kind_of property) form handed (put_last added place.path document) signature before) (stamp_form_stays document added signature place host_name s property c)
    ∙ stamp_octets_stay (kind_of property) (stamp_form document property) handed document added signature place host_name s before b

stamped_stay : (handed : Handed) (document added : Nodes) (signature place : Spot) (host_name : Expanded) → PropertySetting document added signature place host_name
    → (before list : List Spot) → Each (Beside document place) before → Each (IsHeld document place) list
    → stamped handed (put_last added place.path document) signature before list ≡ stamped handed document signature before list
stamped_stay handed document added signature place host_name s before [] b h = refl
stamped_stay handed document added signature place host_name s before (property ∷ list) b h =
    let tokens = token_stays document added signature place host_name s property h.0 in
    let octets = octets_at_stay handed document added signature place host_name s before b property h.0 in
    let others = stamped_stay handed document added signature place host_name s (before ++ property ∷ []) list
    (each_append (Beside document place) before (property ∷ []) b (held_beside document place property h.0, tt)) h.1 in
    λ i. stamped_by (kind_of property) (tokens i) (octets i) ++ others i

stamped_append : (handed : Handed) (document : Nodes) (signature : Spot) (before list more : List Spot)
    → stamped handed document signature before (list ++ more) ≡ stamped handed document signature before list ++ stamped handed document signature (before ++ list) more
stamped_append handed document signature before [] more = ap (λ b. stamped handed document signature b more) (sym (append-nil before))
stamped_append handed document signature before (property ∷ list) more =
    let here : List Entry = stamped_by (kind_of property) (token document property) (octets_at handed document signature before property) in
    ap (λ entries. here ++ entries) (stamped_append handed document signature (before ++ property ∷ []) list more
    ∙ ap (λ b. stamped handed document signature (before ++ property ∷ []) list ++ stamped handed document signature b more) (append_assoc before (property ∷ []) list))
    ∙ sym (append_assoc here (stamped handed document signature (before ++ property ∷ []) list) (stamped handed document signature (before ++ property ∷ list) more))

-- The properties of the new document are the old ones and more.

pub record PropertiesGrow (document added : Nodes) (signature place : Spot) : Type 0 where
  pub more : List Spot
  pub grown : properties (put_last added place.path document) signature ≡ properties document signature ++ more
  pub held : Each (IsHeld document place) (properties document signature)

cond_goes_on : (b : Bool) (x y z : List Entry) → x ≡ y ++ z → cond b x [] ≡ cond b y [] ++ cond b z []
cond_goes_on true x y z e = e
cond_goes_on false x y z e = refl

-- What the signature covers in the new document: what it covered, and behind it what the new properties are.
pub setting_adds : (handed : Handed) (document added : Nodes) (signature place : Spot) (host_name : Expanded) → PropertySetting document added signature place host_name
    → (g : PropertiesGrow document added signature place)
    → covers handed (put_last added place.path document) signature ≡ covers handed document signature
    ++ cond (is_signed document signature) (stamped handed (put_last added place.path document) signature (properties document signature) g.more) []
setting_adds handed document added signature place host_name s g =
    let new : Nodes = put_last added place.path document in
    let values = value_bytes_stay document added signature place host_name s in
    let octets = signed_octets_stay document added signature place host_name s in
    let more : List Entry = stamped handed new signature (properties document signature) g.more in
    let stamps : stamped handed new signature [] (properties new signature) ≡ stamped handed document signature [] (properties document signature) ++ more =
    ap (stamped handed new signature []) g.grown ∙ stamped_append handed new signature [] (properties document signature) g.more
    ∙ ap (λ entries. entries ++ more) (stamped_stay handed document added signature place host_name s [] (properties document signature) tt g.held) in
    let old_rest : List Entry = Signed (parts.value_octets document signature) (value_octets document signature) ∷ stamped handed document signature [] (properties document signature) in
    let new_rest : List Entry = Signed (parts.value_octets new signature) (value_octets new signature) ∷ stamped handed new signature [] (properties new signature) in
    let rests : new_rest ≡ old_rest ++ more = λ i. Signed (values i) (octets i) ∷ stamps i in
    let front : List Entry = digested handed document signature.path 1 (references document signature) in
    let fronts = all_digested_stay handed document added signature place host_name s.setting in
    let signs = signed_stays document added signature place host_name s in
    let b : Bool = is_signed document signature in
    (λ i. fronts i ++ cond (signs i) new_rest [])
    ∙ ap (λ entries. front ++ entries) (cond_goes_on b new_rest old_rest more rests)
    ∙ sym (append_assoc front (cond b old_rest []) (cond b more []))

pub setting_keeps : (handed : Handed) (document added : Nodes) (signature place : Spot) (host_name : Expanded) → PropertySetting document added signature place host_name
    → PropertiesGrow document added signature place
    → GoesOn (covers handed document signature) (covers handed (put_last added place.path document) signature)
setting_keeps handed document added signature place host_name s g = (
  cond (is_signed document signature) (stamped handed (put_last added place.path document) signature (properties document signature) g.more) [],
  setting_adds handed document added signature place host_name s g,
)
