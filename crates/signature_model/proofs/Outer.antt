-- The elements around the properties stay, and so does the host where content is put into a list of properties or into the value.
use Rattle.std.proofs.Common.{◌≡◌, ℕ, suc, Bool, true, false, cond, List, [], ◌∷◌, ◌++◌, Some, None, refl, sym, ◌∙◌, ap, codes}
use Rattle.std.specs.Prelude.{filter}
use Rattle.std.specs.List.{list_any}
use Rattle.document_model.specs.Characters.{is_empty}
use Rattle.document_model.specs.Names.{Expanded, same_expanded}
use Rattle.document_model.specs.Tree.{Nodes, put_last}
use Rattle.signature_model.specs.Vocabulary.{ds, xades}
use Rattle.signature_model.specs.Spots.{Spot, called_in, first, without_white}
use Rattle.signature_model.specs.Parts.{references, value, host, objects, is_qualifying, qualifying_objects, qualifying, unsigned, unsigned_signature, is_blank}
use Rattle.signature_model.specs.Covers.{lies_in, places, is_reached, covers_place, first_covering, IsFree}
use Rattle.signature_model.specs.Keeping.{IsSpot}
use Rattle.signature_model.proofs.Standing.{Each}
use Rattle.signature_model.proofs.Lists.{neither, each_filter, each_map, each_first, filter_same}
use Rattle.signature_model.proofs.Apart.{Apart, IsNamed, called_stay, called_in_stay, text_stays, called_named, called_in_named, all_apart}
use Rattle.signature_model.proofs.References.{references_stay, references_named}
use Rattle.signature_model.proofs.Covered.{Setting, signature_apart, cond_none}
use Rattle.signature_model.proofs.PartsStay.{objects_apart, qualifying_objects_stay}
use Rattle.signature_model.proofs.FreeAgain.{node_set_stays, free_where_places_stay}
use Rattle.std.specs.Option.{option_map_or}

-- the host has another name than these three
pub record IsInner (host_name : Expanded) : Type 0 where
  pub object : same_expanded (ds (codes "Object")) host_name ≡ false
  pub qualifying : same_expanded (xades (codes "QualifyingProperties")) host_name ≡ false
  pub unsigned : same_expanded (xades (codes "UnsignedProperties")) host_name ≡ false

first_objects_apart : (document added : Nodes) (signature place : Spot) (host_name : Expanded) → Setting document added signature place host_name → same_expanded (ds (codes "Object")) host_name ≡ false
    → Each (Apart document place) (first (qualifying_objects document signature))
first_objects_apart document added signature place host_name s d =
    each_first (Apart document place) _
    (each_map (λ spot. Apart document place spot × (is_qualifying document spot ≡ true)) (Apart document place) _ (λ spot a. a.0)
    (each_filter (Apart document place) (is_qualifying document) (objects document signature) (objects_apart document added signature place host_name s d)))

pub qualifying_stays : (document added : Nodes) (signature place : Spot) (host_name : Expanded) → Setting document added signature place host_name → same_expanded (ds (codes "Object")) host_name ≡ false
    → qualifying (put_last added place.path document) signature ≡ qualifying document signature
qualifying_stays document added signature place host_name s d =
    ap (λ spots. first (called_in (put_last added place.path document) (xades (codes "QualifyingProperties")) (first spots))) (qualifying_objects_stay document added signature place host_name s d)
    ∙ ap first (called_in_stay document added place (xades (codes "QualifyingProperties")) (first (qualifying_objects document signature))
    (first_objects_apart document added signature place host_name s d))

apart_stand : (document : Nodes) (place : Spot) (spots : List Spot) → Each (Apart document place) spots → Each (IsSpot document) spots
apart_stand document place spots a = each_map (Apart document place) (IsSpot document) spots (λ spot h. h.stands) a

pub qualifying_apart : (document added : Nodes) (signature place : Spot) (host_name : Expanded) → Setting document added signature place host_name → same_expanded (ds (codes "Object")) host_name ≡ false → same_expanded (xades (codes "QualifyingProperties")) host_name ≡ false
    → Each (Apart document place) (qualifying document signature)
qualifying_apart document added signature place host_name s d dq =
    each_first (Apart document place) _ (all_apart document place (xades (codes "QualifyingProperties")) host_name s.place_named dq _
    (called_in_named document (xades (codes "QualifyingProperties")) (first (qualifying_objects document signature))
    (apart_stand document place _ (first_objects_apart document added signature place host_name s d))))

pub unsigned_stays : (document added : Nodes) (signature place : Spot) (host_name : Expanded) → Setting document added signature place host_name → same_expanded (ds (codes "Object")) host_name ≡ false → same_expanded (xades (codes "QualifyingProperties")) host_name ≡ false
    → unsigned (put_last added place.path document) signature ≡ unsigned document signature
unsigned_stays document added signature place host_name s d dq =
    ap (λ spots. first (called_in (put_last added place.path document) (xades (codes "UnsignedProperties")) spots)) (qualifying_stays document added signature place host_name s d)
    ∙ ap first (called_in_stay document added place (xades (codes "UnsignedProperties")) (qualifying document signature)
    (qualifying_apart document added signature place host_name s d dq))

pub unsigned_apart : (document added : Nodes) (signature place : Spot) (host_name : Expanded) → Setting document added signature place host_name → IsInner host_name
    → Each (Apart document place) (unsigned document signature)
unsigned_apart document added signature place host_name s d =
    each_first (Apart document place) _ (all_apart document place (xades (codes "UnsignedProperties")) host_name s.place_named d.unsigned _
    (called_in_named document (xades (codes "UnsignedProperties")) (qualifying document signature)
    (apart_stand document place _ (qualifying_apart document added signature place host_name s d.object d.qualifying))))

pub list_stays : (document added : Nodes) (signature place : Spot) (host_name : Expanded) → Setting document added signature place host_name → IsInner host_name
    → unsigned_signature (put_last added place.path document) signature ≡ unsigned_signature document signature
list_stays document added signature place host_name s d =
    ap (λ spots. first (called_in (put_last added place.path document) (xades (codes "UnsignedSignatureProperties")) spots)) (unsigned_stays document added signature place host_name s d.object d.qualifying)
    ∙ ap first (called_in_stay document added place (xades (codes "UnsignedSignatureProperties")) (unsigned document signature)
    (unsigned_apart document added signature place host_name s d))

pub host_stays : (document added : Nodes) (signature place : Spot) (host_name : Expanded) → Setting document added signature place host_name → IsInner host_name
    → host (put_last added place.path document) signature ≡ host document signature
host_stays document added signature place host_name s d =
    let l = list_stays document added signature place host_name s d in
    let u = unsigned_stays document added signature place host_name s d.object d.qualifying in
    let q = qualifying_stays document added signature place host_name s d.object in
    λ i. first (l i ++ u i ++ q i)

pub value_stays : (document added : Nodes) (signature place : Spot) (host_name : Expanded) → Setting document added signature place host_name
    → value (put_last added place.path document) signature ≡ value document signature
value_stays document added signature place host_name s =
    ap first (called_stay document added place (ds (codes "SignatureValue")) signature (signature_apart document added signature place host_name s))

-- A property in an existing list of properties leaves the signature free.
pub free_with_property : (document added : Nodes) (signature place : Spot) → Setting document added signature place (xades (codes "UnsignedSignatureProperties"))
    → IsFree document signature → IsFree (put_last added place.path document) signature
free_with_property document added signature place s free =
    let new : Nodes = put_last added place.path document in
    let name : Expanded = xades (codes "UnsignedSignatureProperties") in
    let values : filter (is_blank new) (value new signature) ≡ filter (is_blank document) (value document signature) =
    ap (filter (is_blank new)) (value_stays document added signature place name s)
    ∙ filter_same (Apart document place) (is_blank new) (is_blank document) (value document signature)
    (λ spot a. ap (λ text. is_empty (without_white text)) (text_stays document added place spot a))
    (all_apart document place (ds (codes "SignatureValue")) name s.place_named refl _
    (each_first (IsNamed document (ds (codes "SignatureValue"))) _ (called_named document (ds (codes "SignatureValue")) signature s.signature_named.stands))) in
    let hosts = host_stays document added signature place name s (record { object = refl; qualifying = refl; unsigned = refl }) in
    free_where_places_stay document added signature place name s (λ i. values i ++ hosts i) free

-- And so does a value.

filtered : (p : Spot → Bool) (b : Bool) (x : Spot) (xs : List Spot) → list_any p (x ∷ xs) ≡ false → list_any p (cond b (x ∷ []) [] ++ xs) ≡ false
filtered p true x xs e = e
filtered p false x xs e = (neither (p x) (list_any p xs) e).1

covering_none : (document added : Nodes) (signature place : Spot) → Setting document added signature place (ds (codes "SignatureValue"))
    → places document signature ≡ place ∷ host document signature → value document signature ≡ place ∷ []
    → (k : ℕ) (list : List Spot) → Each (IsNamed document (ds (codes "Reference"))) list
    → first_covering document signature k list ≡ None → first_covering (put_last added place.path document) signature k list ≡ None
covering_none document added signature place s p v k [] h e = refl
covering_none document added signature place s p v k (reference ∷ list) h e =
    let new : Nodes = put_last added place.path document in
    let name : Expanded = ds (codes "SignatureValue") in
    let here = cond_none (covers_place document signature reference) k _ e in
    let sets = node_set_stays document added signature place name s reference h.0 in
    let reached : Spot → Bool = λ spot. is_reached document signature.path spot reference in
    let old : list_any reached (place ∷ host document signature) ≡ false = ap (list_any reached) (sym p) ∙ here.0 in
    let hosts = host_stays document added signature place name s (record { object = refl; qualifying = refl; unsigned = refl }) in
    let values : filter (is_blank new) (value new signature) ≡ cond (is_blank new place) (place ∷ []) [] =
    ap (filter (is_blank new)) (value_stays document added signature place name s ∙ v) in
    let now : covers_place new signature reference ≡ false =
    (λ i. list_any (λ spot. option_map_or (λ set. lies_in set spot.path) (sets i) false) (values i ++ hosts i))
    ∙ filtered reached (is_blank new place) place (host document signature) old in
    (λ i. cond (now i) (Some k) (first_covering new signature (suc k) list))
    ∙ covering_none document added signature place s p v (suc k) list h.1 here.1

pub free_with_value : (document added : Nodes) (signature place : Spot) → Setting document added signature place (ds (codes "SignatureValue"))
    → places document signature ≡ place ∷ host document signature → value document signature ≡ place ∷ []
    → IsFree document signature → IsFree (put_last added place.path document) signature
free_with_value document added signature place s p v free =
    ap (first_covering (put_last added place.path document) signature 1)
    (references_stay document added place signature (ds (codes "SignatureValue")) s.place_named s.other (signature_apart document added signature place (ds (codes "SignatureValue")) s))
    ∙ covering_none document added signature place s p v 1 (references document signature) (references_named document signature s.signature_named.stands) free
