-- How many objects there are, and how many of them are limited in number.
use Rattle.std.proofs.Common.{◌≡◌, ℕ, zero, suc, ◌+◌, ◌-◌, Bool, true, false, cond, List, [], ◌∷◌, ◌++◌, length, map, filter, refl, sym, ◌∙◌, ap, subst, append_assoc, arith}
use Rattle.std.specs.Prelude.{flat_map, nat_le}
use Rattle.std.proofs.lemmas.Bool.{le-leb, leb-false, leb-true, lt-leb}
use Rattle.std.specs.List.{All}
use Rattle.std.proofs.lemmas.List.{length-append}
use Rattle.std.proofs.lemmas.List.Elements.{All-append, All-cons, All-head, All-nil, All-tail, filter-append}
use Rattle.der_values.specs.Element.{Element}
use Rattle.der_values.specs.Elements.{elements}
use Rattle.document_model.specs.Tree.{Nodes}
use Rattle.signature_model.specs.Parts as model
use Rattle.signature_model.specs.Parts.{Datum, DatumKind, octets_or_none}
use Rattle.signature_model.specs.Spots.{Spot}
use Rattle.x509_certs.specs.Data.{begins_with_0}
use Rattle.qualifying_props.specs.PartsOf.{key_octets}
use Rattle.tst_tokens.specs.Tokens.{certificates_of}
use Rattle.signature_objects.specs.Objects.{Object, Octets, Value, Certificate, RevocationList, Token, has, is_limited, limited, with_object, with_objects, octets_from}
use Rattle.signature_objects.specs.Held.{material_in, objects, objects_in, objects_of_datum, objects_of_token}
use Rattle.signature_evidence.specs.Material.{material_of, object_of}
use Rattle.signature_evidence.proofs.Numbers.{with_both}
use Rattle.case_steps.proofs.Begun.{front_is}

-- an object is limited
abbrev pub IsLimited : Object → Type 0
IsLimited object = is_limited object ≡ true

-- so many objects aren't
abbrev pub HasUnlimited : ℕ → List Object → Type 0
HasUnlimited k all = length all ≡ limited all + k

limited_last : (all : List Object) (object : Object) (b : Bool) → is_limited object ≡ b → limited (all ++ object ∷ []) ≡ limited all + cond b 1 0
limited_last all object b e =
    ap (λ (xs : List Object). length xs) (filter-append is_limited all (object ∷ [])) ∙ length-append (filter is_limited all) (filter is_limited (object ∷ []))
    ∙ ap (λ (t : Bool). limited all + length (cond t (object ∷ []) [])) e ∙ by_bool b
  where
    by_bool : (t : Bool) → limited all + length (cond t (object ∷ []) []) ≡ limited all + cond t 1 0
    by_bool true = refl
    by_bool false = refl

one_more : (k : ℕ) (all : List Object) (object : Object) → IsLimited object → HasUnlimited k all → HasUnlimited k (with_object all object)
one_more k all object l h = by_there (has all object)
  where
    by_there : (b : Bool) → HasUnlimited k (cond b all (all ++ object ∷ []))
    by_there true = h
    by_there false = let m = length-append all (object ∷ []) in let n = limited_last all object true l in omega (arith, m, n, h)

pub all_more : (k : ℕ) (all more : List Object) → All IsLimited more → HasUnlimited k all → HasUnlimited k (with_objects all more)
all_more k all [] l h = h
all_more k all (object ∷ more) l h = all_more k (with_object all object) more (All-tail IsLimited object more l) (one_more k all object (All-head IsLimited object more l) h)

-- None of those that stand in front is.

none_more : (all : List Object) (object : Object) → is_limited object ≡ false → limited all ≡ 0 → limited (with_object all object) ≡ 0
none_more all object l h = by_there (has all object)
  where
    by_there : (b : Bool) → limited (cond b all (all ++ object ∷ [])) ≡ 0
    by_there true = h
    by_there false = let n = limited_last all object false l in omega (arith, n, h)

octets_unlimited : (all : List Object) (k n : ℕ) → limited all ≡ 0 → limited (with_objects all (octets_from k n)) ≡ 0
octets_unlimited all k zero h = h
octets_unlimited all k (suc n) h = octets_unlimited (with_object all (Octets k)) (suc k) n (none_more all (Octets k) refl h)

pub front_unlimited : (n : ℕ) → limited (with_objects [] (octets_from 1 n ++ Value ∷ [])) ≡ 0
front_unlimited n =
    ap (λ (all : List Object). limited all) (with_both [] (octets_from 1 n) (Value ∷ []))
    ∙ none_more (with_objects [] (octets_from 1 n)) Value refl (octets_unlimited [] 1 n refl)

-- All others are.

keys_limited : (keys : List (List ℕ)) → All IsLimited (map (λ octets. Certificate octets) keys)
keys_limited [] = All-nil IsLimited
keys_limited (key ∷ keys) = All-cons IsLimited (Certificate key) (map (λ octets. Certificate octets) keys) refl (keys_limited keys)

elements_limited : (list : List Element) → All IsLimited (map (λ element. Certificate element.whole) list)
elements_limited [] = All-nil IsLimited
elements_limited (element ∷ list) = All-cons IsLimited (Certificate element.whole) (map (λ e. Certificate e.whole) list) refl (elements_limited list)

token_limited : (token : List ℕ) → All IsLimited (objects_of_token token)
token_limited token = All-cons IsLimited (Token token) (map (λ element. Certificate element.whole) (certificates_of token)) refl (elements_limited (certificates_of token))

datum_limited : (kind : DatumKind) (octets : List ℕ) → All IsLimited (objects_of_datum kind octets)
datum_limited model.Certificate octets = All-cons IsLimited (Certificate octets) [] refl (All-nil IsLimited)
datum_limited model.RevocationList octets = All-cons IsLimited (RevocationList octets) [] refl (All-nil IsLimited)
datum_limited model.Token octets = token_limited octets

data_limited : (document : Nodes) (data_ : List Datum) → All IsLimited (flat_map (λ datum. objects_of_datum datum.kind (octets_or_none document (datum.spot ∷ []))) data_)
data_limited document [] = All-nil IsLimited
data_limited document (datum ∷ data_) =
    All-append IsLimited (objects_of_datum datum.kind (octets_or_none document (datum.spot ∷ [])))
    (flat_map (λ d. objects_of_datum d.kind (octets_or_none document (d.spot ∷ []))) data_)
    (datum_limited datum.kind (octets_or_none document (datum.spot ∷ []))) (data_limited document data_)

property_limited : (document : Nodes) (property : Spot) → All IsLimited (objects_in document property)
property_limited document property = by_stamp (model.is_stamp property)
  where
    by_stamp : (b : Bool) → All IsLimited (cond b (objects_of_token (model.token document property)) (material_in document property))
    by_stamp true = token_limited (model.token document property)
    by_stamp false = data_limited document (flat_map (model.data_of_values document) (model.values_of document property))

properties_limited : (document : Nodes) (properties : List Spot) → All IsLimited (flat_map (objects_in document) properties)
properties_limited document [] = All-nil IsLimited
properties_limited document (property ∷ properties) =
    All-append IsLimited (objects_in document property) (flat_map (objects_in document) properties) (property_limited document property) (properties_limited document properties)

handed_limited : (list : List Element) → All IsLimited (map object_of list)
handed_limited [] = All-nil IsLimited
handed_limited (element ∷ list) = All-cons IsLimited (object_of element) (map object_of list) (by_bool (begins_with_0 element.whole)) (handed_limited list)
  where
    by_bool : (b : Bool) → is_limited (cond b (Certificate element.whole) (RevocationList element.whole)) ≡ true
    by_bool true = refl
    by_bool false = refl

-- so many of all objects of a signature aren't
pub objects_unlimited : (document : Nodes) (signature : Spot) (bytes : List ℕ) (k : ℕ)
    → length (with_objects [] (octets_from 1 (length (model.references document signature)) ++ Value ∷ [])) ≡ k → HasUnlimited k (objects document signature (material_of bytes))
objects_unlimited document signature bytes k long =
    let count : ℕ = length (model.references document signature) in
    let begun : List Object = octets_from 1 count ++ Value ∷ [] in
    let keys : List Object = map (λ octets. Certificate octets) (key_octets document signature) in
    let none = front_unlimited count in
    let first : HasUnlimited k (with_objects [] begun) = omega (arith, long, none) in
    let split : with_objects (with_objects [] begun) keys ≡ with_objects [] (octets_from 1 count ++ Value ∷ keys) =
    sym (with_both [] begun keys) ∙ ap (with_objects []) (append_assoc (octets_from 1 count) (Value ∷ []) keys) in
    let front = subst (HasUnlimited k) split (all_more k (with_objects [] begun) keys (keys_limited (key_octets document signature)) first) in
    all_more k _ (material_of bytes) (handed_limited (elements bytes))
    (all_more k _ (flat_map (objects_in document) (model.properties document signature)) (properties_limited document (model.properties document signature)) front)

-- What the code counts: of so many objects, those that are no References and the value.

begun_long : (k n : ℕ) → length (octets_from k n ++ Value ∷ []) ≡ n + 1
begun_long k zero = refl
begun_long k (suc n) = let e : suc (n + 1) ≡ suc n + 1 = omega arith in ap suc (begun_long (suc k) n) ∙ e

le_same : (a n : ℕ) → a ≡ n + 1 → nat_le a 257 ≡ nat_le n 256
le_same a n e = by_bool (nat_le n 256) refl
  where
    by_bool : (b : Bool) → nat_le n 256 ≡ b → nat_le a 257 ≡ b
    by_bool true f = let l = leb-true n 256 f in le-leb a 257 (omega (arith, l, e))
    by_bool false f = let l = leb-false n 256 f in lt-leb a 257 (omega (arith, l, e))

pub small_is : (document : Nodes) (signature : Spot) (bytes : List ℕ) (all count : ℕ) → all ≡ length (objects document signature (material_of bytes))
    → count ≡ length (model.references document signature) → nat_le (all - count) 257 ≡ nat_le (limited (objects document signature (material_of bytes))) 256
small_is document signature bytes all count is many =
    let n : ℕ = length (model.references document signature) in
    let long : length (with_objects [] (octets_from 1 n ++ Value ∷ [])) ≡ n + 1 = ap (λ (xs : List Object). length xs) (front_is n) ∙ begun_long 1 n in
    let h = objects_unlimited document signature bytes (n + 1) long in
    le_same (all - count) (limited (objects document signature (material_of bytes))) (omega (arith, h, is, many))
