-- The bytes of the objects that stand in a signature, which are whole.
use Rattle.std.proofs.Common.{◌≡◌, ℕ, zero, suc, Bool, true, false, cond, not, List, [], ◌∷◌, ◌++◌, Option, Some, None, filter, map, refl, sym, ap, subst, ◌∙◌, codes}
use Rattle.std.specs.Prelude.{flat_map, IfSome, unwrap_or}
use Rattle.std.specs.List.{All}
use Rattle.std.specs.Option.{option_map_or}
use Rattle.std.proofs.lemmas.Bool.{not-false}
use Rattle.std.proofs.lemmas.List.Elements.{All-append, All-cons, All-head, All-nil, All-same, All-tail}
use Rattle.der_values.specs.Element.{Element}
use Rattle.document_model.specs.Tree.{Nodes}
use Rattle.signature_model.specs.Parts as model
use Rattle.signature_model.specs.Parts.{Datum, DatumKind, as_kind, data_of, data_of_values, is_stamp, octets_in, octets_or_none, token_elements, values_of}
use Rattle.signature_model.specs.Readable.{is_bad}
use Rattle.signature_model.specs.Spots.{Spot, called, called_in, first, is_called}
use Rattle.signature_model.specs.Vocabulary.{xades}
use Rattle.signature_model.proofs.Lists.{not_both}
use Rattle.signature_model.proofs.ShapeLines.{not_nothing}
use Rattle.tst_tokens.specs.Tokens.{certificates_of, is_certificate}
use Rattle.qualifying_props.specs.Data.{all_octets}
use Rattle.qualifying_props.specs.PartsOf.{IsPropertyOf}
use Rattle.qualifying_props.specs.Shown.{ShownProperty}
use Rattle.qualifying_props.specs.Whole.{is_whole, IsWhole}
use Rattle.qualifying_props.specs.Wholes.{HoldsWhole}
use Rattle.signature_objects.specs.Objects.{Object, Octets, Value, Certificate, Token, octets_from}
use Rattle.signature_objects.specs.Held.{material_in, objects_in, objects_of_datum, objects_of_token}
use Rattle.signature_objects.specs.Met.{bytes_in, bytes_of_token}
use Rattle.signature_objects.proofs.Bytes.{IsKept, bytes_of, bytes_of-append}

-- In front of all properties.

octets_none : (k count : ℕ) (more : List Object) → bytes_of (octets_from k count ++ more) ≡ bytes_of more
octets_none k zero more = refl
octets_none k (suc count) more = octets_none (suc k) count more

keys_bytes : (keys : List (List ℕ)) → bytes_of (map (λ bytes. Certificate bytes) keys) ≡ keys
keys_bytes [] = refl
keys_bytes (key ∷ keys) = ap (λ all. key ∷ all) (keys_bytes keys)

pub front_bytes : (count : ℕ) (keys : List (List ℕ)) → bytes_of (octets_from 1 count ++ Value ∷ map (λ bytes. Certificate bytes) keys) ≡ keys
front_bytes count keys = octets_none 1 count (Value ∷ map (λ bytes. Certificate bytes) keys) ∙ keys_bytes keys

octets_kept : (k count : ℕ) → All IsKept (octets_from k count)
octets_kept k zero = All-nil IsKept
octets_kept k (suc count) = All-cons IsKept (Octets k) (octets_from (suc k) count) tt (octets_kept (suc k) count)

keys_kept : (keys : List (List ℕ)) → All (IsWhole model.Certificate) keys → All IsKept (map (λ bytes. Certificate bytes) keys)
keys_kept [] w = All-nil IsKept
keys_kept (key ∷ keys) w =
    All-cons IsKept (Certificate key) (map (λ bytes. Certificate bytes) keys) (All-head (IsWhole model.Certificate) key keys w) (keys_kept keys (All-tail (IsWhole model.Certificate) key keys w))

pub front_kept : (count : ℕ) (keys : List (List ℕ)) → All (IsWhole model.Certificate) keys → All IsKept (octets_from 1 count ++ Value ∷ map (λ bytes. Certificate bytes) keys)
front_kept count keys w =
    All-append IsKept (octets_from 1 count) (Value ∷ map (λ bytes. Certificate bytes) keys) (octets_kept 1 count)
    (All-cons IsKept Value (map (λ bytes. Certificate bytes) keys) tt (keys_kept keys w))

-- A token with its certificates.

elements_bytes : (elements : List Element) → bytes_of (map (λ element. Certificate element.whole) elements) ≡ map (λ element. element.whole) elements
elements_bytes [] = refl
elements_bytes (e ∷ elements) = ap (λ all. e.whole ∷ all) (elements_bytes elements)

token_bytes : (token : List ℕ) → bytes_of (objects_of_token token) ≡ bytes_of_token token
token_bytes token = ap (λ all. token ∷ all) (elements_bytes (certificates_of token))

elements_kept : (elements : List Element) → All IsKept (map (λ element. Certificate element.whole) (filter is_certificate elements))
elements_kept [] = All-nil IsKept
elements_kept (e ∷ elements) = by_test (is_certificate e) refl (elements_kept elements)
  where
    by_test : (b : Bool) → is_certificate e ≡ b → All IsKept (map (λ element. Certificate element.whole) (filter is_certificate elements))
        → All IsKept (map (λ element. Certificate element.whole) (cond b (e ∷ filter is_certificate elements) (filter is_certificate elements)))
    by_test true w rest = All-cons IsKept (Certificate e.whole) (map (λ element. Certificate element.whole) (filter is_certificate elements)) w rest
    by_test false w rest = rest

token_kept : (token : List ℕ) → IsWhole model.Token token → All IsKept (objects_of_token token)
token_kept token w = All-cons IsKept (Token token) (map (λ element. Certificate element.whole) (certificates_of token)) w (elements_kept _)

-- Certificates and revocation lists.

abbrev octets_of_datum : Nodes → Datum → List ℕ
octets_of_datum document datum = octets_or_none document (datum.spot ∷ [])

abbrev pub objects_of_data : Nodes → List Datum → List Object
objects_of_data document data_ = flat_map (λ datum. objects_of_datum datum.kind (octets_of_datum document datum)) data_

datum_bytes : (kind : DatumKind) (octets : List ℕ) → (kind ≡ model.Token → ⊥) → bytes_of (objects_of_datum kind octets) ≡ octets ∷ []
datum_bytes model.Certificate octets n = refl
datum_bytes model.RevocationList octets n = refl
datum_bytes model.Token octets n = absurd (n refl)

-- it is no token
abbrev pub IsNoToken : Datum → Type 0
IsNoToken datum = datum.kind ≡ model.Token → ⊥

data_bytes : (document : Nodes) (data_ : List Datum) → All IsNoToken data_ → bytes_of (objects_of_data document data_) ≡ all_octets document data_
data_bytes document [] n = refl
data_bytes document (datum ∷ data_) n =
    bytes_of-append (objects_of_datum datum.kind (octets_of_datum document datum)) (objects_of_data document data_)
    ∙ ap (λ front. front ++ bytes_of (objects_of_data document data_)) (datum_bytes datum.kind (octets_of_datum document datum) (All-head IsNoToken datum data_ n))
    ∙ ap (λ all. octets_of_datum document datum ∷ all) (data_bytes document data_ (All-tail IsNoToken datum data_ n))

kind_no_token : (kind : DatumKind) → (kind ≡ model.Token → ⊥) → (spots : List Spot) → All IsNoToken (as_kind kind spots)
kind_no_token kind n [] = All-nil IsNoToken
kind_no_token kind n (spot ∷ spots) = All-cons IsNoToken (record { kind = kind; spot = spot }) (as_kind kind spots) n (kind_no_token kind n spots)

certificate_no_token : model.Certificate ≡ model.Token → ⊥
certificate_no_token e = cc

list_no_token : model.RevocationList ≡ model.Token → ⊥
list_no_token e = cc

one_no_token : (document : Nodes) (values : Spot) → All IsNoToken (data_of_values document values)
one_no_token document values = by_name (is_called (xades (codes "CertificateValues")) values)
  where
    by_name : (b : Bool) → All IsNoToken (cond b (as_kind model.Certificate (called document (xades (codes "EncapsulatedX509Certificate")) values)) (as_kind model.RevocationList (called_in document (xades (codes "EncapsulatedCRLValue")) (called document (xades (codes "CRLValues")) values))))
    by_name true = kind_no_token model.Certificate certificate_no_token _
    by_name false = kind_no_token model.RevocationList list_no_token _

pub values_no_token : (document : Nodes) (values : List Spot) → All IsNoToken (flat_map (data_of_values document) values)
values_no_token document [] = All-nil IsNoToken
values_no_token document (v ∷ values) = All-append IsNoToken (data_of_values document v) (flat_map (data_of_values document) values) (one_no_token document v) (values_no_token document values)

-- A property.

pub property_bytes : (document : Nodes) (spot : Spot) (property : ShownProperty) → IsPropertyOf document spot property → bytes_of (objects_in document spot) ≡ bytes_in property
property_bytes document spot property p = by_kind (is_stamp spot) refl
  where
    by_kind : (b : Bool) → is_stamp spot ≡ b → bytes_of (objects_in document spot) ≡ bytes_in property
    by_kind true s =
        let told : property.token ≡ Some (model.token document spot) = p.token ∙ ap (λ b. cond b (Some (model.token document spot)) None) s in
        ap (λ b. bytes_of (cond b (objects_of_token (model.token document spot)) (material_in document spot))) s
        ∙ token_bytes (model.token document spot) ∙ ap (λ token. option_map_or bytes_of_token token property.parts) (sym told)
    by_kind false s =
        let told : property.token ≡ None = p.token ∙ ap (λ b. cond b (Some (model.token document spot)) None) s in
        let others : List Datum = flat_map (data_of_values document) (values_of document spot) in
        let parts : property.parts ≡ all_octets document others =
        p.parts ∙ ap (λ b. cond b [] (all_octets document (cond b (as_kind model.Token (first (token_elements document spot))) others))) s in
        ap (λ b. bytes_of (cond b (objects_of_token (model.token document spot)) (material_in document spot))) s
        ∙ data_bytes document others (values_no_token document (values_of document spot)) ∙ sym parts
        ∙ ap (λ token. option_map_or bytes_of_token token property.parts) (sym told)

datum_kept : (document : Nodes) (datum : Datum) → is_bad is_whole document datum ≡ false → All IsKept (objects_of_datum datum.kind (octets_of_datum document datum))
datum_kept document datum e = by_kind datum.kind (by_octets (octets_in document datum.spot) e)
  where
    by_octets : (o : Option (List ℕ)) → not (option_map_or (is_whole datum.kind) o false) ≡ false → IsWhole datum.kind (unwrap_or o [])
    by_octets None f = absurd (not_both f)
    by_octets (Some octets) f = not-false (is_whole datum.kind octets) f

    by_kind : (kind : DatumKind) → IsWhole kind (octets_of_datum document datum) → All IsKept (objects_of_datum kind (octets_of_datum document datum))
    by_kind model.Certificate w = All-cons IsKept _ [] w (All-nil IsKept)
    by_kind model.RevocationList w = All-cons IsKept _ [] w (All-nil IsKept)
    by_kind model.Token w = token_kept (octets_of_datum document datum) w

data_kept : (document : Nodes) (data_ : List Datum) → filter (is_bad is_whole document) data_ ≡ [] → All IsKept (objects_of_data document data_)
data_kept document [] e = All-nil IsKept
data_kept document (datum ∷ data_) e = by_test (is_bad is_whole document datum) refl (data_kept document data_) e
  where
    by_test : (b : Bool) → is_bad is_whole document datum ≡ b → (filter (is_bad is_whole document) data_ ≡ [] → All IsKept (objects_of_data document data_))
        → cond b (datum ∷ filter (is_bad is_whole document) data_) (filter (is_bad is_whole document) data_) ≡ [] → All IsKept (objects_of_data document (datum ∷ data_))
    by_test true t rest f = absurd (not_nothing datum (filter (is_bad is_whole document) data_) f)
    by_test false t rest f = All-append IsKept (objects_of_datum datum.kind (octets_of_datum document datum)) (objects_of_data document data_) (datum_kept document datum t) (rest f)

pub property_kept : (document : Nodes) (spot : Spot) (property : ShownProperty) → IsPropertyOf document spot property → HoldsWhole property
    → filter (is_bad is_whole document) (data_of document spot) ≡ [] → All IsKept (objects_in document spot)
property_kept document spot property p w e = by_kind (is_stamp spot) refl
  where
    by_kind : (b : Bool) → is_stamp spot ≡ b → All IsKept (objects_in document spot)
    by_kind true s =
        let told : property.token ≡ Some (model.token document spot) = p.token ∙ ap (λ b. cond b (Some (model.token document spot)) None) s in
        let T : Option (List ℕ) → Type 0 = λ o. IfSome o (IsWhole model.Token) in
        let is : IsWhole model.Token (model.token document spot) = subst T told w.token in
        All-same IsKept _ _ (ap (λ b. cond b (objects_of_token (model.token document spot)) (material_in document spot)) s) (token_kept (model.token document spot) is)
    by_kind false s =
        let others : List Datum = flat_map (data_of_values document) (values_of document spot) in
        let none : filter (is_bad is_whole document) others ≡ [] =
        ap (λ b. filter (is_bad is_whole document) (cond b (as_kind model.Token (first (token_elements document spot))) others)) (sym s) ∙ e in
        All-same IsKept _ _ (ap (λ b. cond b (objects_of_token (model.token document spot)) (material_in document spot)) s) (data_kept document others none)
