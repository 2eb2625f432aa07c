-- The bytes of objects for which there is a limit, where each is whole: equal bytes are one object.
use Rattle.std.proofs.Common.{◌≡◌, ℕ, suc, Bool, true, false, ◌||◌, cond, List, [], ◌∷◌, ◌++◌, length, refl, sym, ap, ◌∙◌}
use Rattle.std.specs.Str.{bytes_eq}
use Rattle.std.specs.List.{All, list_any}
use Rattle.std.proofs.lemmas.List.Elements.{All-append, All-cons, All-head, All-nil, All-tail}
use Rattle.signature_model.specs.Parts as model
use Rattle.qualifying_props.specs.Whole.{IsWhole}
use Rattle.signature_objects.specs.Objects.{Object, Octets, Value, Certificate, RevocationList, Token, has, is_limited, limited, with_object, with_objects}
use Rattle.signature_objects.specs.Met.{with_all, with_bytes}
use Rattle.signature_objects.proofs.Whole.{certificate_no_list, certificate_no_token, list_no_certificate, list_no_token, token_no_certificate, token_no_list}

-- its bytes are one whole object of its kind
abbrev pub IsKept : Object → Type 0
IsKept (Octets k) = Unit {0}
IsKept Value = Unit {0}
IsKept (Certificate bytes) = IsWhole model.Certificate bytes
IsKept (RevocationList bytes) = IsWhole model.RevocationList bytes
IsKept (Token bytes) = IsWhole model.Token bytes

-- the bytes of those for which there is a limit
abbrev pub bytes_of : List Object → List (List ℕ)
bytes_of [] = []
bytes_of (Octets k ∷ objects) = bytes_of objects
bytes_of (Value ∷ objects) = bytes_of objects
bytes_of (Certificate bytes ∷ objects) = bytes ∷ bytes_of objects
bytes_of (RevocationList bytes ∷ objects) = bytes ∷ bytes_of objects
bytes_of (Token bytes ∷ objects) = bytes ∷ bytes_of objects

pub many : (objects : List Object) → length (bytes_of objects) ≡ limited objects
many [] = refl
many (Octets k ∷ objects) = many objects
many (Value ∷ objects) = many objects
many (Certificate bytes ∷ objects) = ap suc (many objects)
many (RevocationList bytes ∷ objects) = ap suc (many objects)
many (Token bytes ∷ objects) = ap suc (many objects)

pub bytes_of-append : (xs ys : List Object) → bytes_of (xs ++ ys) ≡ bytes_of xs ++ bytes_of ys
bytes_of-append [] ys = refl
bytes_of-append (Octets k ∷ xs) ys = bytes_of-append xs ys
bytes_of-append (Value ∷ xs) ys = bytes_of-append xs ys
bytes_of-append (Certificate bytes ∷ xs) ys = ap (λ all. bytes ∷ all) (bytes_of-append xs ys)
bytes_of-append (RevocationList bytes ∷ xs) ys = ap (λ all. bytes ∷ all) (bytes_of-append xs ys)
bytes_of-append (Token bytes ∷ xs) ys = ap (λ all. bytes ∷ all) (bytes_of-append xs ys)

-- An object is there where its bytes are.

certificate_there : (bytes : List ℕ) → IsWhole model.Certificate bytes → (objects : List Object) → All IsKept objects → has objects (Certificate bytes) ≡ list_any (bytes_eq bytes) (bytes_of objects)
certificate_there bytes w [] kept = refl
certificate_there bytes w (Octets k ∷ objects) kept = certificate_there bytes w objects (All-tail IsKept _ objects kept)
certificate_there bytes w (Value ∷ objects) kept = certificate_there bytes w objects (All-tail IsKept _ objects kept)
certificate_there bytes w (Certificate b ∷ objects) kept = ap (λ r. bytes_eq bytes b || r) (certificate_there bytes w objects (All-tail IsKept _ objects kept))
certificate_there bytes w (RevocationList b ∷ objects) kept =
    certificate_there bytes w objects (All-tail IsKept _ objects kept)
    ∙ ap (λ f. f || list_any (bytes_eq bytes) (bytes_of objects)) (sym (certificate_no_list bytes b w (All-head IsKept (RevocationList b) objects kept)))
certificate_there bytes w (Token b ∷ objects) kept =
    certificate_there bytes w objects (All-tail IsKept _ objects kept)
    ∙ ap (λ f. f || list_any (bytes_eq bytes) (bytes_of objects)) (sym (certificate_no_token bytes b w (All-head IsKept (Token b) objects kept)))

list_there : (bytes : List ℕ) → IsWhole model.RevocationList bytes → (objects : List Object) → All IsKept objects → has objects (RevocationList bytes) ≡ list_any (bytes_eq bytes) (bytes_of objects)
list_there bytes w [] kept = refl
list_there bytes w (Octets k ∷ objects) kept = list_there bytes w objects (All-tail IsKept _ objects kept)
list_there bytes w (Value ∷ objects) kept = list_there bytes w objects (All-tail IsKept _ objects kept)
list_there bytes w (RevocationList b ∷ objects) kept = ap (λ r. bytes_eq bytes b || r) (list_there bytes w objects (All-tail IsKept _ objects kept))
list_there bytes w (Certificate b ∷ objects) kept =
    list_there bytes w objects (All-tail IsKept _ objects kept)
    ∙ ap (λ f. f || list_any (bytes_eq bytes) (bytes_of objects)) (sym (list_no_certificate bytes b w (All-head IsKept (Certificate b) objects kept)))
list_there bytes w (Token b ∷ objects) kept =
    list_there bytes w objects (All-tail IsKept _ objects kept)
    ∙ ap (λ f. f || list_any (bytes_eq bytes) (bytes_of objects)) (sym (list_no_token bytes b w (All-head IsKept (Token b) objects kept)))

token_there : (bytes : List ℕ) → IsWhole model.Token bytes → (objects : List Object) → All IsKept objects → has objects (Token bytes) ≡ list_any (bytes_eq bytes) (bytes_of objects)
token_there bytes w [] kept = refl
token_there bytes w (Octets k ∷ objects) kept = token_there bytes w objects (All-tail IsKept _ objects kept)
token_there bytes w (Value ∷ objects) kept = token_there bytes w objects (All-tail IsKept _ objects kept)
token_there bytes w (Token b ∷ objects) kept = ap (λ r. bytes_eq bytes b || r) (token_there bytes w objects (All-tail IsKept _ objects kept))
token_there bytes w (Certificate b ∷ objects) kept =
    token_there bytes w objects (All-tail IsKept _ objects kept)
    ∙ ap (λ f. f || list_any (bytes_eq bytes) (bytes_of objects)) (sym (token_no_certificate bytes b w (All-head IsKept (Certificate b) objects kept)))
token_there bytes w (RevocationList b ∷ objects) kept =
    token_there bytes w objects (All-tail IsKept _ objects kept)
    ∙ ap (λ f. f || list_any (bytes_eq bytes) (bytes_of objects)) (sym (token_no_list bytes b w (All-head IsKept (RevocationList b) objects kept)))

-- One more object.

unlimited : (object : Object) → is_limited object ≡ false → (objects : List Object) (there : Bool) → bytes_of (object ∷ []) ≡ [] → bytes_of (cond there objects (objects ++ object ∷ [])) ≡ bytes_of objects
unlimited object l objects true e = refl
unlimited object l objects false e = bytes_of-append objects (object ∷ []) ∙ ap (λ more. bytes_of objects ++ more) e ∙ nothing_behind (bytes_of objects)
  where
    nothing_behind : (all : List (List ℕ)) → all ++ [] ≡ all
    nothing_behind [] = refl
    nothing_behind (x ∷ all) = ap (λ rest. x ∷ rest) (nothing_behind all)

grown : (object : Object) (bytes : List ℕ) → bytes_of (object ∷ []) ≡ bytes ∷ [] → (objects : List Object) → has objects object ≡ list_any (bytes_eq bytes) (bytes_of objects)
    → bytes_of (with_object objects object) ≡ with_bytes (bytes_of objects) bytes
grown object bytes e objects there =
    by_there (has objects object) ∙ ap (λ b. cond b (bytes_of objects) (bytes_of objects ++ bytes ∷ [])) there
  where
    by_there : (b : Bool) → bytes_of (cond b objects (objects ++ object ∷ [])) ≡ cond b (bytes_of objects) (bytes_of objects ++ bytes ∷ [])
    by_there true = refl
    by_there false = bytes_of-append objects (object ∷ []) ∙ ap (λ more. bytes_of objects ++ more) e

one_kept : (objects : List Object) (object : Object) → All IsKept objects → IsKept object → All IsKept (with_object objects object)
one_kept objects object kept k = by_there (has objects object)
  where
    by_there : (b : Bool) → All IsKept (cond b objects (objects ++ object ∷ []))
    by_there true = kept
    by_there false = All-append IsKept objects (object ∷ []) kept (All-cons IsKept object [] k (All-nil IsKept))

-- Several: what is met is the bytes of the objects that were put.
pub all_met : (objects more : List Object) → All IsKept objects → All IsKept more → bytes_of (with_objects objects more) ≡ with_all (bytes_of objects) (bytes_of more)
all_met objects [] kept new = refl
all_met objects (object ∷ more) kept new =
    all_met (with_object objects object) more (one_kept objects object kept (All-head IsKept object more new)) (All-tail IsKept object more new)
    ∙ by_kind object (All-head IsKept object more new)
  where
    by_kind : (object : Object) → IsKept object → with_all (bytes_of (with_object objects object)) (bytes_of more) ≡ with_all (bytes_of objects) (bytes_of (object ∷ more))
    by_kind (Octets k) w = ap (λ met. with_all met (bytes_of more)) (unlimited (Octets k) refl objects (has objects (Octets k)) refl)
    by_kind Value w = ap (λ met. with_all met (bytes_of more)) (unlimited Value refl objects (has objects Value) refl)
    by_kind (Certificate bytes) w = ap (λ met. with_all met (bytes_of more)) (grown (Certificate bytes) bytes refl objects (certificate_there bytes w objects kept))
    by_kind (RevocationList bytes) w = ap (λ met. with_all met (bytes_of more)) (grown (RevocationList bytes) bytes refl objects (list_there bytes w objects kept))
    by_kind (Token bytes) w = ap (λ met. with_all met (bytes_of more)) (grown (Token bytes) bytes refl objects (token_there bytes w objects kept))

pub all_kept : (objects more : List Object) → All IsKept objects → All IsKept more → All IsKept (with_objects objects more)
all_kept objects [] kept new = kept
all_kept objects (object ∷ more) kept new = all_kept (with_object objects object) more (one_kept objects object kept (All-head IsKept object more new)) (All-tail IsKept object more new)
