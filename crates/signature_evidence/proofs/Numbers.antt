-- Objects and their numbers.
use Rattle.std.proofs.Common.{◌≡◌, suc, ◌+◌, ◌<◌, Bool, true, false, cond, ◌||◌, List, [], ◌∷◌, ◌++◌, length, Some, slice_get, refl, sym, ◌∙◌, ap, subst, arith, append_assoc}
use Rattle.std.proofs.lemmas.List.{append-nil}
use Rattle.std.proofs.lemmas.List.Folds.{list_any-append}
use Rattle.std.proofs.lemmas.Slice.Eq.{bytes_eq-Decides}
use Rattle.std.specs.Cmp.{unsigned_Decides}
use Rattle.signature_objects.specs.Objects.{Object, Octets, Value, Certificate, RevocationList, Token, is_same, has, with_object, with_objects, number_of}
use Rattle.signature_evidence.specs.Pools.{part_of, pool_of}

pub not_both : true ≡ false → ⊥
not_both e = let T : Bool → Type 0 = λ b. cond b (Unit {0}) ⊥ in subst T e tt

pub same_is : (a b : Object) → is_same a b ≡ true → a ≡ b
same_is (Octets a) (Octets b) e = ap (λ k. Octets k) ((unsigned_Decides a b).0 e)
same_is (Octets a) Value e = absurd (not_both (sym e))
same_is (Octets a) (Certificate b) e = absurd (not_both (sym e))
same_is (Octets a) (RevocationList b) e = absurd (not_both (sym e))
same_is (Octets a) (Token b) e = absurd (not_both (sym e))
same_is Value (Octets b) e = absurd (not_both (sym e))
same_is Value Value e = refl
same_is Value (Certificate b) e = absurd (not_both (sym e))
same_is Value (RevocationList b) e = absurd (not_both (sym e))
same_is Value (Token b) e = absurd (not_both (sym e))
same_is (Certificate a) (Octets b) e = absurd (not_both (sym e))
same_is (Certificate a) Value e = absurd (not_both (sym e))
same_is (Certificate a) (Certificate b) e = ap (λ bytes. Certificate bytes) ((bytes_eq-Decides a b).0 e)
same_is (Certificate a) (RevocationList b) e = absurd (not_both (sym e))
same_is (Certificate a) (Token b) e = absurd (not_both (sym e))
same_is (RevocationList a) (Octets b) e = absurd (not_both (sym e))
same_is (RevocationList a) Value e = absurd (not_both (sym e))
same_is (RevocationList a) (Certificate b) e = absurd (not_both (sym e))
same_is (RevocationList a) (RevocationList b) e = ap (λ bytes. RevocationList bytes) ((bytes_eq-Decides a b).0 e)
same_is (RevocationList a) (Token b) e = absurd (not_both (sym e))
same_is (Token a) (Octets b) e = absurd (not_both (sym e))
same_is (Token a) Value e = absurd (not_both (sym e))
same_is (Token a) (Certificate b) e = absurd (not_both (sym e))
same_is (Token a) (RevocationList b) e = absurd (not_both (sym e))
same_is (Token a) (Token b) e = ap (λ bytes. Token bytes) ((bytes_eq-Decides a b).0 e)

pub same_self : (a : Object) → is_same a a ≡ true
same_self (Octets k) = (unsigned_Decides k k).1 refl
same_self Value = refl
same_self (Certificate bytes) = (bytes_eq-Decides bytes bytes).1 refl
same_self (RevocationList bytes) = (bytes_eq-Decides bytes bytes).1 refl
same_self (Token bytes) = (bytes_eq-Decides bytes bytes).1 refl

-- Numbers.

or_true : (a b : Bool) → a ≡ true → (a || b) ≡ true
or_true true b e = refl
or_true false b e = absurd (not_both (sym e))

or_second : (a b : Bool) → b ≡ true → (a || b) ≡ true
or_second true b e = refl
or_second false b e = e

pub has_front : (front more : List Object) (object : Object) → has front object ≡ true → has (front ++ more) object ≡ true
has_front front more object e = list_any-append (is_same object) front more ∙ or_true (has front object) (has more object) e

pub has_behind : (front more : List Object) (object : Object) → has more object ≡ true → has (front ++ more) object ≡ true
has_behind front more object e = list_any-append (is_same object) front more ∙ or_second (has front object) (has more object) e

pub number_stays : (front more : List Object) (object : Object) → has front object ≡ true → number_of (front ++ more) object ≡ number_of front object
number_stays [] more object e = absurd (not_both (sym e))
number_stays (first ∷ front) more object e = by_bool (is_same object first) (number_stays front more object) e
  where
    by_bool : (b : Bool) → (has front object ≡ true → number_of (front ++ more) object ≡ number_of front object) → (b || has front object) ≡ true
        → cond b 0 (suc (number_of (front ++ more) object)) ≡ cond b 0 (suc (number_of front object))
    by_bool true stays h = refl
    by_bool false stays h = ap suc (stays h)

pub number_within : (objects : List Object) (object : Object) → has objects object ≡ true → number_of objects object < length objects
number_within [] object e = absurd (not_both (sym e))
number_within (first ∷ objects) object e = by_bool (is_same object first) (number_within objects object) e
  where
    by_bool : (b : Bool) → (has objects object ≡ true → number_of objects object < length objects) → (b || has objects object) ≡ true
        → cond b 0 (suc (number_of objects object)) < suc (length objects)
    by_bool true within h = omega arith
    by_bool false within h = let l = within h in omega arith

-- what stands at an object's number is what is seen of it
pub number_there : (objects : List Object) (object : Object) → has objects object ≡ true → slice_get (pool_of objects) (number_of objects object) ≡ Some (part_of object)
number_there [] object e = absurd (not_both (sym e))
number_there (first ∷ objects) object e = by_bool (is_same object first) (same_is object first) (number_there objects object) e
  where
    by_bool : (b : Bool) → (b ≡ true → object ≡ first) → (has objects object ≡ true → slice_get (pool_of objects) (number_of objects object) ≡ Some (part_of object))
        → (b || has objects object) ≡ true
        → slice_get (part_of first ∷ pool_of objects) (cond b 0 (suc (number_of objects object))) ≡ Some (part_of object)
    by_bool true is there h = ap (λ o. Some (part_of o)) (sym (is refl))
    by_bool false is there h = there h

-- More objects.

-- what is new among some objects
abbrev pub new_one : List Object → Object → List Object
new_one objects object = cond (has objects object) [] (object ∷ [])

abbrev pub new_ones : List Object → List Object → List Object
new_ones objects [] = []
new_ones objects (object ∷ more) = new_one objects object ++ new_ones (with_object objects object) more

one_behind : (objects : List Object) (object : Object) → with_object objects object ≡ objects ++ new_one objects object
one_behind objects object = by_bool (has objects object)
  where
    by_bool : (b : Bool) → cond b objects (objects ++ object ∷ []) ≡ objects ++ cond b [] (object ∷ [])
    by_bool true = sym (append-nil objects)
    by_bool false = refl

pub new_behind : (objects more : List Object) → with_objects objects more ≡ objects ++ new_ones objects more
new_behind objects [] = sym (append-nil objects)
new_behind objects (object ∷ more) =
    new_behind (with_object objects object) more
    ∙ ap (λ front. front ++ new_ones (with_object objects object) more) (one_behind objects object)
    ∙ append_assoc objects (new_one objects object) (new_ones (with_object objects object) more)

pub one_had : (objects : List Object) (object : Object) → has (with_object objects object) object ≡ true
one_had objects object = by_bool (has objects object) refl
  where
    by_bool : (b : Bool) → has objects object ≡ b → has (cond b objects (objects ++ object ∷ [])) object ≡ true
    by_bool true e = e
    by_bool false e = has_behind objects (object ∷ []) object (or_true (is_same object object) false (same_self object))

pub had_before : (objects more : List Object) (object : Object) → has objects object ≡ true → has (with_objects objects more) object ≡ true
had_before objects more object e = ap (λ all. has all object) (new_behind objects more) ∙ has_front objects (new_ones objects more) object e

pub had_among : (objects more : List Object) (object : Object) → has more object ≡ true → has (with_objects objects more) object ≡ true
had_among objects [] object e = absurd (not_both (sym e))
had_among objects (first ∷ more) object e = by_bool (is_same object first) (same_is object first) (had_among (with_object objects first) more object) e
  where
    by_bool : (b : Bool) → (b ≡ true → object ≡ first) → (has more object ≡ true → has (with_objects (with_object objects first) more) object ≡ true)
        → (b || has more object) ≡ true → has (with_objects (with_object objects first) more) object ≡ true
    by_bool true is among h =
        had_before (with_object objects first) more object
        (subst (λ o. has (with_object objects first) o ≡ true) (sym (is refl)) (one_had objects first))
    by_bool false is among h = among h

pub stays_with : (objects more : List Object) (object : Object) → has objects object ≡ true → number_of (with_objects objects more) object ≡ number_of objects object
stays_with objects more object e = ap (λ all. number_of all object) (new_behind objects more) ∙ number_stays objects (new_ones objects more) object e

pub with_both : (objects a b : List Object) → with_objects objects (a ++ b) ≡ with_objects (with_objects objects a) b
with_both objects [] b = refl
with_both objects (object ∷ a) b = with_both (with_object objects object) a b

pub first_had : (object : Object) (more : List Object) → has (object ∷ more) object ≡ true
first_had object more = or_true (is_same object object) (has more object) (same_self object)

pub number_behind : (front more : List Object) (object : Object) → has front object ≡ false → number_of (front ++ more) object ≡ length front + number_of more object
number_behind [] more object e = (let n : number_of more object ≡ 0 + number_of more object = omega arith in n)
number_behind (first ∷ front) more object e = by_bool (is_same object first) (number_behind front more object) e
  where
    by_bool : (b : Bool) → (has front object ≡ false → number_of (front ++ more) object ≡ length front + number_of more object) → (b || has front object) ≡ false
        → cond b 0 (suc (number_of (front ++ more) object)) ≡ suc (length front) + number_of more object
    by_bool true behind h = absurd (not_both h)
    by_bool false behind h = let e = behind h in omega (arith, e)

-- an object with a number of the front stands in the front
pub had_in_front : (front more : List Object) (object : Object) → number_of (front ++ more) object < length front → has front object ≡ true
had_in_front front more object lt = by_bool (has front object) refl
  where
    by_bool : (b : Bool) → has front object ≡ b → has front object ≡ true
    by_bool true e = e
    by_bool false e = let n = number_behind front more object e in absurd (omega (arith, n, lt))

pub had_where_low : (objects more : List Object) (object : Object) → number_of (with_objects objects more) object < length objects → has objects object ≡ true
had_where_low objects more object lt =
    had_in_front objects (new_ones objects more) object
    (subst (λ (all : List Object). number_of all object < length objects) (new_behind objects more) lt)
