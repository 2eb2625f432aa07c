-- The objects of a signature, and their numbers: EN 319 132-1, clauses 5.3 to 5.5, whose time-stamps and validation data speak of them. That
-- equal bytes of one kind are one object is this project's own.
use Rattle.std.specs.Prelude.{ℕ, zero, suc, Bool, true, false, ◌==◌, if◌then◌else◌, List, [], ◌∷◌, ◌++◌, filter, length}
use Rattle.std.specs.List.{list_any}
use Rattle.document_model.specs.Characters.{◌is◌}

-- What a signature speaks of: the octets of its Reference with a number, its value, and certificates, revocation lists and tokens by their
-- bytes. So the octets of two References are two objects, also where they are equal.
pub data Object : Type 0 where
  Octets : (k : ℕ) → Object
  Value : Object
  Certificate : (bytes : List ℕ) → Object
  RevocationList : (bytes : List ℕ) → Object
  Token : (bytes : List ℕ) → Object

abbrev pub is_same : Object → Object → Bool
is_same (Octets j) (Octets k) = j == k
is_same Value Value = true
is_same (Certificate a) (Certificate b) = a is b
is_same (RevocationList a) (RevocationList b) = a is b
is_same (Token a) (Token b) = a is b
is_same _ _ = false

-- whether an object is one of some
abbrev pub has : List Object → Object → Bool
has objects object = list_any (is_same object) objects

-- one more object behind those that were there, unless it is one of them
abbrev pub with_object : List Object → Object → List Object
with_object objects object = if has objects object then objects else objects ++ object ∷ []

-- several, one after another: those that are new stand behind, in the order in which they are first seen
abbrev pub with_objects : List Object → List Object → List Object
with_objects objects [] = objects
with_objects objects (object ∷ more) = with_objects (with_object objects object) more

-- an object's number is that of the objects before it
abbrev pub number_of : List Object → Object → ℕ
number_of [] object = 0
number_of (first ∷ objects) object = if is_same object first then 0 else suc (number_of objects object)

-- so many numbers, from one on
abbrev pub numbers_from : ℕ → ℕ → List ℕ
numbers_from first zero = []
numbers_from first (suc count) = first ∷ numbers_from (suc first) count

abbrev pub numbers_below : ℕ → List ℕ
numbers_below count = numbers_from 0 count

-- the octets of so many References, counted from the k-th
abbrev pub octets_from : ℕ → ℕ → List Object
octets_from k zero = []
octets_from k (suc count) = Octets k ∷ octets_from (suc k) count

-- Certificates, revocation lists and tokens are limited in number.

abbrev pub is_limited : Object → Bool
is_limited (Octets k) = false
is_limited Value = false
is_limited (Certificate bytes) = true
is_limited (RevocationList bytes) = true
is_limited (Token bytes) = true

-- how many of some objects are
abbrev pub limited : List Object → ℕ
limited objects = length (filter is_limited objects)

-- how many there may be
abbrev pub most_objects : ℕ
most_objects = 256
