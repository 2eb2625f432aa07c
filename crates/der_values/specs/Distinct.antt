-- Elements at the front of a content that begin with elements which all differ.
use Rattle.std.specs.Prelude.{◌≡◌, ℕ, ◌<◌, List, [], ◌∷◌, ◌++◌, length, map, take, slice_get, Some}
use denote.Ref.{Bor}
use Rattle.der_values.specs.Element.{Element, elements}
use Rattle.der_values.specs.Fits.{IsElement}
use Rattle.der_values.specs.Rules.{first_in}

abbrev pub octets : Bor (List ℕ) → List ℕ
octets b = b.now

-- the first element in each element of a content
abbrev pub firsts : List ℕ → List (List ℕ)
firsts content = map first_in (elements content)

-- no two of so many at the front are the same
abbrev pub AreApart : ℕ → List (List ℕ) → Type 0
AreApart count names = (i k : ℕ) (x : List ℕ) → i < k → k < count → slice_get names i ≡ Some x → slice_get names k ≡ Some x → ⊥

-- one of the names is this one
abbrev pub Has : List (List ℕ) → List ℕ → Type 0
Has names x = (k : ℕ) × (slice_get names k ≡ Some x)

-- So many of the elements that were left have these names, which all differ.
pub record IsBlock (count : ℕ) (old new : List Element) (names : List (List ℕ)) : Type 0 where
  pub passed : List Element
  pub split : old ≡ passed ++ new
  pub full : length passed ≡ count
  pub apart : AreApart count (map first_in passed)
  pub holds : (x : List ℕ) → Has (map first_in passed) x → Has names x

-- so many elements at the front begin with none of these names
abbrev pub IsOutside : ℕ → List (List ℕ) → List Element → Type 0
IsOutside count names elements = (j : ℕ) (x : List ℕ) → j < count → slice_get (map first_in elements) j ≡ Some x → Has names x → ⊥

-- So many elements are passed, none of which has the name of a later one up to a number.
pub record ArePassed (content : List ℕ) (left : List Element) (count until : ℕ) : Type 0 where
  pub passed : List Element
  pub split : elements content ≡ passed ++ left
  pub full : length passed ≡ count
  pub apart : (i k : ℕ) (x : List ℕ) → i < count → i < k → k < until → slice_get (firsts content) i ≡ Some x → slice_get (firsts content) k ≡ Some x → ⊥

-- So many elements are passed that have none of these names.
pub record AreOutside (count : ℕ) (old new : List Element) (names : List (List ℕ)) : Type 0 where
  pub passed : List Element
  pub split : old ≡ passed ++ new
  pub full : length passed ≡ count
  pub outside : (x : List ℕ) → Has (map first_in passed) x → Has names x → ⊥

-- all the bytes of some elements
abbrev pub wholes : List Element → List ℕ
wholes [] = []
wholes (e ∷ es) = e.whole ++ wholes es

abbrev pub AreLegal : List Element → Type 0
AreLegal [] = Unit {0}
AreLegal (e ∷ es) = IsElement e × AreLegal es

-- So many elements stand before a place.
pub record StandsAt (bytes : List ℕ) (at number : ℕ) : Type 0 where
  pub passed : List Element
  pub front : take at bytes ≡ wholes passed
  pub legal : AreLegal passed
  pub full : length passed ≡ number
