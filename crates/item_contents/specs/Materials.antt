-- Certificates and revocation lists one after another: RFC 5280, sections 4.1 and 5.1. X.690, 8.1 and 10.1.
use Rattle.std.specs.Prelude.{◌≡◌, ℕ, ◌≤◌, Bool, not, List, ◌++◌, length, filter, map, Err}
use Rattle.std.specs.List.{All, concat}
use Rattle.der_values.specs.Element.{element_at}
use Rattle.der_values.specs.Elements.{elements}
use Rattle.der_values.specs.Fits.{IsObject}
use Rattle.x509_certs.specs.Data.{begins_with_0, layout_of, object_in}
use Rattle.item_contents.specs.declared.material.MaterialFault.{MaterialFault}
use Rattle.item_contents.specs.declared.material.MaterialFault.TheVariants.{NotWhole, OutOfMemory}

-- octets of one whole object: a certificate where what is signed begins with [0], else a revocation list
abbrev pub IsWholePart : List ℕ → Type 0
IsWholePart octets = IsObject (layout_of octets) octets

abbrev pub is_list : List ℕ → Bool
is_list octets = not (begins_with_0 octets)

-- The bytes are whole objects one after another, and these are the certificates and the revocation lists among them, in their order.
pub record IsMaterialOf (bytes : List ℕ) (certificates lists : List (List ℕ)) : Type 0 where
  pub parts : List (List ℕ)
  pub whole : All IsWholePart parts
  pub joined : concat parts ≡ bytes
  pub certificates_are : certificates ≡ filter begins_with_0 parts
  pub lists_are : lists ≡ filter is_list parts

-- the certificates and the revocation lists among the elements of bytes, in their order
abbrev pub certificates_in : List ℕ → List (List ℕ)
certificates_in bytes = filter begins_with_0 (map (λ element. element.whole) (elements bytes))

abbrev pub lists_in : List ℕ → List (List ℕ)
lists_in bytes = filter is_list (map (λ element. element.whole) (elements bytes))

-- The bytes are whole objects one after another, and others behind them, of which this is the first bad element.
pub record IsBadAt (bytes : List ℕ) (at : ℕ) : Type 0 where
  pub parts : List (List ℕ)
  pub whole : All IsWholePart parts
  pub rest : List ℕ
  pub some : 1 ≤ length rest
  pub joined : concat parts ++ rest ≡ bytes
  pub bad : object_in (length (concat parts)) (element_at rest) ≡ Err at

-- want of memory is free
abbrev pub IsMaterialFault : List ℕ → MaterialFault → Type 0
IsMaterialFault bytes (NotWhole at) = IsBadAt bytes at
IsMaterialFault bytes OutOfMemory = Unit {0}

-- The law: bytes have one such answer at most.
abbrev pub MaterialIsOne : Type 0
MaterialIsOne = (bytes : List ℕ)
    → ((certificates lists others more : List (List ℕ)) → IsMaterialOf bytes certificates lists → IsMaterialOf bytes others more → (certificates ≡ others) × (lists ≡ more))
    × ((at place : ℕ) → IsBadAt bytes at → IsBadAt bytes place → at ≡ place)
    × ((certificates lists : List (List ℕ)) (at : ℕ) → IsMaterialOf bytes certificates lists → IsBadAt bytes at → ⊥)

-- The law: where bytes are whole objects one after another, the certificates and lists are those among their elements.
abbrev pub MaterialIsElements : Type 0
MaterialIsElements = (bytes : List ℕ) (certificates lists : List (List ℕ)) → IsMaterialOf bytes certificates lists
    → (certificates ≡ certificates_in bytes) × (lists ≡ lists_in bytes)
