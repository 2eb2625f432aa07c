-- How the code keeps a pool: its certificates and CRLs by their bytes, each with its number.
use Rattle.std.specs.Prelude.{◌≡◌, ℕ, zero, suc, ◌<◌, ◌==◌, Bool, List, [], ◌∷◌, ◌++◌, map, slice_get, Some, Vec, if◌then◌else◌}
use Rattle.std.specs.declared.alloc.Global.{Global}
use Rattle.der_values.specs.Fits.{IsObject}
use Rattle.der_values.specs.Layout.{Layout}
use Rattle.x509_certs.specs.Layouts as layout
use Rattle.acceptance.specs.Certificates.{Part, certificate, crl, other}
use Rattle.acceptance.specs.Objects.{certificate_of, crl_of}
use Rattle.cert_paths.specs.declared.place.Place.{Place}
use Rattle.cert_paths.specs.Pool.{part_numbers}

-- the bytes of a certificate or CRL, and its place
abbrev pub Entry : Type 0
Entry = Vec ℕ Global × Place

abbrev pub part_of : Bool → List ℕ → Part
part_of is_list bytes = if is_list then crl (crl_of bytes) else certificate (certificate_of bytes)

abbrev pub held_part : Entry → Part
held_part e = part_of e.1.is_list e.0.items

-- what stands at a number
abbrev pub part_at : ℕ → List Entry → Part
part_at n [] = other
part_at n (e ∷ es) = if e.1.number == n then held_part e else part_at n es

-- all objects with a number below this one
unfoldable pub parts_below : ℕ → List Entry → List Part
parts_below zero es = []
parts_below (suc n) es = parts_below n es ++ part_at n es ∷ []

abbrev pub layout_of : Bool → Layout
layout_of is_list = if is_list then layout.revocation_list else layout.certificate

-- The numbers are below the number of objects, numbers and bytes are distinct, each entry is whole, and the entries stand in the order of their numbers.
pub record IsHeld (objects : ℕ) (es : List Entry) : Type 0 where
  pub below : (k : ℕ) (e : Entry) → slice_get es k ≡ Some e → e.1.number < objects
  pub apart : (j k : ℕ) (d e : Entry) → slice_get es j ≡ Some d → slice_get es k ≡ Some e → d.1.number ≡ e.1.number → j ≡ k
  pub distinct : (j k : ℕ) (d e : Entry) → slice_get es j ≡ Some d → slice_get es k ≡ Some e → d.0.items ≡ e.0.items → j ≡ k
  pub whole : (k : ℕ) (e : Entry) → slice_get es k ≡ Some e → IsObject (layout_of e.1.is_list) e.0.items
  pub order : part_numbers (parts_below objects es) ≡ map (λ e. e.1.number) es

-- no entry has these bytes
abbrev pub IsFresh : List ℕ → List Entry → Type 0
IsFresh bytes es = (k : ℕ) (e : Entry) → slice_get es k ≡ Some e → e.0.items ≡ bytes → ⊥

-- an entry with these bytes has this place
abbrev pub IsPlaceOf : List ℕ → List Entry → Place → Type 0
IsPlaceOf bytes es place = (k : ℕ) × (e : Entry) × (slice_get es k ≡ Some e) × (e.0.items ≡ bytes) × (e.1 ≡ place)

-- an entry with these bytes came last
abbrev pub IsLonger : List ℕ → Place → List Entry → List Entry → Type 0
IsLonger bytes place es longer = (copy : Vec ℕ Global) × (copy.items ≡ bytes) × (longer ≡ es ++ (copy, place) ∷ [])
