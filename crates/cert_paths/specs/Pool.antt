-- Pools: what stands at the numbers of the objects.
use Rattle.std.specs.Prelude.{◌≡◌, ℕ, suc, Bool, true, false, List, [], ◌∷◌, slice_get, Option, Some, None, ◌≤◌, length}
use Rattle.der_values.specs.Fits.{IsObject}
use Rattle.x509_certs.specs.Layouts as layout
use Rattle.x509_certs.specs.View.{certificate_bytes, list_bytes}
use Rattle.x509_certs.specs.declared.part.Part.{Part as X509Part}
use Rattle.x509_certs.specs.declared.part.Part.TheVariants as parts
use Rattle.acceptance.specs.Certificates.{Part, certificate, crl, other, Member}
use Rattle.acceptance.specs.Walks.{HasCertificate}
use Rattle.acceptance.specs.Objects.{certificate_of, crl_of}

-- what a certificate or CRL is in a pool
abbrev pub seen : X509Part → Part
seen (parts.Cert c) = certificate (certificate_of (certificate_bytes c))
seen (parts.List l) = crl (crl_of (list_bytes l))

-- its bytes are one whole certificate, or one whole CRL
abbrev pub IsWhole : X509Part → Type 0
IsWhole (parts.Cert c) = IsObject layout.certificate (certificate_bytes c)
IsWhole (parts.List l) = IsObject layout.revocation_list (list_bytes l)

-- the numbers of the certificates and CRLs, where the first object has this number
abbrev pub numbers_from : ℕ → List Part → List ℕ
numbers_from n [] = []
numbers_from n (other ∷ pool) = numbers_from (suc n) pool
numbers_from n (certificate c ∷ pool) = n ∷ numbers_from (suc n) pool
numbers_from n (crl l ∷ pool) = n ∷ numbers_from (suc n) pool

-- the numbers of the certificates and CRLs of a pool, in first-seen order
unfoldable pub part_numbers : List Part → List ℕ
part_numbers pool = numbers_from 0 pool

abbrev pub is_crl : Option Part → Bool
is_crl (Some (crl l)) = true
is_crl _ = false

-- the object with this number is a CRL
abbrev pub is_list_at : List Part → Option ℕ → Bool
is_list_at pool None = false
is_list_at pool (Some n) = is_crl (slice_get pool n)

-- no two certificates of the pool have the same bytes
abbrev pub AreDistinct : List Part → Type 0
AreDistinct pool = (m n : Member) → HasCertificate pool m → HasCertificate pool n → m.certificate.whole ≡ n.certificate.whole → m ≡ n

-- a pool that keeps what stands at each number
pub record Keeps (pool grown : List Part) : Type 0 where
  pub larger : length pool ≤ length grown
  pub kept : (n : ℕ) (p : Part) → slice_get pool n ≡ Some p → slice_get grown n ≡ Some p
