-- When walks among numbers are walks among certificates.
use Rattle.std.specs.Prelude.{◌≡◌, ℕ, ◌<◌, ◌≤◌, List, ◌++◌, length, map, slice_get, Some, IsTrue, IsFalse, ◌↔◌}
use Rattle.acceptance.specs.Certificates.{Certificate, Part, Member}
use Rattle.acceptance.specs.Walks.{HasCertificate, IsSelfIssued}
use Rattle.cert_paths.specs.Numbered.{Issuing}

-- the members are the certificates of the pool
pub record AreMembers (pool : List Part) (members : List Member) : Type 0 where
  pub there : (k : ℕ) (m : Member) → slice_get members k ≡ Some m → HasCertificate pool m
  pub each : (m : Member) → HasCertificate pool m → (k : ℕ) × (slice_get members k ≡ Some m)

-- The tests on numbers are those on the members and the anchors, for issuers that are reached. These are the anchors, and what another one
-- is linked to.
pub record SpeaksOf (issuing : Issuing) (link : ℕ → Member → Certificate → Type 0) (Reached : ℕ → Type 0) (members : List Member) (anchors : List Certificate) : Type 0 where
  pub size : issuing.size ≡ length members
  pub reach : issuing.reach ≡ length (map (λ (m : Member). m.certificate) members ++ anchors)
  pub linked : (counted c i : ℕ) (m : Member) (issuer : Certificate) → slice_get members c ≡ Some m →
      slice_get (map (λ (n : Member). n.certificate) members ++ anchors) i ≡ Some issuer →
      (IsTrue (issuing.linked counted c i) ↔ (Reached i × link counted m issuer))
  pub counts : (c : ℕ) (m : Member) → slice_get members c ≡ Some m → (IsFalse (issuing.counts c) ↔ IsSelfIssued m.certificate)
  pub anchored : (i : ℕ) → issuing.size ≤ i → i < issuing.reach → Reached i
  pub above : (counted c i : ℕ) → c < issuing.size → i < issuing.reach → IsTrue (issuing.linked counted c i) → Reached c
