-- When tables say what is so of a pool and a policy.
use Rattle.std.specs.Prelude.{◌≡◌, ℕ, ◌<◌, ◌^◌, List, ◌++◌, length, map, slice_get, ℤ, IsTrue}
use Rattle.policy_rules.specs.View.{rules}
use Rattle.acceptance.specs.Policy.{anchors_of}
use Rattle.cert_paths.specs.declared.links.Tables.{Tables}
use Rattle.cert_paths.specs.Pool.{AreDistinct}
use Rattle.cert_paths.specs.Reached.{IsClosed, IsSignedTable, IsSpoken}
use Rattle.cert_paths.specs.Rows.{member_of, issuer_of, member_at, dates_of, AreCertificates, AreLists, IsInTime}
use Rattle.cert_paths.specs.Status.{SomeCurrent, SomeRevoked, SomeSpeaks, dates_in}
use Rattle.cert_paths.specs.Tables.{bit, IsTableOf}

pub record AreTied (t : Tables) : Type 0 where
  pub certs : AreCertificates t.pool.now t.certs.items
  pub few : length t.certs.items < 2 ^ 32
  pub distinct : AreDistinct t.pool.now
  pub issuers : map issuer_of t.issuers.items ≡ map (λ r. (member_of r).certificate) t.certs.items ++ anchors_of (rules t.policy.now)
  pub lists : AreLists t.pool.now t.lists.items
  pub closed : IsClosed (length t.certs.items) (length t.issuers.items) t.reached.items t.signed.items
  pub signed : IsSignedTable t.certs.items t.issuers.items t.reached.items t.signed.items
  pub speaks : IsTableOf (IsSpoken t.lists.items t.issuers.items t.reached.items) (length t.lists.items) (length t.issuers.items) t.speaks.items
  pub dates : map (λ d. d.items) t.dates.items ≡ map (λ c. dates_of c t.lists.items) t.certs.items

-- By the tables a certificate may be linked to an issuer, for a walk with `low` and `at`.
pub record IsLinkedBy (t : Tables) (times : List ℤ) (low at : ℤ) (i j : ℕ) : Type 0 where
  pub signed : IsTrue (bit t.signed.items i j)
  pub in_time : IsInTime (rules t.policy.now) times low at (member_at t.certs.items i)
  pub current : SomeCurrent (rules t.policy.now) times at (member_at t.certs.items i).certificate.not_after t.lists.items t.speaks.items j
  pub unrevoked : SomeRevoked (dates_in (slice_get t.dates.items i)) t.speaks.items j at → ⊥

-- The same whatever the times.
pub record IsCompleteBy (t : Tables) (i j : ℕ) : Type 0 where
  pub signed : IsTrue (bit t.signed.items i j)
  pub status : SomeSpeaks (length t.lists.items) t.speaks.items j
