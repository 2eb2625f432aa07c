-- Walks from a certificate to an anchor, after RFC 5280, section 6, in this project's profile.
use Rattle.std.specs.Prelude.{◌≡◌, ℕ, ◌+◌, ◌<◌, ◌≤◌, false, ◌⊎◌, List, [], ◌∷◌, length, Contains, slice_get, slice_index_or, ℤ, pos, ◌≤ℤ◌, IsTrue, Option, Some, None}
use Rattle.acceptance.specs.Certificates.{Certificate, Crl, Part, certificate, crl, Member, Revoked, Verifies}
use Rattle.policy_rules.specs.Rules.{Rules}
use Rattle.acceptance.specs.Policy.{anchors_of, AcceptsSignature}

-- the time of an object in a list of times
abbrev pub time : List ℤ → ℕ → ℤ
time times object = slice_index_or times object (pos 0)

abbrev pub HasCertificate : List Part → Member → Type 0
HasCertificate pool member = slice_get pool member.number ≡ Some (certificate member.certificate)

abbrev pub HasCrl : List Part → ℕ → Crl → Type 0
HasCrl pool number list = slice_get pool number ≡ Some (crl list)

-- its subject is its issuer
abbrev pub IsSelfIssued : Certificate → Type 0
IsSelfIssued c = c.subject ≡ c.issuer

abbrev pub IsWithin : ℕ → Option ℕ → Type 0
IsWithin count None = Unit {0}
IsWithin count (Some most) = count ≤ most

-- A usable CRL that speaks for an issuer: it has its name and verifies under its key, and the issuer may sign CRLs.
pub record IsCrlOf (issuer : Certificate) (list : Crl) : Type 0 where
  pub usable : IsTrue list.usable
  pub named : list.issuer ≡ issuer.subject
  pub verifies : Verifies issuer.key list.signature
  pub may_sign : IsTrue issuer.signs_crls

-- a CRL of the issuer is there, whatever its dates and kind
pub record HasCrlOf (pool : List Part) (issuer : Certificate) : Type 0 where
  pub number : ℕ
  pub list : Crl
  pub there : HasCrl pool number list
  pub speaks : IsCrlOf issuer list

-- point 6, by a CRL: one of the issuer whose kind is accepted at its time, that is current at the moment and was made before the certificate ended
pub record IsCurrentByCrl (pool : List Part) (policy : Rules) (times : List ℤ) (at : ℤ) (c issuer : Certificate) : Type 0 where
  pub number : ℕ
  pub list : Crl
  pub there : HasCrl pool number list
  pub speaks : IsCrlOf issuer list
  pub kind : AcceptsSignature policy list.signature (time times number)
  pub next : ℤ
  pub has_next : list.next_update ≡ Some next
  pub current : at ≤ℤ next
  pub in_life : list.this_update ≤ℤ c.not_after

-- point 7, by a CRL: one of the issuer, whatever its dates and kind, lists the serial with a date up to the moment
pub record IsRevokedByCrl (pool : List Part) (at : ℤ) (c issuer : Certificate) : Type 0 where
  pub number : ℕ
  pub list : Crl
  pub there : HasCrl pool number list
  pub speaks : IsCrlOf issuer list
  pub entry : Revoked
  pub listed : Contains list.entries entry
  pub serial : entry.serial ≡ c.serial
  pub by_then : entry.date ≤ℤ at

-- Point 6. Another way to learn a certificate's status is a further case here.
abbrev pub IsCurrent : List Part → Rules → List ℤ → ℤ → Certificate → Certificate → Type 0
IsCurrent pool policy times at c issuer = IsCurrentByCrl pool policy times at c issuer

-- Point 7. Another way to learn a certificate's status is a further case here.
abbrev pub IsRevoked : List Part → ℤ → Certificate → Certificate → Type 0
IsRevoked pool at c issuer = IsRevokedByCrl pool at c issuer

-- What is left of point 6 whatever the times. Another way to learn a certificate's status is a further case here.
abbrev pub HasStatus : List Part → Certificate → Certificate → Type 0
HasStatus pool c issuer = HasCrlOf pool issuer

-- what holds of a certificate and its issuer whatever the times and the walk
pub record IsSigned (c issuer : Certificate) : Type 0 where
  -- point 1
  pub named : c.issuer ≡ issuer.subject
  pub verifies : Verifies issuer.key c.signature
  -- point 4
  pub known : c.strange ≡ false
  -- point 5
  pub authority : IsTrue issuer.is_ca
  pub may_sign : IsTrue issuer.signs_certs

-- the same, where `counted` certificates stand below the issuer by point 5
pub record IsBelow (counted : ℕ) (c issuer : Certificate) : Type 0 where
  pub signed : IsSigned c issuer
  pub short : IsWithin counted issuer.path_len

-- A certificate of the pool is issued by a certificate, for a walk with `low` and `at`: points 1 to 7.
pub record IsIssued (pool : List Part) (policy : Rules) (times : List ℤ) (low at : ℤ) (counted : ℕ) (c : Member) (issuer : Certificate) : Type 0 where
  pub below : IsBelow counted c.certificate issuer
  -- point 2
  pub kind : AcceptsSignature policy c.certificate.signature (time times c.number)
  -- point 3
  pub begun : c.certificate.not_before ≤ℤ low
  pub lasts : at ≤ℤ c.certificate.not_after
  -- points 6 and 7
  pub current : IsCurrent pool policy times at c.certificate issuer
  pub unrevoked : IsRevoked pool at c.certificate issuer → ⊥

-- the same without the times: points 1, 4 and 5, and of point 6 that the issuer's status information is there
pub record IsComplete (pool : List Part) (counted : ℕ) (c : Member) (issuer : Certificate) : Type 0 where
  pub below : IsBelow counted c.certificate issuer
  pub status : HasStatus pool c.certificate issuer

-- `counted` becomes `next` where the walk goes on to this certificate: one more, unless it is self-issued
abbrev pub Counts : ℕ → Certificate → ℕ → Type 0
Counts counted c next = (IsSelfIssued c × (next ≡ counted)) ⊎ ((IsSelfIssued c → ⊥) × (next ≡ counted + 1))

-- Each certificate is issued by the one above it, and the last by an anchor. `counted` is the number of certificates above the first one
-- of the walk, up to this one, that aren't self-issued.
abbrev pub LeadsUp : (ℕ → Member → Certificate → Type 0) → List Part → List Certificate → ℕ → Member → List Member → Type 0
LeadsUp link pool anchors counted c [] = (anchor : Certificate) × Contains anchors anchor × link counted c anchor
LeadsUp link pool anchors counted c (issuer ∷ above) =
    HasCertificate pool issuer × link counted c issuer.certificate
    × ((next : ℕ) × Counts counted issuer.certificate next × LeadsUp link pool anchors next issuer above)

-- a walk of 1 to 8 certificates, from this one, to an anchor
abbrev pub HasWalk : (ℕ → Member → Certificate → Type 0) → List Part → List Certificate → Member → Type 0
HasWalk link pool anchors leaf = (above : List Member) × (length above < 8) × LeadsUp link pool anchors 0 leaf above

-- a certificate is accepted with `low` and `at` under a list of times
abbrev pub IsAccepted : List Part → Rules → List ℤ → Member → ℤ → ℤ → Type 0
IsAccepted pool policy times leaf low at = HasWalk (IsIssued pool policy times low at) pool (anchors_of policy) leaf

-- a certificate has all that a walk wants, whatever the times
abbrev pub IsWalkComplete : List Part → Rules → Member → Type 0
IsWalkComplete pool policy leaf = HasWalk (IsComplete pool) pool (anchors_of policy) leaf
