-- Whether a walk is complete hangs on the certificate alone, and not on its number.
use Rattle.std.proofs.Common.{◌≡◌, ℕ, zero, suc, List, [], ◌∷◌, Some, slice_get, refl, sym, ◌∙◌, ap, subst}
use Rattle.std.proofs.lemmas.Option.{none-some}
use Rattle.policy_rules.specs.Rules.{Rules}
use Rattle.acceptance.specs.Certificates as parts
use Rattle.acceptance.specs.Certificates.{Part, Member}
use Rattle.acceptance.specs.Objects.{certificate_of}
use Rattle.acceptance.specs.Policy.{anchors_of}
use Rattle.acceptance.specs.Walks.{HasCertificate, HasStatus, IsBelow, IsComplete, IsWalkComplete, LeadsUp}
use Rattle.signature_objects.specs.Objects.{Object, Octets, Value, Certificate, RevocationList, Token}
use Rattle.signature_evidence.specs.Pools.{part_of, pool_of}
use Rattle.signature_evidence.proofs.Whole.{some_same}

linked : (pool : List Part) (m n : Member) → m.certificate ≡ n.certificate → (counted : ℕ) (issuer : parts.Certificate) → IsComplete pool counted m issuer → IsComplete pool counted n issuer
linked pool m n same counted issuer h = record {
  below = subst (λ (c : parts.Certificate). IsBelow counted c issuer) same h.below;
  status = subst (λ (c : parts.Certificate). HasStatus pool c issuer) same h.status;
}

leads : (pool : List Part) (anchors : List parts.Certificate) (m n : Member) → m.certificate ≡ n.certificate → (above : List Member)
    → LeadsUp (IsComplete pool) pool anchors 0 m above → LeadsUp (IsComplete pool) pool anchors 0 n above
leads pool anchors m n same [] h = (h.0, h.1, linked pool m n same 0 h.0 h.2)
leads pool anchors m n same (issuer ∷ above) h = (h.0, linked pool m n same 0 issuer.certificate h.1, h.2)

pub walk_of_same : (pool : List Part) (policy : Rules) (m n : Member) → m.certificate ≡ n.certificate → IsWalkComplete pool policy m → IsWalkComplete pool policy n
walk_of_same pool policy m n same h = (h.0, h.1, leads pool (anchors_of policy) m n same h.0 h.2)

-- a certificate in the pool of some objects is what its bytes say

pub certificate_bytes : (bytes : List ℕ) → (certificate_of bytes).whole ≡ bytes
unfolding certificate_of
certificate_bytes bytes = refl

abbrev certificate_in : parts.Certificate → Part → parts.Certificate
certificate_in c (parts.certificate d) = d
certificate_in c (parts.crl l) = c
certificate_in c parts.other = c

abbrev IsCertificate : Part → Type 0
IsCertificate (parts.certificate c) = Unit {0}
IsCertificate (parts.crl l) = ⊥
IsCertificate parts.other = ⊥

no_certificate : (p : Part) (c : parts.Certificate) → p ≡ parts.certificate c → IsCertificate p
no_certificate p c e = subst IsCertificate (sym e) tt

says : (bytes : List ℕ) (c : parts.Certificate) → parts.certificate (certificate_of bytes) ≡ parts.certificate c → c ≡ certificate_of c.whole
says bytes c e =
    let is : certificate_of bytes ≡ c = ap (certificate_in c) e in
    let same : bytes ≡ c.whole = sym (certificate_bytes bytes) ∙ ap (λ (d : parts.Certificate). d.whole) is in
    sym is ∙ ap certificate_of same

of_object : (object : Object) (c : parts.Certificate) → part_of object ≡ parts.certificate c → c ≡ certificate_of c.whole
of_object (Octets k) c e = absurd (no_certificate parts.other c e)
of_object Value c e = absurd (no_certificate parts.other c e)
of_object (Certificate bytes) c e = says bytes c e
of_object (RevocationList bytes) c e = absurd (no_certificate (part_of (RevocationList bytes)) c e)
of_object (Token bytes) c e = absurd (no_certificate parts.other c e)

found_at : (objects : List Object) (k : ℕ) (c : parts.Certificate) → slice_get (pool_of objects) k ≡ Some (parts.certificate c) → c ≡ certificate_of c.whole
found_at [] k c e = absurd (none-some _ e)
found_at (object ∷ objects) zero c e = of_object object c (some_same (part_of object) (parts.certificate c) e)
found_at (object ∷ objects) (suc k) c e = found_at objects k c e

pub says_its_bytes : (objects : List Object) (m : Member) → HasCertificate (pool_of objects) m → m.certificate ≡ certificate_of m.certificate.whole
says_its_bytes objects m there = found_at objects m.number m.certificate there
