-- Acceptance is closed downwards, and is kept when a pool grows.
use Rattle.std.proofs.Common.{◌≡◌, ℕ, List, [], ◌∷◌, length, slice_get, Some, None, Option, ℤ, ◌≤ℤ◌, arith}
use Rattle.std.proofs.lemmas.Int.{ints}
use Rattle.std.proofs.lemmas.Option.{slice_get_within}
use Rattle.algorithms.specs.declared.signature_kinds.SignatureKind.{SignatureKind}
use Rattle.algorithms.specs.declared.digest_kinds.DigestKind.{DigestKind}
use Rattle.acceptance.specs.Certificates.{Certificate, Part, certificate, crl, Member, Signature}
use Rattle.policy_rules.specs.Rules.{Rules, IsBefore, AcceptsKind, AcceptsDigest}
use Rattle.acceptance.specs.Policy.{anchors_of, AcceptsSignature}
use Rattle.acceptance.specs.Walks.{HasCertificate, IsIssued, IsCurrent, IsRevoked, LeadsUp, HasWalk}
use Rattle.acceptance.specs.Times.{IsNoLater}
use Rattle.acceptance.specs.Laws.{IsGrown, AcceptanceIsKept, TokenAcceptanceIsKept}

pub IsBefore-earlier : (at before : ℤ) (end : Option ℤ) → before ≤ℤ at → IsBefore at end → IsBefore before end
IsBefore-earlier at before None le h = h
IsBefore-earlier at before (Some e) le h = omega (arith, ints)

pub AcceptsKind-earlier : (policy : Rules) (kind : SignatureKind) (at before : ℤ) → before ≤ℤ at → AcceptsKind policy kind at → AcceptsKind policy kind before
AcceptsKind-earlier policy kind at before le (rule, has, (is, open')) = (rule, has, (is, IsBefore-earlier at before rule.until le open'))

pub AcceptsDigest-earlier : (policy : Rules) (kind : DigestKind) (at before : ℤ) → before ≤ℤ at → AcceptsDigest policy kind at → AcceptsDigest policy kind before
AcceptsDigest-earlier policy kind at before le (rule, has, (is, open')) = (rule, has, (is, IsBefore-earlier at before rule.until le open'))

pub AcceptsSignature-earlier : (policy : Rules) (signature : Signature) (at before : ℤ) → before ≤ℤ at → AcceptsSignature policy signature at → AcceptsSignature policy signature before
AcceptsSignature-earlier policy signature at before le (kind, is, accepts) = (kind, is, AcceptsKind-earlier policy kind at before le accepts)

pub ≤ℤ-through : (a b c : ℤ) → a ≤ℤ b → b ≤ℤ c → a ≤ℤ c
≤ℤ-through a b c h k = omega (arith, ints)

-- a walk stays one where each of its links gives another kind of link
pub LeadsUp-weaker : (link other : ℕ → Member → Certificate → Type 0) (pool grown : List Part) (anchors : List Certificate)
    (kept : (number : ℕ) (part : Part) → slice_get pool number ≡ Some part → slice_get grown number ≡ Some part)
    (weaker : (counted : ℕ) (c : Member) (issuer : Certificate) → HasCertificate pool c → link counted c issuer → other counted c issuer) →
    (counted : ℕ) (c : Member) (above : List Member) → HasCertificate pool c → LeadsUp link pool anchors counted c above → LeadsUp other grown anchors counted c above
LeadsUp-weaker link other pool grown anchors kept weaker counted c [] there (anchor, has, holds) = (anchor, has, weaker counted c anchor there holds)
LeadsUp-weaker link other pool grown anchors kept weaker counted c (issuer ∷ above) there (has, holds, (next, counts, up)) = (
  kept issuer.number (certificate issuer.certificate) has,
  weaker counted c issuer.certificate there holds,
  (next, counts, LeadsUp-weaker link other pool grown anchors kept weaker next issuer above has up),
)

pub HasWalk-weaker : (link other : ℕ → Member → Certificate → Type 0) (pool grown : List Part) (anchors : List Certificate)
    (kept : (number : ℕ) (part : Part) → slice_get pool number ≡ Some part → slice_get grown number ≡ Some part)
    (weaker : (counted : ℕ) (c : Member) (issuer : Certificate) → HasCertificate pool c → link counted c issuer → other counted c issuer) →
    (leaf : Member) → HasCertificate pool leaf → HasWalk link pool anchors leaf → HasWalk other grown anchors leaf
HasWalk-weaker link other pool grown anchors kept weaker leaf there (above, short, up) =
    (above, short, LeadsUp-weaker link other pool grown anchors kept weaker 0 leaf above there up)

module _ (pool grown : List Part) (policy : Rules) (times earlier : List ℤ) (at before : ℤ)
    (growth : IsGrown pool grown) (no_later : IsNoLater (length pool) earlier times) (le : before ≤ℤ at) where
  IsCurrent-kept : (c issuer : Certificate) → IsCurrent pool policy times at c issuer → IsCurrent grown policy earlier before c issuer
  IsCurrent-kept c issuer h = record {
    number = h.number;
    list = h.list;
    there = growth.kept h.number (crl h.list) h.there;
    speaks = h.speaks;
    kind = AcceptsSignature-earlier policy h.list.signature _ _ (no_later h.number (slice_get_within pool h.number _ h.there)) h.kind;
    next = h.next;
    has_next = h.has_next;
    current = ≤ℤ-through _ _ _ le h.current;
    in_life = h.in_life;
  }

  IsRevoked-kept : (c issuer : Certificate) → IsRevoked grown before c issuer → IsRevoked pool at c issuer
  IsRevoked-kept c issuer h = record {
    number = h.number;
    list = h.list;
    there = growth.no_crl h.number h.list h.there;
    speaks = h.speaks;
    entry = h.entry;
    listed = h.listed;
    serial = h.serial;
    by_then = ≤ℤ-through _ _ _ h.by_then le;
  }

  IsIssued-kept : (low : ℤ) (counted : ℕ) (c : Member) (issuer : Certificate) → HasCertificate pool c →
      IsIssued pool policy times low at counted c issuer → IsIssued grown policy earlier low before counted c issuer
  IsIssued-kept low counted c issuer there h = record {
    below = h.below;
    kind = AcceptsSignature-earlier policy c.certificate.signature _ _ (no_later c.number (slice_get_within pool c.number _ there)) h.kind;
    begun = h.begun;
    lasts = ≤ℤ-through _ _ _ le h.lasts;
    current = IsCurrent-kept c.certificate issuer h.current;
    unrevoked = λ r. h.unrevoked (IsRevoked-kept c.certificate issuer r);
  }

pub acceptance_is_kept : AcceptanceIsKept
acceptance_is_kept pool grown policy times earlier leaf low at before growth no_later le there h =
    HasWalk-weaker (IsIssued pool policy times low at) (IsIssued grown policy earlier low before) pool grown (anchors_of policy) growth.kept
    (λ counted c issuer has. IsIssued-kept pool grown policy times earlier at before growth no_later le low counted c issuer has) leaf there h

pub token_acceptance_is_kept : TokenAcceptanceIsKept
token_acceptance_is_kept pool grown policy times earlier token at before growth no_later le h = record {
  imprint = AcceptsDigest-earlier policy token.imprint at before le h.imprint;
  content = AcceptsDigest-earlier policy token.content at before le h.content;
  cert_hash = AcceptsDigest-earlier policy token.cert_hash at before le h.cert_hash;
  kind = AcceptsSignature-earlier policy token.signature at before le h.kind;
  signer = record {
    signer = h.signer.signer;
    named = h.signer.named;
    there = growth.kept h.signer.signer.number (certificate h.signer.signer.certificate) h.signer.there;
    accepted = acceptance_is_kept pool grown policy times earlier h.signer.signer token.gen_time at before growth no_later le h.signer.there h.signer.accepted;
  };
}

pub IsGrown-same : (pool : List Part) → IsGrown pool pool
IsGrown-same pool = record { kept = λ number part h. h; no_crl = λ number list h. h }
