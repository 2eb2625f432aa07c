-- What is known of what is built.
use Rattle.std.proofs.Common.{◌≡◌, ◌↔◌, ℕ, suc, ◌+◌, ◌<◌, ◌≤◌, Bool, true, false, not, List, [], ◌∷◌, length, Option, Some, None, is_some, is_none, option_map, ℤ, IsTrue, true≢false, arith, refl, sym, ap, subst, ◌∙◌}
use Rattle.std.proofs.lemmas.List.{length-map}
use Rattle.std.proofs.lemmas.Option.{none-some}
use Rattle.std.specs.Prelude.{IfSome, slice_get, Contains}
use Rattle.policy_rules.specs.Rules.{Rules, AcceptsDigest, AcceptsKind}
use Rattle.algorithms.specs.declared.digest_kinds.DigestKind.{DigestKind}
use Rattle.algorithms.specs.declared.signature_kinds.SignatureKind.{SignatureKind}
use Rattle.acceptance.specs.Certificates.{Part, certificate}
use Rattle.acceptance.specs.Objects.{certificate_of}
use Rattle.acceptance.specs.Verdict.{DigestUse}
use Rattle.acceptance.specs.Walks.{time, HasCertificate, IsAccepted}
use Rattle.acceptance.proofs.Rounds.{Contains-first, Contains-later}
use Rattle.completeness.specs.Complete.{IsFirstIncomplete}
use Rattle.completeness.proofs.Single.{one_answer_fits}
use Rattle.signature_cases.specs.Built.{IsBuilt, case_of, member_of, uses_from}
use Rattle.signature_cases.specs.declared.cases.ReferenceDigest.{ReferenceDigest}
use Rattle.signature_cases.specs.declared.cases.SignatureCase.{SignatureCase}
use Rattle.signature_cases.specs.declared.cases.SigningCert.{SigningCert}
use Rattle.signature_evidence.specs.Answers.{IsCertificateAccepted, IsKindAccepted, IsWalkAccepted}
use Rattle.signature_evidence.specs.Evidence.{Evidence}
use Rattle.signature_evidence.specs.Pools.{pool_of}
use Rattle.signature_evidence.specs.Renewal.{IsInRange}
use Rattle.signature_evidence.proofs.Numbers.{number_there, number_within}
use Rattle.signature_evidence.proofs.Whole.{some_same}
use Rattle.signature_objects.specs.Objects.{Certificate, Value, number_of}
use Rattle.signature_verdicts.specs.Seen.{IsSignerAccepted, IsSignerDigestAccepted}

-- Numbers.

pub pool_length : (policy : Rules) (evidence : Evidence) (shown : SignatureCase) → IsBuilt policy evidence shown → length shown.case.pool ≡ length evidence.objects
pool_length policy evidence shown b = ap (λ (pool : List Part). length pool) b.shows.objects.pool ∙ length-map evidence.objects _

-- there is an object for each row
within : (first bound : ℕ) (rows : List ReferenceDigest) → ((digest : DigestUse) → Contains (uses_from first rows) digest → digest.object < bound) → first ≤ bound → first + length rows ≤ bound
within first bound [] all le = omega (arith, le)
within first bound (row ∷ rows) all le =
    let here = all _ (Contains-first _ (uses_from (suc first) rows)) in
    let rest = within (suc first) bound rows (λ digest has. all digest (Contains-later _ digest (uses_from (suc first) rows) has)) (omega (arith, here)) in
    omega (arith, rest)

pub rows_within : (policy : Rules) (evidence : Evidence) (shown : SignatureCase) → IsInRange evidence → IsBuilt policy evidence shown → length shown.references.items ≤ length shown.case.pool
rows_within policy evidence shown range b =
    let same = pool_length policy evidence shown b in
    let most = within 0 (length evidence.objects) shown.references.items
    (λ digest has. range.references digest (subst (λ (uses : List DigestUse). Contains uses digest) b.references has)) (omega arith) in
    omega (arith, same, most)

-- The signing certificate.

-- one in memory is one that is shown, and its number is that of its object
pub record IsSignerOf (evidence : Evidence) (signer : SigningCert) (bytes : List ℕ) : Type 0 where
  pub octets : signer.octets.now ≡ bytes
  pub number : signer.object.number ≡ number_of evidence.objects (Certificate bytes)

abbrev pub AreSame : Evidence → Option SigningCert → Option (List ℕ) → Type 0
AreSame evidence None None = Unit {0}
AreSame evidence None (Some bytes) = ⊥
AreSame evidence (Some signer) None = ⊥
AreSame evidence (Some signer) (Some bytes) = IsSignerOf evidence signer bytes

are_same : (evidence : Evidence) (signer : Option SigningCert) (found : Option (List ℕ)) → option_map (λ s. s.octets.now) signer ≡ found
    → option_map (λ s. s.object.number) signer ≡ option_map (λ bytes. number_of evidence.objects (Certificate bytes)) found → AreSame evidence signer found
are_same evidence None None e n = tt
are_same evidence None (Some bytes) e n = let same = e in cc
are_same evidence (Some signer) None e n = let same = e in cc
are_same evidence (Some signer) (Some bytes) e n = record { octets = some_same signer.octets.now bytes e; number = some_same signer.object.number (number_of evidence.objects (Certificate bytes)) n }

pub signer_same : (policy : Rules) (evidence : Evidence) (shown : SignatureCase) → IsBuilt policy evidence shown → AreSame evidence shown.certificate evidence.certificate
signer_same policy evidence shown b = are_same evidence shown.certificate evidence.certificate b.certificate b.signer

pub member_there : (policy : Rules) (evidence : Evidence) (shown : SignatureCase) → IsInRange evidence → IsBuilt policy evidence shown
    → IfSome shown.certificate (λ signer. HasCertificate shown.case.pool (member_of signer))
member_there policy evidence shown range b = by_cases shown.certificate evidence.certificate refl (signer_same policy evidence shown b)
  where
    by_cases : (signer : Option SigningCert) (found : Option (List ℕ)) → evidence.certificate ≡ found → AreSame evidence signer found
        → IfSome signer (λ s. HasCertificate shown.case.pool (member_of s))
    by_cases None found e same = tt
    by_cases (Some signer) None e same = absurd same
    by_cases (Some signer) (Some bytes) e same =
        let there : slice_get (pool_of evidence.objects) (number_of evidence.objects (Certificate bytes)) ≡ Some (certificate (certificate_of bytes)) =
        number_there evidence.objects (Certificate bytes) (range.certificate bytes e) in
        ap (λ (pool : List Part). slice_get pool signer.object.number) b.shows.objects.pool ∙ ap (slice_get (pool_of evidence.objects)) same.number ∙ there
        ∙ ap (λ (octets : List ℕ). Some (certificate (certificate_of octets))) (sym same.octets)

pub signer_within : (policy : Rules) (evidence : Evidence) (shown : SignatureCase) (count : ℕ) → IsInRange evidence → IsBuilt policy evidence shown → length shown.case.pool ≤ count
    → IfSome shown.certificate (λ signer. signer.object.number < count)
signer_within policy evidence shown count range b le = by_cases shown.certificate evidence.certificate refl (signer_same policy evidence shown b)
  where
    by_cases : (signer : Option SigningCert) (found : Option (List ℕ)) → evidence.certificate ≡ found → AreSame evidence signer found
        → IfSome signer (λ s. s.object.number < count)
    by_cases None found e same = tt
    by_cases (Some signer) None e same = absurd same
    by_cases (Some signer) (Some bytes) e same =
        let n = same.number in
        let w = number_within evidence.objects (Certificate bytes) (range.certificate bytes e) in
        let l = pool_length policy evidence shown b in
        omega (arith, n, w, l, le)

-- the answer on its digest
pub certificate_is : (policy : Rules) (evidence : Evidence) (times : List ℤ) (kind : DigestKind) (answer : Bool) (signer : Option SigningCert) (found : Option (List ℕ)) → kind ≡ evidence.certificate_kind
    → AreSame evidence signer found → (IsTrue answer ↔ IsSignerDigestAccepted policy kind times signer) → (IsTrue answer ↔ IsCertificateAccepted policy evidence times found)
certificate_is policy evidence times kind answer None None e same h = h
certificate_is policy evidence times kind answer None (Some bytes) e same h = absurd same
certificate_is policy evidence times kind answer (Some signer) None e same h = absurd same
certificate_is policy evidence times kind answer (Some signer) (Some bytes) e same h =
    subst (λ (k : DigestKind). IsTrue answer ↔ AcceptsDigest policy k (time times (number_of evidence.objects (Certificate bytes)))) e
    (subst (λ (n : ℕ). IsTrue answer ↔ AcceptsDigest policy kind (time times n)) same.number h)

-- the answer on its walk
pub walk_is : (policy : Rules) (evidence : Evidence) (shown : SignatureCase) (times : List ℤ) (at : ℤ) (answer : Bool) (signer : Option SigningCert) (found : Option (List ℕ))
    → at ≡ time times (number_of evidence.objects Value) → AreSame evidence signer found → (IsTrue answer ↔ IsSignerAccepted shown.case.pool policy times at signer)
    → (IsTrue answer ↔ IsWalkAccepted policy evidence (case_of shown) times found)
walk_is policy evidence shown times at answer None None e same h = h
walk_is policy evidence shown times at answer None (Some bytes) e same h = absurd same
walk_is policy evidence shown times at answer (Some signer) None e same h = absurd same
walk_is policy evidence shown times at answer (Some signer) (Some bytes) e same h =
    let is : ℕ → List ℕ → ℤ → Type 0 = λ n octets z.
    IsTrue answer ↔ IsAccepted shown.case.pool policy times (record { number = n; certificate = certificate_of octets }) z z in
    subst (λ (z : ℤ). is (number_of evidence.objects (Certificate bytes)) bytes z) e
    (subst (λ (octets : List ℕ). is (number_of evidence.objects (Certificate bytes)) octets at) same.octets
    (subst (λ (n : ℕ). is n signer.octets.now at) same.number h))

-- The kind.

pub kind_is : (policy : Rules) (evidence : Evidence) (times : List ℤ) (at : ℤ) (answer : Bool) (kind asked : Option SignatureKind) → kind ≡ asked
    → at ≡ time times (number_of evidence.objects Value) → (IsTrue answer ↔ ((k : SignatureKind) × (kind ≡ Some k) × AcceptsKind policy k at))
    → (IsTrue answer ↔ IsKindAccepted policy evidence times asked)
kind_is policy evidence times at answer kind None same e h = ((λ yes_. let found = h.0 yes_ in let none = sym same ∙ found.1 in cc), (λ no_. absurd no_))
kind_is policy evidence times at answer kind (Some asked) same e h = (
  λ yes_.
      let found = h.0 yes_ in
      let is : found.0 ≡ asked = some_same found.0 asked (sym found.1 ∙ same) in
      subst (λ (z : ℤ). AcceptsKind policy asked z) e (subst (λ (k : SignatureKind). AcceptsKind policy k at) is found.2),
  λ a. h.1 (asked, same, subst (λ (z : ℤ). AcceptsKind policy asked z) (sym e) a),
)

-- Completeness: no signer is told exactly where all walks are complete.

pub complete_is : (pool : List Part) (policy : Rules) (all : List (Option (List ℕ))) (found : Option ℕ) (P : Type 0) → IsFirstIncomplete pool policy all found
    → (IsFirstIncomplete pool policy all None ↔ P) → (IsTrue (is_none found) ↔ P)
complete_is pool policy all None P is both = ((λ t. both.0 is), (λ p. refl))
complete_is pool policy all (Some k) P is both = (
  (λ t. absurd (true≢false (sym t))),
  (λ p. absurd (none-some k (one_answer_fits pool policy all None (Some k) (both.1 p) is))),
)

pub none_answer : (answer : Bool) (found : Option ℕ) → not answer ≡ is_some found → answer ≡ is_none found
none_answer true None e = refl
none_answer true (Some k) e = absurd (true≢false (sym e))
none_answer false None e = absurd (true≢false e)
none_answer false (Some k) e = refl
