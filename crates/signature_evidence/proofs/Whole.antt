-- The case of a signature is whole.
use Rattle.std.proofs.Common.{◌≡◌, ℕ, ◌<◌, List, [], ◌∷◌, ◌++◌, length, All, Contains, Option, Some, None, slice_get, arith, refl, sym, ◌∙◌, ap, subst, ⊎_elim}
use Rattle.std.proofs.lemmas.List.{length-map}
use Rattle.std.proofs.lemmas.List.Elements.{Contains-append_cases}
use Rattle.std.proofs.lemmas.Option.{none-some}
use Rattle.std.specs.Option.{option_map_or}
use Rattle.algorithms.specs.declared.signature_kinds.SignatureKind.{SignatureKind}
use Rattle.policy_rules.specs.Rules.{Rules, kind_of_uri}
use Rattle.acceptance.specs.Certificates.{Part, certificate}
use Rattle.acceptance.specs.Objects.{certificate_of}
use Rattle.acceptance.specs.Times.{Stamp, IsOf}
use Rattle.acceptance.specs.Tokens as acceptance
use Rattle.acceptance.specs.Verdict.{Case, DigestUse, Signing}
use Rattle.acceptance.proofs.Rounds.{Contains-first, Contains-later, Contains-cases}
use Rattle.signature_objects.specs.Objects.{Object, Value, Certificate, Token, has, number_of}
use Rattle.signature_evidence.specs.Pools.{part_of, pool_of}
use Rattle.signature_evidence.specs.Evidence.{Evidence, Stamped, certificate_digests}
use Rattle.signature_evidence.specs.Cases.{IsStampOf, AreStampsOf, IsSigningOf, HasSigning, IsCaseOf}
use Rattle.signature_evidence.specs.Renewal.{IsInRange, CasesAreWhole}
use Rattle.signature_evidence.proofs.Numbers.{number_within, number_there}

pub nothing_in : {X : Type 0} (x : X) → Contains [] x → ⊥
nothing_in x has = let lt = has.1 in absurd (omega (arith, lt))

-- a time-stamp of the case is one that is shown
pub shown_of : (objects : List Object) (shown : List Stamped) (stamps : List (Stamp acceptance.Token)) → AreStampsOf objects shown stamps
    → (stamp : Stamp acceptance.Token) → Contains stamps stamp → (stamped : Stamped) × Contains shown stamped × IsStampOf objects stamped stamp
shown_of objects [] [] are stamp has = absurd (nothing_in stamp has)
shown_of objects [] (first ∷ stamps) are stamp has = absurd are
shown_of objects (stamped ∷ shown) [] are stamp has = absurd are
shown_of objects (stamped ∷ shown) (first ∷ stamps) are stamp has =
    ⊎_elim
    (λ is. (stamped, Contains-first stamped shown, subst (λ s. IsStampOf objects stamped s) is are.0))
    (λ later. let found = shown_of objects shown stamps are.1 stamp later in (found.0, Contains-later stamped found.0 shown found.1, found.2))
    (Contains-cases first stamp stamps has)

-- and each that is shown is one of the case
pub stamp_shown : (objects : List Object) (shown : List Stamped) (stamps : List (Stamp acceptance.Token)) → AreStampsOf objects shown stamps
    → (stamped : Stamped) → Contains shown stamped → (stamp : Stamp acceptance.Token) × Contains stamps stamp × IsStampOf objects stamped stamp
stamp_shown objects [] [] are stamped has = absurd (nothing_in stamped has)
stamp_shown objects [] (first ∷ stamps) are stamped has = absurd are
stamp_shown objects (next ∷ shown) [] are stamped has = absurd are
stamp_shown objects (next ∷ shown) (first ∷ stamps) are stamped has =
    ⊎_elim
    (λ is. (first, Contains-first first stamps, subst (λ s. IsStampOf objects s first) is are.0))
    (λ later. let found = stamp_shown objects shown stamps are.1 stamped later in (found.0, Contains-later first found.0 stamps found.1, found.2))
    (Contains-cases next stamped shown has)

pub pool_length : (policy : Rules) (evidence : Evidence) (case : Case) → IsCaseOf policy evidence case → length case.pool ≡ length evidence.objects
pool_length policy evidence case is = ap (λ (pool : List Part). length pool) is.pool ∙ length-map evidence.objects part_of

-- the digest of the signing certificate
certificate_within : (evidence : Evidence) (range : IsInRange evidence) (certificate : Option (List ℕ)) → evidence.certificate ≡ certificate
    → (digest : DigestUse) → Contains (certificate_digests evidence.objects evidence.certificate_kind certificate) digest → digest.object < length evidence.objects
certificate_within evidence range None e digest has = absurd (nothing_in digest has)
certificate_within evidence range (Some bytes) e digest has =
    ⊎_elim
    (λ is. subst (λ (d : DigestUse). d.object < length evidence.objects) is (number_within evidence.objects (Certificate bytes) (range.certificate bytes e)))
    (λ later. absurd (nothing_in digest later))
    (Contains-cases _ digest [] has)

pub some_same : {A : Type 0} (a b : A) → Some a ≡ Some b → a ≡ b
some_same a b e = ap (λ o. option_map_or (λ x. x) o b) e

-- the signing, where there is one
pub signing_of : (evidence : Evidence) (kind : Option SignatureKind) (certificate : Option (List ℕ)) (o : Option Signing) (signing : Signing)
    → HasSigning evidence kind certificate o → o ≡ Some signing → (k : SignatureKind) × (bytes : List ℕ) × (kind ≡ Some k) × (certificate ≡ Some bytes) × IsSigningOf evidence k bytes signing
signing_of evidence None cert o signing h e = absurd (none-some _ (sym h ∙ e))
signing_of evidence (Some k) None o signing h e = absurd (none-some _ (sym h ∙ e))
signing_of evidence (Some k) (Some bytes) o signing h e =
    (k, bytes, refl, refl, subst (IsSigningOf evidence k bytes) (some_same h.0 signing (sym h.1 ∙ e)) h.2)

pub cases_are_whole : CasesAreWhole
cases_are_whole policy evidence case range is =
    let same = pool_length policy evidence case is in record {
      stamps = λ stamp has.
          let found = shown_of evidence.objects evidence.stamps case.stamps is.stamps stamp has in
          let inside : stamp.object < length evidence.objects =
          subst (λ (n : ℕ). n < length evidence.objects) (sym found.2.object) (number_within evidence.objects (Token found.0.token) (range.stamps found.0 found.1)) in
          let covered : All (λ y. y < length evidence.objects) stamp.covers =
          subst (λ (ys : List ℕ). All (λ y. y < length evidence.objects) ys) (sym found.2.covers) (range.covers found.0 found.1) in
          subst (λ (n : ℕ). IsOf n stamp) (sym same) (inside, covered);
      digests = λ digest has.
          let P : List DigestUse → Type 0 = λ digests. Contains digests digest in
          let there : P (evidence.references ++ certificate_digests evidence.objects evidence.certificate_kind evidence.certificate) = subst P is.digests has in
          subst (λ (n : ℕ). digest.object < n) (sym same)
          (⊎_elim (range.references digest) (certificate_within evidence range evidence.certificate refl digest)
          (Contains-append_cases evidence.references (certificate_digests evidence.objects evidence.certificate_kind evidence.certificate) digest there));
      value = λ signing named.
          let found = signing_of evidence (kind_of_uri policy.kinds evidence.method) evidence.certificate case.signing signing is.signing named in
          subst (λ (n : ℕ). signing.value < n) (sym same)
          (subst (λ (n : ℕ). n < length evidence.objects) (sym found.4.value) (number_within evidence.objects Value range.value));
      signer = λ signing named.
          let found = signing_of evidence (kind_of_uri policy.kinds evidence.method) evidence.certificate case.signing signing is.signing named in
          let there : slice_get (pool_of evidence.objects) (number_of evidence.objects (Certificate found.1)) ≡ Some (certificate (certificate_of found.1)) =
          number_there evidence.objects (Certificate found.1) (range.certificate found.1 found.3) in
          (λ i. slice_get (is.pool i) (found.4.number i)) ∙ there ∙ ap (λ c. Some (certificate c)) (sym found.4.certificate_is);
    }
