-- Each token has a soundness, and what is shown has a case.
use Rattle.std.proofs.Common.{◌≡◌, ℕ, Bool, true, false, cond, List, [], ◌∷◌, ◌++◌, Option, Some, None, IsTrue, refl, sym, ◌∙◌, ap, subst, ⊎_elim, ◌⊎◌, inl, inr, ◌↔◌}
use Rattle.std.proofs.lemmas.Option.{none-some}
use Rattle.std.proofs.lemmas.Slice.Eq.{bytes_eq-Decides}
use Rattle.std.specs.Str.{bytes_eq}
use Rattle.algorithms.specs.Digests.{digest_of}
use Rattle.algorithms.specs.SignatureKind.{Holds, oid_of}
use Rattle.algorithms.specs.declared.signature_kinds.SignatureKind.{SignatureKind}
use Rattle.algorithms.specs.declared.signature_kinds.SignatureKind.TheVariants.{Hss, Xmss, XmssMt}
use Rattle.lms_verify.specs.declared.Verdict as hss
use Rattle.lms_verify.specs.declared.Verdict.TheVariants as hss_verdicts
use Rattle.lms_verify.specs.Hss.{verdict as hss_verdict}
use Rattle.xmss_verify.specs.declared.Verdict as xmss
use Rattle.xmss_verify.specs.declared.Verdict.TheVariants as xmss_verdicts
use Rattle.xmss_verify.specs.Xmss.{verdict as xmss_verdict}
use Rattle.xmssmt_verify.specs.declared.Verdict as xmssmt
use Rattle.xmssmt_verify.specs.declared.Verdict.TheVariants as xmssmt_verdicts
use Rattle.xmssmt_verify.specs.XmssMt.{verdict as xmssmt_verdict}
use Rattle.der_values.specs.Element.{Element}
use Rattle.x509_certs.specs.Certificates.{stamps_time, key_oid, key}
use Rattle.policy_rules.specs.Rules.{kind_of_uri}
use Rattle.tst_tokens.specs.Digests.{imprint, imprint_kind, message_digest, cert_hash}
use Rattle.tst_tokens.specs.Tokens.{signer_of, sign_oid}
use Rattle.tst_tokens.specs.Sound.{signer, content_digest, signer_digest, signed_text, signature, IsOf, HasContent, HasSigner, NamesSigner, HasPurpose, HasKind}
use Rattle.acceptance.specs.Certificates.{Key, Verifies}
use Rattle.acceptance.specs.Objects.{certificate_of, token_of}
use Rattle.acceptance.specs.Times.{Stamp}
use Rattle.acceptance.specs.Tokens as acceptance
use Rattle.acceptance.specs.Verdict.{Signing}
use Rattle.signature_objects.specs.Objects.{Object, Value, Certificate, Token, number_of}
use Rattle.signature_evidence.specs.Pools.{pool_of}
use Rattle.signature_evidence.specs.Evidence.{Evidence, Stamped, certificate_digests}
use Rattle.signature_evidence.specs.Cases.{AreStampsOf, HasSigning}
use Rattle.signature_evidence.specs.Soundness.{Soundness, Sound, ImprintDiffers, ContentDigestDiffers, NoSigner, CertHashDiffers, Purpose, UnknownKind, Fails, HasSoundness, is_sound, SoundnessIsTold}
use Rattle.signature_evidence.specs.Renewal.{EvidenceHasACase}
use Rattle.signature_evidence.proofs.Answered.{sound_of, sound_is}
use Rattle.signature_evidence.proofs.Whole.{some_same}

abbrev Decision : Type 0 → Type 0
Decision P = P ⊎ (P → ⊥)

not_both : true ≡ false → ⊥
not_both e = let T : Bool → Type 0 = λ b. cond b (Unit {0}) ⊥ in subst T e tt

decide_bytes : (a b : List ℕ) → Decision (a ≡ b)
decide_bytes a b = by_bool (bytes_eq a b) (bytes_eq-Decides a b).0 (bytes_eq-Decides a b).1
  where
    by_bool : (t : Bool) → (t ≡ true → a ≡ b) → (a ≡ b → t ≡ true) → Decision (a ≡ b)
    by_bool true to from = inl (to refl)
    by_bool false to from = inr (λ e. not_both (sym (from e)))

decide_true : (b : Bool) → Decision (IsTrue b)
decide_true true = inl refl
decide_true false = inr (λ e. not_both (sym e))

decide_hss : (v : hss.Verdict) → Decision (v ≡ hss_verdicts.Good)
decide_hss hss_verdicts.Good = inl refl
decide_hss _ = inr (λ h. cc)

decide_xmss : (v : xmss.Verdict) → Decision (v ≡ xmss_verdicts.Good)
decide_xmss xmss_verdicts.Good = inl refl
decide_xmss _ = inr (λ h. cc)

decide_xmssmt : (v : xmssmt.Verdict) → Decision (v ≡ xmssmt_verdicts.Good)
decide_xmssmt xmssmt_verdicts.Good = inl refl
decide_xmssmt _ = inr (λ h. cc)

decide_holds : (kind : SignatureKind) (k message s : List ℕ) → Decision (Holds kind k message s)
decide_holds Hss k message s = decide_hss (hss_verdict k message s)
decide_holds Xmss k message s = decide_xmss (xmss_verdict k message s)
decide_holds XmssMt k message s = decide_xmssmt (xmssmt_verdict k message s)

decide_is_of : (kind : SignatureKind) (of_signature of_key : List ℕ) → Decision (IsOf kind of_signature of_key)
decide_is_of kind of_signature of_key =
    ⊎_elim
    (λ e. ⊎_elim (λ f. inl (e, f)) (λ no_. inr (λ h. no_ h.1)) (decide_bytes of_key (oid_of kind)))
    (λ no_. inr (λ h. no_ h.0)) (decide_bytes of_signature (oid_of kind))

-- The soundness of a token, test by test.

abbrev Told : List ℕ → List ℕ → Type 0
Told covered token = (s : Soundness) × HasSoundness covered token s

by_signature : (covered token : List ℕ) (kind : SignatureKind) → HasKind covered token kind → Told covered token
by_signature covered token kind h =
    ⊎_elim (λ holds. (Sound, (kind, (h, holds)))) (λ fails. (Fails, (kind, (h, fails)))) (decide_holds kind (key (signer token)) (signed_text token) (signature token))

none_of : (of_signature of_key : List ℕ) → (IsOf Hss of_signature of_key → ⊥) → (IsOf Xmss of_signature of_key → ⊥) → (IsOf XmssMt of_signature of_key → ⊥)
    → (kind : SignatureKind) → IsOf kind of_signature of_key → ⊥
none_of a b f g k Hss h = f h
none_of a b f g k Xmss h = g h
none_of a b f g k XmssMt h = k h

by_kind : (covered token : List ℕ) → HasPurpose covered token → Told covered token
by_kind covered token h =
    ⊎_elim (λ is. by_signature covered token Hss (h, is))
    (λ not_hss. ⊎_elim (λ is. by_signature covered token Xmss (h, is))
    (λ not_xmss. ⊎_elim (λ is. by_signature covered token XmssMt (h, is))
    (λ not_xmssmt. (UnknownKind, (h, none_of (sign_oid token) (key_oid (signer token)) not_hss not_xmss not_xmssmt)))
    (decide_is_of XmssMt (sign_oid token) (key_oid (signer token))))
    (decide_is_of Xmss (sign_oid token) (key_oid (signer token))))
    (decide_is_of Hss (sign_oid token) (key_oid (signer token)))

by_purpose : (covered token : List ℕ) → NamesSigner covered token → Told covered token
by_purpose covered token h = ⊎_elim (λ is. by_kind covered token (h, is)) (λ lacks. (Purpose, (h, lacks))) (decide_true (stamps_time (signer token)))

by_hash : (covered token : List ℕ) → HasSigner covered token → Told covered token
by_hash covered token h = ⊎_elim (λ is. by_purpose covered token (h, is)) (λ differs. (CertHashDiffers, (h, differs))) (decide_bytes (cert_hash token) (signer_digest token))

by_signer : (covered token : List ℕ) → HasContent covered token → (o : Option Element) → signer_of token ≡ o → Told covered token
by_signer covered token h None e = (NoSigner, (h, e))
by_signer covered token h (Some element) e = by_hash covered token (h, ap (λ o. is_there o) e)
  where
    is_there : Option Element → Bool
    is_there None = false
    is_there (Some x) = true

told : (covered token : List ℕ) → Told covered token
told covered token =
    ⊎_elim
    (λ i. ⊎_elim (λ c. by_signer covered token (i, c) (signer_of token) refl) (λ differs. (ContentDigestDiffers, (i, differs))) (decide_bytes (message_digest token) (content_digest token)))
    (λ differs. (ImprintDiffers, differs)) (decide_bytes (imprint token) covered)

pub soundness_is_told : SoundnessIsTold
soundness_is_told covered token =
    let t = told covered token in
    (t.0, t.1, (λ e. sound_of covered token t.0 t.1 e, λ h. sound_is covered token t.0 t.1 h))

-- The case.

decide_kind : (a b : SignatureKind) → Decision (a ≡ b)
decide_kind Hss Hss = inl refl
decide_kind Hss Xmss = inr (λ h. cc)
decide_kind Hss XmssMt = inr (λ h. cc)
decide_kind Xmss Hss = inr (λ h. cc)
decide_kind Xmss Xmss = inl refl
decide_kind Xmss XmssMt = inr (λ h. cc)
decide_kind XmssMt Hss = inr (λ h. cc)
decide_kind XmssMt Xmss = inr (λ h. cc)
decide_kind XmssMt XmssMt = inl refl

decide_verifies : (k : Key) (kind : SignatureKind) (message octets : List ℕ) (o : Option SignatureKind) → k.kind ≡ o
    → Decision (Verifies k (record { kind = Some kind; signed = message; octets = octets }))
decide_verifies k kind message octets None e = inr (λ h. none-some h.0 (sym e ∙ h.2))
decide_verifies k kind message octets (Some other_kind) e =
    ⊎_elim
    (λ same. ⊎_elim (λ holds. inl (kind, refl, e ∙ ap (λ x. Some x) same, holds))
    (λ fails. inr (λ h. fails (subst (λ x. Holds x k.octets message octets) (sym (some_same kind h.0 h.1)) h.3))) (decide_holds kind k.octets message octets))
    (λ differ. inr (λ h. differ (some_same other_kind h.0 (sym e ∙ h.2) ∙ sym (some_same kind h.0 h.1))))
    (decide_kind other_kind kind)

told_by : {P : Type 0} → Decision P → (b : Bool) × (IsTrue b ↔ P)
told_by d = ⊎_elim (λ p. (true, (λ e. p, λ q. refl))) (λ no_. (false, (λ e. absurd (not_both (sym e)), λ p. absurd (no_ p)))) d

stamps_for : (objects : List Object) (shown : List Stamped) → (stamps : List (Stamp acceptance.Token)) × AreStampsOf objects shown stamps
stamps_for objects [] = ([], tt)
stamps_for objects (stamped ∷ shown) =
    let t = soundness_is_told (digest_of (imprint_kind stamped.token) stamped.octets) stamped.token in
    let rest = stamps_for objects shown in (
      record { object = number_of objects (Token stamped.token); token = token_of stamped.token; sound = is_sound t.0; covers = stamped.covers } ∷ rest.0,
      (record { object = refl; token = refl; sound = t.2; covers = refl }, rest.1),
    )

signing_for : (evidence : Evidence) (kind : Option SignatureKind) (cert : Option (List ℕ)) → (signing : Option Signing) × HasSigning evidence kind cert signing
signing_for evidence None cert = (None, refl)
signing_for evidence (Some kind) None = (None, refl)
signing_for evidence (Some kind) (Some bytes) =
    let v = told_by (decide_verifies (certificate_of bytes).key kind evidence.signed evidence.value (certificate_of bytes).key.kind refl) in
    let signing : Signing = record {
      value = number_of evidence.objects Value;
      kind = kind;
      signer = record { number = number_of evidence.objects (Certificate bytes); certificate = certificate_of bytes };
      verifies = v.0;
    } in
    (Some signing, (signing, refl, record { value = refl; kind_is = refl; number = refl; certificate_is = refl; verifies = v.1 }))

pub evidence_has_a_case : EvidenceHasACase
evidence_has_a_case policy evidence =
    let stamps = stamps_for evidence.objects evidence.stamps in
    let signing = signing_for evidence (kind_of_uri policy.kinds evidence.method) evidence.certificate in (
      record {
        pool = pool_of evidence.objects;
        stamps = stamps.0;
        digests = evidence.references ++ certificate_digests evidence.objects evidence.certificate_kind evidence.certificate;
        signing = signing.0;
      },
      record { pool = refl; stamps = stamps.1; digests = refl; signing = signing.1 },
    )
