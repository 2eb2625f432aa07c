-- The answers make the verdict.
use Rattle.std.proofs.Common.{◌≡◌, ℕ, ◌<◌, Bool, true, false, ◌&&◌, List, [], ◌∷◌, ◌++◌, length, Contains, Option, Some, None, is_some, slice_index_or, arith, refl, sym, ◌∙◌, ap, subst, ⊎_elim, ◌⊎◌, ℤ, pos, ◌≤ℤ◌}
use Rattle.std.proofs.lemmas.Int.{ints}
use Rattle.std.proofs.lemmas.List.{ext_get_or}
use Rattle.std.proofs.lemmas.List.Elements.{Contains-append_left, Contains-append_right, Contains-append_cases}
use Rattle.std.specs.Prelude.{IsSome}
use Rattle.std.specs.List.{list_all}
use Rattle.algorithms.specs.Digests.{digest_of}
use Rattle.algorithms.specs.SignatureKind.{oid_of}
use Rattle.algorithms.specs.declared.signature_kinds.SignatureKind.{SignatureKind}
use Rattle.algorithms.specs.declared.signature_kinds.SignatureKind.TheVariants.{Hss, Xmss, XmssMt}
use Rattle.policy_rules.specs.Rules.{Rules, AcceptsKind, AcceptsDigest, kind_of_uri}
use Rattle.tst_tokens.specs.Digests.{imprint_kind}
use Rattle.tst_tokens.specs.Sound.{IsSound, HoldsBy}
use Rattle.acceptance.specs.Certificates.{Member}
use Rattle.acceptance.specs.Objects.{token_of}
use Rattle.acceptance.specs.Stamping.{IsTokenAccepted}
use Rattle.acceptance.specs.Tokens as acceptance
use Rattle.acceptance.specs.Verdict.{Case, DigestUse, Signing, AreEarliest, Holds, IsYes}
use Rattle.acceptance.specs.Walks.{time, IsAccepted}
use Rattle.acceptance.proofs.Rounds.{Contains-first, Contains-later, Contains-cases}
use Rattle.signature_objects.specs.Objects.{Value, Token}
use Rattle.signature_evidence.specs.Evidence.{Evidence, Stamped, certificate_digests}
use Rattle.signature_evidence.specs.Cases.{IsSigningOf, IsCaseOf}
use Rattle.signature_evidence.specs.Soundness.{Soundness, Sound, ImprintDiffers, ContentDigestDiffers, NoSigner, CertHashDiffers, Purpose, UnknownKind, Fails, HasSoundness, is_sound}
use Rattle.signature_evidence.specs.Answers.{TokenAnswer, Answers, time_of, signer_of, IsGood, IsKindAccepted, IsCertificateAccepted, IsWalkAccepted, AreAccepted, AreTokenAnswers, AreAnswers, is_fine, is_yes, AnswersMakeTheVerdict}
use Rattle.signature_evidence.proofs.Numbers.{not_both}
use Rattle.signature_evidence.proofs.Whole.{nothing_in, shown_of, stamp_shown, signing_of}

-- Tests.

first_of : (a b : Bool) → (a && b) ≡ true → a ≡ true
first_of true b e = refl
first_of false b e = absurd (not_both (sym e))

second_of : (a b : Bool) → (a && b) ≡ true → b ≡ true
second_of true b e = e
second_of false b e = absurd (not_both (sym e))

and_true : (a b : Bool) → a ≡ true → b ≡ true → (a && b) ≡ true
and_true a b e f = λ i. e i && f i

all_of : {A : Type 0} (p : A → Bool) (xs : List A) → list_all p xs ≡ true → (x : A) → Contains xs x → p x ≡ true
all_of p [] e x has = absurd (nothing_in x has)
all_of p (y ∷ xs) e x has =
    ⊎_elim (λ is. ap p (sym is) ∙ first_of (p y) (list_all p xs) e) (λ later. all_of p xs (second_of (p y) (list_all p xs) e) x later) (Contains-cases y x xs has)

all_true : {A : Type 0} (p : A → Bool) (xs : List A) → ((x : A) → Contains xs x → p x ≡ true) → list_all p xs ≡ true
all_true p [] h = refl
all_true p (x ∷ xs) h = and_true (p x) (list_all p xs) (h x (Contains-first x xs)) (all_true p xs (λ y has. h y (Contains-later x y xs has)))

-- Soundness.

kind_one : (a b : SignatureKind) → oid_of a ≡ oid_of b → a ≡ b
kind_one Hss Hss e = refl
kind_one Hss Xmss e = let n : 0x2A ≡ 0x2B = ap (λ (xs : List ℕ). slice_index_or xs 0 0) e in absurd (omega (arith, n))
kind_one Hss XmssMt e = let n : 0x2A ≡ 0x2B = ap (λ (xs : List ℕ). slice_index_or xs 0 0) e in absurd (omega (arith, n))
kind_one Xmss Hss e = let n : 0x2B ≡ 0x2A = ap (λ (xs : List ℕ). slice_index_or xs 0 0) e in absurd (omega (arith, n))
kind_one Xmss Xmss e = refl
kind_one Xmss XmssMt e = let n : 0x22 ≡ 0x23 = ap (λ (xs : List ℕ). slice_index_or xs 7 0) e in absurd (omega (arith, n))
kind_one XmssMt Hss e = let n : 0x2B ≡ 0x2A = ap (λ (xs : List ℕ). slice_index_or xs 0 0) e in absurd (omega (arith, n))
kind_one XmssMt Xmss e = let n : 0x23 ≡ 0x22 = ap (λ (xs : List ℕ). slice_index_or xs 7 0) e in absurd (omega (arith, n))
kind_one XmssMt XmssMt e = refl

pub sound_of : (covered token : List ℕ) (s : Soundness) → HasSoundness covered token s → is_sound s ≡ true → IsSound covered token
sound_of covered token Sound h e = h
sound_of covered token ImprintDiffers h e = absurd (not_both (sym e))
sound_of covered token ContentDigestDiffers h e = absurd (not_both (sym e))
sound_of covered token NoSigner h e = absurd (not_both (sym e))
sound_of covered token CertHashDiffers h e = absurd (not_both (sym e))
sound_of covered token Purpose h e = absurd (not_both (sym e))
sound_of covered token UnknownKind h e = absurd (not_both (sym e))
sound_of covered token Fails h e = absurd (not_both (sym e))

pub sound_is : (covered token : List ℕ) (s : Soundness) → HasSoundness covered token s → IsSound covered token → is_sound s ≡ true
sound_is covered token Sound h i = refl
sound_is covered token ImprintDiffers h i = absurd (h i.1.0.0.0.0.0.0)
sound_is covered token ContentDigestDiffers h i = absurd (h.1 i.1.0.0.0.0.0.1)
sound_is covered token NoSigner h i = absurd (not_both (sym (subst (λ o. IsSome o) h.1 i.1.0.0.0.0.1)))
sound_is covered token CertHashDiffers h i = absurd (h.1 i.1.0.0.0.1)
sound_is covered token Purpose h i = absurd (h.1 i.1.0.0.1)
sound_is covered token UnknownKind h i = absurd (h.1 i.0 i.1.0.1)
sound_is covered token Fails h i =
    absurd (h.1.1 (subst (λ k. HoldsBy token k) (kind_one i.0 h.0 (sym i.1.0.1.0 ∙ h.1.0.1.0)) i.1.1))

-- Earliest times are one list.

earliest_one : (policy : Rules) (case : Case) (now : ℤ) (s t : List ℤ) → AreEarliest policy case now s → AreEarliest policy case now t → s ≡ t
earliest_one policy case now s t e f =
    let d : ℤ = pos 0 in
    ext_get_or d s t (e.closed.each ∙ sym f.closed.each)
    (λ i lt.
    let each = e.closed.each in
    let within : i < length case.pool = omega arith in
    let low : time s i ≤ℤ time t i = f.greatest s e.closed i within in
    let high : time t i ≤ℤ time s i = e.greatest t f.closed i within in
    omega (arith, ints))

-- Digests.

digest_answer : (policy : Rules) (times : List ℤ) (digests : List DigestUse) (answers : List Bool) → AreAccepted policy times digests answers → list_all (λ answer. answer) answers ≡ true
    → (digest : DigestUse) → Contains digests digest → AcceptsDigest policy digest.kind (time times digest.object)
digest_answer policy times [] answers are e digest has = absurd (nothing_in digest has)
digest_answer policy times (first ∷ digests) [] are e digest has = absurd are
digest_answer policy times (first ∷ digests) (answer ∷ answers) are e digest has =
    ⊎_elim
    (λ is. subst (λ (d : DigestUse). AcceptsDigest policy d.kind (time times d.object)) is (are.0.0 (first_of answer (list_all (λ a. a) answers) e)))
    (λ later. digest_answer policy times digests answers are.1 (second_of answer (list_all (λ a. a) answers) e) digest later)
    (Contains-cases first digest digests has)

digests_answered : (policy : Rules) (times : List ℤ) (digests : List DigestUse) (answers : List Bool) → AreAccepted policy times digests answers
    → ((digest : DigestUse) → Contains digests digest → AcceptsDigest policy digest.kind (time times digest.object)) → list_all (λ answer. answer) answers ≡ true
digests_answered policy times [] [] are h = refl
digests_answered policy times [] (answer ∷ answers) are h = absurd are
digests_answered policy times (first ∷ digests) [] are h = absurd are
digests_answered policy times (first ∷ digests) (answer ∷ answers) are h =
    and_true answer (list_all (λ a. a) answers) (are.0.1 (h first (Contains-first first digests)))
    (digests_answered policy times digests answers are.1 (λ digest has. h digest (Contains-later first digest digests has)))

-- the digest of the signing certificate
certificate_digest : (policy : Rules) (evidence : Evidence) (times : List ℤ) (cert : Option (List ℕ)) → IsCertificateAccepted policy evidence times cert
    → (digest : DigestUse) → Contains (certificate_digests evidence.objects evidence.certificate_kind cert) digest
    → (digest.matches ≡ true) × AcceptsDigest policy digest.kind (time times digest.object)
certificate_digest policy evidence times None a digest has = absurd a
certificate_digest policy evidence times (Some bytes) a digest has =
    ⊎_elim (λ is. subst (λ (d : DigestUse). (d.matches ≡ true) × AcceptsDigest policy d.kind (time times d.object)) is (refl, a)) (λ later. absurd (nothing_in digest later))
    (Contains-cases _ digest [] has)

certificate_answered : (policy : Rules) (evidence : Evidence) (times : List ℤ) (cert : Option (List ℕ)) → is_some cert ≡ true
    → ((digest : DigestUse) → Contains (certificate_digests evidence.objects evidence.certificate_kind cert) digest → AcceptsDigest policy digest.kind (time times digest.object))
    → IsCertificateAccepted policy evidence times cert
certificate_answered policy evidence times None e h = absurd (not_both (sym e))
certificate_answered policy evidence times (Some bytes) e h = h _ (Contains-first _ [])

-- Tokens.

token_answer : (policy : Rules) (evidence : Evidence) (case : Case) (times : List ℤ) (shown : List Stamped) (answers : List TokenAnswer) → AreTokenAnswers policy evidence case times shown answers
    → list_all is_fine answers ≡ true → (stamped : Stamped) → Contains shown stamped
    → IsSound (digest_of (imprint_kind stamped.token) stamped.octets) stamped.token × IsTokenAccepted case.pool policy times (token_of stamped.token) (time_of evidence times (Token stamped.token))
token_answer policy evidence case times [] answers are e stamped has = absurd (nothing_in stamped has)
token_answer policy evidence case times (first ∷ shown) [] are e stamped has = absurd are
token_answer policy evidence case times (first ∷ shown) (answer ∷ answers) are e stamped has =
    let fine = first_of (is_fine answer) (list_all is_fine answers) e in
    ⊎_elim
    (λ is. subst (λ (s : Stamped). IsSound (digest_of (imprint_kind s.token) s.octets) s.token × IsTokenAccepted case.pool policy times (token_of s.token) (time_of evidence times (Token s.token))) is (
      sound_of (digest_of (imprint_kind first.token) first.octets) first.token answer.soundness are.0.soundness (first_of (is_sound answer.soundness) answer.accepted fine),
      are.0.accepted.0 (second_of (is_sound answer.soundness) answer.accepted fine),
    ))
    (λ later. token_answer policy evidence case times shown answers are.1 (second_of (is_fine answer) (list_all is_fine answers) e) stamped later)
    (Contains-cases first stamped shown has)

tokens_answered : (policy : Rules) (evidence : Evidence) (case : Case) (times : List ℤ) (shown : List Stamped) (answers : List TokenAnswer) → AreTokenAnswers policy evidence case times shown answers
    → ((stamped : Stamped) → Contains shown stamped → IsSound (digest_of (imprint_kind stamped.token) stamped.octets) stamped.token
    × IsTokenAccepted case.pool policy times (token_of stamped.token) (time_of evidence times (Token stamped.token)))
    → list_all is_fine answers ≡ true
tokens_answered policy evidence case times [] [] are h = refl
tokens_answered policy evidence case times [] (answer ∷ answers) are h = absurd are
tokens_answered policy evidence case times (first ∷ shown) [] are h = absurd are
tokens_answered policy evidence case times (first ∷ shown) (answer ∷ answers) are h =
    let here = h first (Contains-first first shown) in
    and_true (is_fine answer) (list_all is_fine answers)
    (and_true (is_sound answer.soundness) answer.accepted
    (sound_is (digest_of (imprint_kind first.token) first.octets) first.token answer.soundness are.0.soundness here.0) (are.0.accepted.1 here.1))
    (tokens_answered policy evidence case times shown answers are.1 (λ stamped has. h stamped (Contains-later first stamped shown has)))

-- The signing.

kind_at : (policy : Rules) (evidence : Evidence) (times : List ℤ) (o : Option SignatureKind) (kind : SignatureKind) → o ≡ Some kind → IsKindAccepted policy evidence times o
    → AcceptsKind policy kind (time_of evidence times Value)
kind_at policy evidence times o kind e a = subst (IsKindAccepted policy evidence times) e a

walk_at : (policy : Rules) (evidence : Evidence) (case : Case) (times : List ℤ) (o : Option (List ℕ)) (bytes : List ℕ) → o ≡ Some bytes → IsWalkAccepted policy evidence case times o
    → IsAccepted case.pool policy times (signer_of evidence bytes) (time_of evidence times Value) (time_of evidence times Value)
walk_at policy evidence case times o bytes e a = subst (IsWalkAccepted policy evidence case times) e a

same_signer : (evidence : Evidence) (kind : SignatureKind) (bytes : List ℕ) (signing : Signing) → IsSigningOf evidence kind bytes signing → signer_of evidence bytes ≡ signing.signer
same_signer evidence kind bytes signing is = let n = is.number in let c = is.certificate_is in sym (λ i. record { number = n i; certificate = c i })

-- All of it.

abbrev all_digests : Evidence → List DigestUse
all_digests evidence = certificate_digests evidence.objects evidence.certificate_kind evidence.certificate

verdict_of : (policy : Rules) (evidence : Evidence) (case : Case) (now : ℤ) (times : List ℤ) (answers : Answers) → IsCaseOf policy evidence case → AreAnswers policy evidence case now times answers
    → is_yes evidence answers ≡ true → IsYes policy case now
verdict_of policy evidence case now times answers is are e =
    let matches : Bool = list_all (λ (digest : DigestUse). digest.matches) evidence.references in
    let accepted : Bool = list_all (λ answer. answer) answers.references in
    let a1 = second_of matches _ e in
    let a2 = second_of accepted _ a1 in
    let a3 = second_of (is_some evidence.certificate) _ a2 in
    let a4 = second_of answers.certificate _ a3 in
    let a5 = second_of answers.good _ a4 in
    let a6 = second_of answers.kind _ a5 in
    let a7 = second_of answers.walk _ a6 in
    let a8 = second_of (list_all is_fine answers.tokens) _ a7 in
    let good : IsGood case = are.good.0 (first_of answers.good _ a4) in
    let certificate = are.certificate.0 (first_of answers.certificate _ a3) in
    let P : DigestUse → List DigestUse → Type 0 = λ digest digests. Contains digests digest in
    let which : (digest : DigestUse) → Contains case.digests digest → Contains evidence.references digest ⊎ Contains (all_digests evidence) digest =
    λ digest has. Contains-append_cases evidence.references (all_digests evidence) digest (subst (P digest) is.digests has) in
    let tokens = token_answer policy evidence case times evidence.stamps answers.tokens are.tokens (first_of (list_all is_fine answers.tokens) _ a7) in
    record {
      intact = record {
        signing = good.0;
        named = good.1;
        value = good.2;
        digests = λ digest has. ⊎_elim (all_of (λ (d : DigestUse). d.matches) evidence.references (first_of matches _ e) digest)
            (λ h. (certificate_digest policy evidence times evidence.certificate certificate digest h).0) (which digest has);
        stamps = λ stamp has. let found = shown_of evidence.objects evidence.stamps case.stamps is.stamps stamp has in found.2.sound.1 (tokens found.0 found.1).0;
      };
      in_order = are.in_order.0 (first_of answers.in_order true a8);
      times = times;
      earliest = are.earliest;
      holds = record {
        digests = λ digest has. ⊎_elim (digest_answer policy times evidence.references answers.references are.references (first_of accepted _ a1) digest)
            (λ h. (certificate_digest policy evidence times evidence.certificate certificate digest h).1) (which digest has);
        value = λ signing named.
            let found = signing_of evidence (kind_of_uri policy.kinds evidence.method) evidence.certificate case.signing signing is.signing named in
            let kind = found.4.kind_is in
            let value = found.4.value in
            subst (λ (n : ℕ). AcceptsKind policy signing.kind (time times n)) (sym value)
            (subst (λ (k : SignatureKind). AcceptsKind policy k (time_of evidence times Value)) (sym kind)
            (kind_at policy evidence times (kind_of_uri policy.kinds evidence.method) found.0 found.2 (are.kind.0 (first_of answers.kind _ a5))));
        signer = λ signing named.
            let found = signing_of evidence (kind_of_uri policy.kinds evidence.method) evidence.certificate case.signing signing is.signing named in
            let value = found.4.value in
            subst (λ (n : ℕ). IsAccepted case.pool policy times signing.signer (time times n) (time times n)) (sym value)
            (subst (λ (m : Member). IsAccepted case.pool policy times m (time_of evidence times Value) (time_of evidence times Value)) (same_signer evidence found.0 found.1 signing found.4)
            (walk_at policy evidence case times evidence.certificate found.1 found.3 (are.walk.0 (first_of answers.walk _ a6))));
        tokens = λ stamp has.
            let found = shown_of evidence.objects evidence.stamps case.stamps is.stamps stamp has in
            subst (λ (n : ℕ). IsTokenAccepted case.pool policy times stamp.token (time times n)) (sym found.2.object)
            (subst (λ (t : acceptance.Token). IsTokenAccepted case.pool policy times t (time_of evidence times (Token found.0.token))) (sym found.2.token) (tokens found.0 found.1).1);
      };
    }

answers_of : (policy : Rules) (evidence : Evidence) (case : Case) (now : ℤ) (times : List ℤ) (answers : Answers) → IsCaseOf policy evidence case → AreAnswers policy evidence case now times answers
    → IsYes policy case now → is_yes evidence answers ≡ true
answers_of policy evidence case now times answers is are y =
    let same : y.times ≡ times = earliest_one policy case now y.times times y.earliest are.earliest in
    let holds : Holds policy case times = subst (Holds policy case) same y.holds in
    let signing : Signing = y.intact.signing in
    let found = signing_of evidence (kind_of_uri policy.kinds evidence.method) evidence.certificate case.signing signing is.signing y.intact.named in
    let P : DigestUse → List DigestUse → Type 0 = λ digest digests. Contains digests digest in
    let in_case : (digest : DigestUse) → Contains (evidence.references ++ all_digests evidence) digest → Contains case.digests digest = λ digest has. subst (P digest) (sym is.digests) has in
    let some_cert : is_some evidence.certificate ≡ true = ap (λ (o : Option (List ℕ)). is_some o) found.3 in
    let value = found.4.value in
    and_true _ _ (all_true (λ (d : DigestUse). d.matches) evidence.references (λ digest has. y.intact.digests digest (in_case digest (Contains-append_left evidence.references (all_digests evidence) digest has))))
    (and_true _ _ (digests_answered policy times evidence.references answers.references are.references
    (λ digest has. holds.digests digest (in_case digest (Contains-append_left evidence.references (all_digests evidence) digest has))))
    (and_true _ _ some_cert
    (and_true _ _ (are.certificate.1 (certificate_answered policy evidence times evidence.certificate some_cert
    (λ digest has. holds.digests digest (in_case digest (Contains-append_right evidence.references (all_digests evidence) digest has)))))
    (and_true _ _ (are.good.1 (signing, y.intact.named, y.intact.value))
    (and_true _ _ (are.kind.1 (subst (IsKindAccepted policy evidence times) (sym found.2)
    (subst (λ (k : SignatureKind). AcceptsKind policy k (time_of evidence times Value)) found.4.kind_is
    (subst (λ (n : ℕ). AcceptsKind policy signing.kind (time times n)) value (holds.value signing y.intact.named)))))
    (and_true _ _ (are.walk.1 (subst (IsWalkAccepted policy evidence case times) (sym found.3)
    (subst (λ (m : Member). IsAccepted case.pool policy times m (time_of evidence times Value) (time_of evidence times Value)) (sym (same_signer evidence found.0 found.1 signing found.4))
    (subst (λ (n : ℕ). IsAccepted case.pool policy times signing.signer (time times n) (time times n)) value (holds.signer signing y.intact.named)))))
    (and_true _ _ (tokens_answered policy evidence case times evidence.stamps answers.tokens are.tokens
    (λ stamped has.
    let s = stamp_shown evidence.objects evidence.stamps case.stamps is.stamps stamped has in (
      s.2.sound.0 (y.intact.stamps s.0 s.1),
      subst (λ (t : acceptance.Token). IsTokenAccepted case.pool policy times t (time_of evidence times (Token stamped.token))) s.2.token
          (subst (λ (n : ℕ). IsTokenAccepted case.pool policy times s.0.token (time times n)) s.2.object (holds.tokens s.0 s.1)),
    )))
    (and_true _ true (are.in_order.1 y.in_order) refl))))))))

pub answers_make_the_verdict : AnswersMakeTheVerdict
answers_make_the_verdict policy evidence case now times answers is are = (verdict_of policy evidence case now times answers is are, answers_of policy evidence case now times answers is are)
