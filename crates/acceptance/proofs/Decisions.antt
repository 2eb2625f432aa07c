-- What acceptance asks can be decided.
use Rattle.std.proofs.Common.{◌≡◌, ℕ, zero, suc, ◌+◌, ◌<◌, Bool, true, false, ◌⊎◌, List, [], ◌∷◌, length, slice_get, Some, None, Option, Contains, ℤ, ◌≤ℤ◌, ◌<ℤ◌, arith, refl, sym, ap, subst, inl, inr, ⊎_elim, true≢false, int_le, int_lt}
use Rattle.std.proofs.lemmas.Int.{ints}
use Rattle.std.proofs.lemmas.Bool.{cases_eq, cases_lt}
use Rattle.std.proofs.lemmas.Option.{slice_get_within}
use Rattle.algorithms.specs.declared.signature_kinds.SignatureKind.{SignatureKind}
use Rattle.algorithms.specs.declared.signature_kinds.SignatureKind.TheVariants.{Hss, Xmss, XmssMt}
use Rattle.algorithms.specs.declared.digest_kinds.DigestKind.{DigestKind}
use Rattle.algorithms.specs.declared.digest_kinds.DigestKind.TheVariants.{Sha256, Sha384, Sha512}
use Rattle.lms_verify.specs.declared.Verdict as hss
use Rattle.lms_verify.specs.declared.Verdict.TheVariants as hss_verdicts
use Rattle.lms_verify.specs.Hss.{verdict as hss_verdict}
use Rattle.xmss_verify.specs.declared.Verdict as xmss
use Rattle.xmss_verify.specs.declared.Verdict.TheVariants as xmss_verdicts
use Rattle.xmss_verify.specs.Xmss.{verdict as xmss_verdict}
use Rattle.xmssmt_verify.specs.declared.Verdict as xmssmt
use Rattle.xmssmt_verify.specs.declared.Verdict.TheVariants as xmssmt_verdicts
use Rattle.xmssmt_verify.specs.XmssMt.{verdict as xmssmt_verdict}
use Rattle.algorithms.specs.SignatureKind.{Holds}
use Rattle.acceptance.specs.Certificates.{Certificate, Crl, Part, certificate, crl, other, Member, Signature, Key, Revoked, Verifies}
use Rattle.policy_rules.specs.Rules.{Rules, IsBefore, AcceptsKind, AcceptsDigest, IsKindRule, IsDigestRule}
use Rattle.acceptance.specs.Policy.{anchors_of, AcceptsSignature}
use Rattle.acceptance.specs.Walks.{time, HasCertificate, HasCrl, IsWithin, IsCrlOf, IsCurrentByCrl, IsRevokedByCrl, IsSigned, IsBelow, IsIssued, Counts, LeadsUp, IsAccepted}
use Rattle.acceptance.specs.Tokens.{Token}
use Rattle.acceptance.specs.Stamping.{IsTokenAccepted}
use Rattle.acceptance.proofs.Rounds.{Contains-cases, Contains-first, Contains-later}

abbrev pub Decision : Type 0 → Type 0
Decision P = P ⊎ (P → ⊥)

decision_by : {P Q : Type 0} → (P → Q) → (Q → P) → Decision P → Decision Q
decision_by to from d = ⊎_elim (λ p. inl (to p)) (λ no'. inr (λ q. no' (from q))) d

decide_and : {P Q : Type 0} → Decision P → Decision Q → Decision (P × Q)
decide_and d e = ⊎_elim (λ p. ⊎_elim (λ q. inl (p, q)) (λ no'. inr (λ h. no' h.1)) e) (λ no'. inr (λ h. no' h.0)) d

decide_or : {P Q : Type 0} → Decision P → Decision Q → Decision (P ⊎ Q)
decide_or d e = ⊎_elim (λ p. inl (inl p)) (λ no'. ⊎_elim (λ q. inl (inr q)) (λ neither. inr (λ h. ⊎_elim no' neither h)) e) d

decide_not : {P : Type 0} → Decision P → Decision (P → ⊥)
decide_not d = ⊎_elim (λ p. inr (λ h. h p)) (λ no'. inl no') d

decide_true : (b : Bool) → Decision (b ≡ true)
decide_true true = inl refl
decide_true false = inr (λ h. true≢false (sym h))

decide_false : (b : Bool) → Decision (b ≡ false)
decide_false true = inr (λ h. true≢false h)
decide_false false = inl refl

cases_test : (t : Bool) → (t ≡ true) ⊎ (t ≡ false)
cases_test true = inl refl
cases_test false = inr refl

decide_le : (a b : ℤ) → Decision (a ≤ℤ b)
decide_le a b = ⊎_elim (λ h. inl (grind (arith, ints))) (λ h. inr (λ k. let no' : false ≡ true = grind (arith, ints) in true≢false (sym no'))) (cases_test (int_le a b))

decide_lt : (a b : ℤ) → Decision (a <ℤ b)
decide_lt a b = ⊎_elim (λ h. inl (grind (arith, ints))) (λ h. inr (λ k. let no' : false ≡ true = grind (arith, ints) in true≢false (sym no'))) (cases_test (int_lt a b))

decide_text : (a b : List ℕ) → Decision (a ≡ b)
decide_text [] [] = inl refl
decide_text [] (y ∷ ys) = inr (λ h. cc)
decide_text (x ∷ xs) [] = inr (λ h. cc)
decide_text (x ∷ xs) (y ∷ ys) =
    ⊎_elim
    (λ e. ⊎_elim (λ es. inl cc) (λ no'. inr (λ h. no' cc)) (decide_text xs ys))
    (λ no'. inr (λ h. no' cc))
    (cases_eq x y)

decide_kind : (a b : SignatureKind) → Decision (a ≡ b)
decide_kind Hss Hss = inl refl
decide_kind Hss Xmss = inr (λ h. cc)
decide_kind Xmss Hss = inr (λ h. cc)
decide_kind Xmss Xmss = inl refl
decide_kind Hss XmssMt = inr (λ h. cc)
decide_kind Xmss XmssMt = inr (λ h. cc)
decide_kind XmssMt Hss = inr (λ h. cc)
decide_kind XmssMt Xmss = inr (λ h. cc)
decide_kind XmssMt XmssMt = inl refl

decide_digest : (a b : DigestKind) → Decision (a ≡ b)
decide_digest Sha256 Sha256 = inl refl
decide_digest Sha256 Sha384 = inr (λ h. cc)
decide_digest Sha256 Sha512 = inr (λ h. cc)
decide_digest Sha384 Sha256 = inr (λ h. cc)
decide_digest Sha384 Sha384 = inl refl
decide_digest Sha384 Sha512 = inr (λ h. cc)
decide_digest Sha512 Sha256 = inr (λ h. cc)
decide_digest Sha512 Sha384 = inr (λ h. cc)
decide_digest Sha512 Sha512 = inl refl

-- some element of a list
decide_member : {X : Type 0} (P : X → Type 0) → ((x : X) → Decision (P x)) → (xs : List X) → Decision ((x : X) × Contains xs x × P x)
decide_member P d [] = inr (λ h. let (x, (k, lt, is), p) = h in absurd (omega arith))
decide_member P d (x ∷ xs) =
    ⊎_elim
    (λ p. inl (x, Contains-first x xs, p))
    (λ not_x. ⊎_elim
    (λ h. let (y, has, p) = h in inl (y, Contains-later x y xs has, p))
    (λ none. inr (λ h. let (y, has, p) = h in ⊎_elim (λ e. not_x (subst P (sym e) p)) (λ later. none (y, later, p)) (Contains-cases x y xs has)))
    (decide_member P d xs))
    (d x)

-- some number below a bound
decide_below : (P : ℕ → Type 0) → ((k : ℕ) → Decision (P k)) → (n : ℕ) → Decision ((k : ℕ) × (k < n) × P k)
decide_below P d zero = inr (λ h. let (k, lt, p) = h in absurd (omega arith))
decide_below P d (suc n) =
    ⊎_elim
    (λ p. inl (n, omega arith, p))
    (λ not_n. ⊎_elim
    (λ h. let (k, lt, p) = h in inl (k, omega arith, p))
    (λ none. inr (λ h. let (k, lt, p) = h in ⊎_elim (λ below. none (k, below, p)) (λ from. let e : k ≡ n = omega arith in not_n (subst P e p)) (cases_lt k n)))
    (decide_below P d n))
    (d n)

decide_some : {X : Type 0} (P : X → Type 0) → ((x : X) → Decision (P x)) → (o : Option X) → Decision ((x : X) × (o ≡ Some x) × P x)
decide_some P d None = inr (λ h. let (x, e, p) = h in cc)
decide_some P d (Some x) = decision_by (λ p. (x, refl, p)) (λ h. let (y, e, p) = h in let same : y ≡ x = cc in subst P same p) (d x)

decide_is : {X : Type 0} → ((x y : X) → Decision (x ≡ y)) → (o : Option X) (x : X) → Decision (o ≡ Some x)
decide_is d None x = inr (λ h. cc)
decide_is d (Some y) x = decision_by (λ e. ap Some e) (λ e. cc) (d y x)

decide_crl : (P : Crl → Type 0) → ((l : Crl) → Decision (P l)) → (o : Option Part) → Decision ((l : Crl) × (o ≡ Some (crl l)) × P l)
decide_crl P d None = inr (λ h. let (l, e, p) = h in cc)
decide_crl P d (Some (certificate c)) = inr (λ h. let (l, e, p) = h in cc)
decide_crl P d (Some other) = inr (λ h. let (l, e, p) = h in cc)
decide_crl P d (Some (crl m)) = decision_by (λ p. (m, refl, p)) (λ h. let (l, e, p) = h in let same : l ≡ m = cc in subst P same p) (d m)

decide_certificate : (P : Certificate → Type 0) → ((c : Certificate) → Decision (P c)) → (o : Option Part) → Decision ((c : Certificate) × (o ≡ Some (certificate c)) × P c)
decide_certificate P d None = inr (λ h. let (l, e, p) = h in cc)
decide_certificate P d (Some (crl c)) = inr (λ h. let (l, e, p) = h in cc)
decide_certificate P d (Some other) = inr (λ h. let (l, e, p) = h in cc)
decide_certificate P d (Some (certificate m)) = decision_by (λ p. (m, refl, p)) (λ h. let (l, e, p) = h in let same : l ≡ m = cc in subst P same p) (d m)

-- some CRL of the pool, and some certificate of it
decide_pool_crl : (pool : List Part) (P : ℕ → Crl → Type 0) → ((n : ℕ) (l : Crl) → Decision (P n l)) → Decision ((n : ℕ) × (l : Crl) × HasCrl pool n l × P n l)
decide_pool_crl pool P d =
    decision_by
    (λ h. let (n, lt, (l, has, p)) = h in (n, l, has, p))
    (λ h. let (n, l, has, p) = h in (n, slice_get_within pool n _ has, (l, has, p)))
    (decide_below (λ n. (l : Crl) × HasCrl pool n l × P n l) (λ n. decide_crl (P n) (d n) (slice_get pool n)) (length pool))

decide_pool_member : (pool : List Part) (P : Member → Type 0) → ((m : Member) → Decision (P m)) → Decision ((m : Member) × HasCertificate pool m × P m)
decide_pool_member pool P d =
    decision_by
    (λ h. let (n, lt, (c, has, p)) = h in (record { number = n; certificate = c }, has, p))
    (λ h. let (m, has, p) = h in (m.number, slice_get_within pool m.number _ has, (m.certificate, has, p)))
    (decide_below (λ n. (c : Certificate) × (slice_get pool n ≡ Some (certificate c)) × P (record { number = n; certificate = c }))
    (λ n. decide_certificate (λ c. P (record { number = n; certificate = c })) (λ c. d (record { number = n; certificate = c })) (slice_get pool n)) (length pool))

decide_before : (at : ℤ) (end : Option ℤ) → Decision (IsBefore at end)
decide_before at None = inl tt
decide_before at (Some e) = decide_lt at e

decide_accepts_kind : (policy : Rules) (kind : SignatureKind) (at : ℤ) → Decision (AcceptsKind policy kind at)
decide_accepts_kind policy kind at =
    decide_member (IsKindRule kind at) (λ rule. decide_and (decide_kind rule.kind kind) (decide_before at rule.until)) policy.kinds

decide_accepts_digest : (policy : Rules) (kind : DigestKind) (at : ℤ) → Decision (AcceptsDigest policy kind at)
decide_accepts_digest policy kind at =
    decide_member (IsDigestRule kind at) (λ rule. decide_and (decide_digest rule.kind kind) (decide_before at rule.until)) policy.digests

decide_accepts_signature : (policy : Rules) (signature : Signature) (at : ℤ) → Decision (AcceptsSignature policy signature at)
decide_accepts_signature policy signature at = decide_some (λ kind. AcceptsKind policy kind at) (λ kind. decide_accepts_kind policy kind at) signature.kind

decide_hss : (v : hss.Verdict) → Decision (v ≡ hss_verdicts.Good)
decide_hss hss_verdicts.Good = inl refl
decide_hss _ = inr (λ h. cc)

decide_xmss : (v : xmss.Verdict) → Decision (v ≡ xmss_verdicts.Good)
decide_xmss xmss_verdicts.Good = inl refl
decide_xmss _ = inr (λ h. cc)

decide_xmssmt : (v : xmssmt.Verdict) → Decision (v ≡ xmssmt_verdicts.Good)
decide_xmssmt xmssmt_verdicts.Good = inl refl
decide_xmssmt _ = inr (λ h. cc)

decide_holds : (kind : SignatureKind) (key message signature : List ℕ) → Decision (Holds kind key message signature)
decide_holds Hss key message signature = decide_hss (hss_verdict key message signature)
decide_holds Xmss key message signature = decide_xmss (xmss_verdict key message signature)
decide_holds XmssMt key message signature = decide_xmssmt (xmssmt_verdict key message signature)

decide_verifies : (key : Key) (signature : Signature) → Decision (Verifies key signature)
decide_verifies key signature =
    decision_by (λ h. let (kind, is, (k, good)) = h in (kind, is, k, good)) (λ h. let (kind, is, k, good) = h in (kind, is, (k, good)))
    (decide_some (λ kind. (key.kind ≡ Some kind) × Holds kind key.octets signature.signed signature.octets)
    (λ kind. decide_and (decide_is decide_kind key.kind kind) (decide_holds kind key.octets signature.signed signature.octets)) signature.kind)

decide_within : (count : ℕ) (most : Option ℕ) → Decision (IsWithin count most)
decide_within count None = inl tt
decide_within count (Some m) = ⊎_elim (λ lt. inr (λ le. omega arith)) (λ le. inl le) (cases_lt m count)

decide_crl_of : (issuer : Certificate) (list : Crl) → Decision (IsCrlOf issuer list)
decide_crl_of issuer list =
    decision_by
    (λ h. record { usable = h.0; named = h.1.0; verifies = h.1.1.0; may_sign = h.1.1.1 })
    (λ h. (h.usable, (h.named, (h.verifies, h.may_sign))))
    (decide_and (decide_true list.usable) (decide_and (decide_text list.issuer issuer.subject)
    (decide_and (decide_verifies issuer.key list.signature) (decide_true issuer.signs_crls))))

decide_current : (pool : List Part) (policy : Rules) (times : List ℤ) (at : ℤ) (c issuer : Certificate) → Decision (IsCurrentByCrl pool policy times at c issuer)
decide_current pool policy times at c issuer =
    decision_by
    (λ h. let (number, list, there, (speaks, (kind, (in_life, (next, has_next, current))))) = h in
    record { number = number; list = list; there = there; speaks = speaks; kind = kind; next = next; has_next = has_next; current = current; in_life = in_life })
    (λ h. (h.number, h.list, h.there, (h.speaks, (h.kind, (h.in_life, (h.next, h.has_next, h.current))))))
    (decide_pool_crl pool
    (λ number list. IsCrlOf issuer list × (AcceptsSignature policy list.signature (time times number) × ((list.this_update ≤ℤ c.not_after) × ((next : ℤ) × (list.next_update ≡ Some next) × (at ≤ℤ next)))))
    (λ number list. decide_and (decide_crl_of issuer list) (decide_and (decide_accepts_signature policy list.signature (time times number))
    (decide_and (decide_le list.this_update c.not_after) (decide_some (λ next. at ≤ℤ next) (decide_le at) list.next_update)))))

decide_revoked : (pool : List Part) (at : ℤ) (c issuer : Certificate) → Decision (IsRevokedByCrl pool at c issuer)
decide_revoked pool at c issuer =
    decision_by
    (λ h. let (number, list, there, (speaks, (entry, listed, (serial, by_then)))) = h in
    record { number = number; list = list; there = there; speaks = speaks; entry = entry; listed = listed; serial = serial; by_then = by_then })
    (λ h. (h.number, h.list, h.there, (h.speaks, (h.entry, h.listed, (h.serial, h.by_then)))))
    (decide_pool_crl pool
    (λ number list. IsCrlOf issuer list × ((entry : Revoked) × Contains list.entries entry × ((entry.serial ≡ c.serial) × (entry.date ≤ℤ at))))
    (λ number list. decide_and (decide_crl_of issuer list)
    (decide_member (λ (entry : Revoked). (entry.serial ≡ c.serial) × (entry.date ≤ℤ at)) (λ entry. decide_and (decide_text entry.serial c.serial) (decide_le entry.date at)) list.entries)))

decide_signed : (c issuer : Certificate) → Decision (IsSigned c issuer)
decide_signed c issuer =
    decision_by
    (λ h. record { named = h.0; verifies = h.1.0; known = h.1.1.0; authority = h.1.1.1.0; may_sign = h.1.1.1.1 })
    (λ h. (h.named, (h.verifies, (h.known, (h.authority, h.may_sign)))))
    (decide_and (decide_text c.issuer issuer.subject) (decide_and (decide_verifies issuer.key c.signature) (decide_and (decide_false c.strange)
    (decide_and (decide_true issuer.is_ca) (decide_true issuer.signs_certs)))))

decide_issued_below : (counted : ℕ) (c issuer : Certificate) → Decision (IsBelow counted c issuer)
decide_issued_below counted c issuer =
    decision_by (λ h. record { signed = h.0; short = h.1 }) (λ h. (h.signed, h.short))
    (decide_and (decide_signed c issuer) (decide_within counted issuer.path_len))

decide_issued : (pool : List Part) (policy : Rules) (times : List ℤ) (low at : ℤ) (counted : ℕ) (c : Member) (issuer : Certificate) → Decision (IsIssued pool policy times low at counted c issuer)
decide_issued pool policy times low at counted c issuer =
    decision_by
    (λ h. record { below = h.0; kind = h.1.0; begun = h.1.1.0; lasts = h.1.1.1.0; current = h.1.1.1.1.0; unrevoked = h.1.1.1.1.1 })
    (λ h. (h.below, (h.kind, (h.begun, (h.lasts, (h.current, h.unrevoked))))))
    (decide_and (decide_issued_below counted c.certificate issuer) (decide_and (decide_accepts_signature policy c.certificate.signature (time times c.number))
    (decide_and (decide_le c.certificate.not_before low) (decide_and (decide_le at c.certificate.not_after)
    (decide_and (decide_current pool policy times at c.certificate issuer) (decide_not (decide_revoked pool at c.certificate issuer)))))))

decide_counts : (P : ℕ → Type 0) → ((n : ℕ) → Decision (P n)) → (counted : ℕ) (c : Certificate) → Decision ((next : ℕ) × Counts counted c next × P next)
decide_counts P d counted c =
    ⊎_elim
    (λ self. decision_by (λ p. (counted, inl (self, refl), p))
    (λ h. let (next, counts, p) = h in ⊎_elim (λ q. subst P q.1 p) (λ q. absurd (q.0 self)) counts) (d counted))
    (λ not_self. decision_by (λ p. (counted + 1, inr (not_self, refl), p))
    (λ h. let (next, counts, p) = h in ⊎_elim (λ q. absurd (not_self q.0)) (λ q. subst P q.1 p) counts) (d (counted + 1)))
    (decide_text c.subject c.issuer)

decide_leads : (link : ℕ → Member → Certificate → Type 0) (d : (counted : ℕ) (c : Member) (issuer : Certificate) → Decision (link counted c issuer))
    (pool : List Part) (anchors : List Certificate) (n : ℕ) (counted : ℕ) (c : Member) →
    Decision ((above : List Member) × (length above < n) × LeadsUp link pool anchors counted c above)
decide_leads link d pool anchors zero counted c = inr (λ h. let (above, lt, up) = h in absurd (omega arith))
decide_leads link d pool anchors (suc n) counted c =
    let Rest : Member → ℕ → Type 0 = λ issuer next. (above : List Member) × (length above < n) × LeadsUp link pool anchors next issuer above in
    let Further : Member → Type 0 = λ issuer. link counted c issuer.certificate × ((next : ℕ) × Counts counted issuer.certificate next × Rest issuer next) in
    let to : (((anchor : Certificate) × Contains anchors anchor × link counted c anchor) ⊎ ((issuer : Member) × HasCertificate pool issuer × Further issuer)) →
    ((above : List Member) × (length above < suc n) × LeadsUp link pool anchors counted c above) =
    λ h. ⊎_elim
    (λ root. ([], omega arith, root))
    (λ q. let (issuer, has, (holds, (next, counts, (above, lt, up)))) = q in (issuer ∷ above, omega arith, (has, holds, (next, counts, up)))) h in
    decision_by to (from_walk link pool anchors n counted c)
    (decide_or (decide_member (link counted c) (d counted c) anchors)
    (decide_pool_member pool Further (λ issuer. decide_and (d counted c issuer.certificate)
    (decide_counts (Rest issuer) (λ next. decide_leads link d pool anchors n next issuer) counted issuer.certificate))))
  where
    from_walk : (link : ℕ → Member → Certificate → Type 0) (pool : List Part) (anchors : List Certificate) (n counted : ℕ) (c : Member) →
        ((above : List Member) × (length above < suc n) × LeadsUp link pool anchors counted c above) →
        (((anchor : Certificate) × Contains anchors anchor × link counted c anchor)
        ⊎ ((issuer : Member) × HasCertificate pool issuer × (link counted c issuer.certificate
        × ((next : ℕ) × Counts counted issuer.certificate next × ((above : List Member) × (length above < n) × LeadsUp link pool anchors next issuer above)))))
    from_walk link pool anchors n counted c ([], lt, up) = inl up
    from_walk link pool anchors n counted c (issuer ∷ above, lt, (has, holds, (next, counts, up))) = inr (issuer, has, (holds, (next, counts, (above, omega arith, up))))

pub decide_accepted : (pool : List Part) (policy : Rules) (times : List ℤ) (leaf : Member) (low at : ℤ) → Decision (IsAccepted pool policy times leaf low at)
decide_accepted pool policy times leaf low at = decide_leads (IsIssued pool policy times low at) (decide_issued pool policy times low at) pool (anchors_of policy) 8 0 leaf

pub decide_token_accepted : (pool : List Part) (policy : Rules) (times : List ℤ) (token : Token) (at : ℤ) → Decision (IsTokenAccepted pool policy times token at)
decide_token_accepted pool policy times token at =
    decision_by
    (λ h. record {
      imprint = h.0;
      content = h.1.0;
      cert_hash = h.1.1.0;
      kind = h.1.1.1.0;
      signer = (let (signer, there, (named, accepted)) = h.1.1.1.1 in record { signer = signer; named = named; there = there; accepted = accepted });
    })
    (λ h. (h.imprint, (h.content, (h.cert_hash, (h.kind, (h.signer.signer, h.signer.there, (h.signer.named, h.signer.accepted)))))))
    (decide_and (decide_accepts_digest policy token.imprint at) (decide_and (decide_accepts_digest policy token.content at) (decide_and (decide_accepts_digest policy token.cert_hash at)
    (decide_and (decide_accepts_signature policy token.signature at)
    (decide_pool_member pool (λ signer. (token.signer ≡ Some signer.certificate.whole) × IsAccepted pool policy times signer token.gen_time at)
    (λ signer. decide_and (decide_is decide_text token.signer signer.certificate.whole) (decide_accepted pool policy times signer token.gen_time at)))))))
