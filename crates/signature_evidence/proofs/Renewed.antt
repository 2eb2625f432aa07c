-- A last archive time-stamp over all that is shown keeps the verdict.
use Rattle.std.proofs.Common.{◌≡◌, ℕ, zero, suc, ◌+◌, ◌<◌, Bool, true, false, cond, List, [], ◌∷◌, ◌++◌, length, Contains, Option, Some, None, IsTrue, slice_get, arith, refl, sym, ◌∙◌, ap, subst, ℤ, ◌≤ℤ◌, ◌↔◌}
use Rattle.std.proofs.lemmas.List.{length-append, map-append}
use Rattle.std.proofs.lemmas.Option.{none-some}
use Rattle.std.specs.Prelude.{map}
use Rattle.algorithms.specs.declared.signature_kinds.SignatureKind.{SignatureKind}
use Rattle.algorithms.specs.declared.digest_kinds.DigestKind.{DigestKind}
use Rattle.policy_rules.specs.Rules.{Rules, kind_of_uri}
use Rattle.signature_model.specs.Parts.{ArchiveStamp}
use Rattle.tst_tokens.specs.Tokens.{certificates_of}
use Rattle.der_values.specs.Element.{Element}
use Rattle.acceptance.specs.Certificates.{Part, crl, Crl, Verifies}
use Rattle.acceptance.specs.Objects.{certificate_of, token_of}
use Rattle.acceptance.specs.Stamping.{IsTokenAccepted, proof_time}
use Rattle.acceptance.specs.Times.{Stamp}
use Rattle.acceptance.specs.Tokens as acceptance
use Rattle.acceptance.specs.Verdict.{Case, DigestUse, Signing, IsYes}
use Rattle.acceptance.specs.Walks.{time}
use Rattle.acceptance.specs.Laws.{IsGrown, IsRenewed}
use Rattle.acceptance.proofs.Renewal.{renewal_keeps_yes}
use Rattle.acceptance.proofs.Rounds.{Contains-later}
use Rattle.acceptance.proofs.Cases.{earliest_is_some_proved_time}
use Rattle.signature_objects.specs.Objects.{Object, Octets, Value, Certificate, RevocationList, Token, has, with_object, with_objects, number_of, numbers_from, numbers_below}
use Rattle.signature_evidence.specs.Pools.{part_of, pool_of}
use Rattle.signature_evidence.specs.Evidence.{Evidence, Stamped, certificate_digests}
use Rattle.signature_objects.specs.Held.{objects_of_token}
use Rattle.signature_evidence.specs.Cases.{IsSoundOver, IsStampOf, AreStampsOf, HasSigning, IsCaseOf}
use Rattle.signature_evidence.specs.Renewal.{IsInRange, with_archive, IsLast, RenewedEvidenceIsYes, RenewalKeepsYesOf, CasesAgree, EvidenceIsAcceptedWhereProved}
use Rattle.signature_evidence.proofs.Numbers.{new_one, new_ones, new_behind, had_among, stays_with, number_within, first_had, had_where_low}
use Rattle.signature_evidence.proofs.Whole.{shown_of, stamp_shown, pool_length, nothing_in, cases_are_whole}

-- Two tests of one thing are one.

test_same : (a b : Bool) (P : Type 0) → (IsTrue a ↔ P) → (IsTrue b ↔ P) → a ≡ b
test_same true true P f g = refl
test_same false false P f g = refl
test_same true false P f g = sym (g.1 (f.0 refl))
test_same false true P f g = f.1 (g.0 refl)

-- The pool.

-- what a token brings holds no revocation list
abbrev NoLists : List Object → Type 0
NoLists [] = Unit {0}
NoLists (RevocationList bytes ∷ objects) = ⊥
NoLists (Octets k ∷ objects) = NoLists objects
NoLists (Value ∷ objects) = NoLists objects
NoLists (Certificate bytes ∷ objects) = NoLists objects
NoLists (Token bytes ∷ objects) = NoLists objects

certificates_alone : (elements : List Element) → NoLists (map (λ element. Certificate element.whole) elements)
certificates_alone [] = tt
certificates_alone (element ∷ elements) = certificates_alone elements

no_lists_of_token : (token : List ℕ) → NoLists (objects_of_token token)
no_lists_of_token token = certificates_alone (certificates_of token)

no_lists_append : (xs ys : List Object) → NoLists xs → NoLists ys → NoLists (xs ++ ys)
no_lists_append [] ys h k = k
no_lists_append (RevocationList bytes ∷ xs) ys h k = absurd h
no_lists_append (Octets j ∷ xs) ys h k = no_lists_append xs ys h k
no_lists_append (Value ∷ xs) ys h k = no_lists_append xs ys h k
no_lists_append (Certificate bytes ∷ xs) ys h k = no_lists_append xs ys h k
no_lists_append (Token bytes ∷ xs) ys h k = no_lists_append xs ys h k

head_alone : (object : Object) (more : List Object) → NoLists (object ∷ more) → NoLists (object ∷ []) × NoLists more
head_alone (RevocationList bytes) more h = absurd h
head_alone (Octets k) more h = (tt, h)
head_alone Value more h = (tt, h)
head_alone (Certificate bytes) more h = (tt, h)
head_alone (Token bytes) more h = (tt, h)

no_lists_new : (objects more : List Object) → NoLists more → NoLists (new_ones objects more)
no_lists_new objects [] h = tt
no_lists_new objects (object ∷ more) h =
    let parts = head_alone object more h in
    no_lists_append (new_one objects object) (new_ones (with_object objects object) more)
    (by_bool (has objects object) parts.0) (no_lists_new (with_object objects object) more parts.1)
  where
    by_bool : (b : Bool) → NoLists (object ∷ []) → NoLists (cond b [] (object ∷ []))
    by_bool true h = tt
    by_bool false h = h

get_front : {X : Type 0} (xs ys : List X) (k : ℕ) (x : X) → slice_get xs k ≡ Some x → slice_get (xs ++ ys) k ≡ Some x
get_front [] ys k x e = absurd (none-some x e)
get_front (y ∷ xs) ys zero x e = e
get_front (y ∷ xs) ys (suc k) x e = get_front xs ys k x e

-- a revocation list among objects and others behind them that are none is among those
list_in_front : (objects more : List Object) → NoLists more → (k : ℕ) (list : Crl) → slice_get (pool_of (objects ++ more)) k ≡ Some (crl list) → slice_get (pool_of objects) k ≡ Some (crl list)
list_in_front (object ∷ objects) more h zero list e = e
list_in_front (object ∷ objects) more h (suc k) list e = list_in_front objects more h k list e
list_in_front [] [] h k list e = e
list_in_front [] (RevocationList bytes ∷ more) h k list e = absurd h
list_in_front [] (Octets j ∷ more) h zero list e = absurd (cc e)
list_in_front [] (Octets j ∷ more) h (suc k) list e = list_in_front [] more h k list e
list_in_front [] (Value ∷ more) h zero list e = absurd (cc e)
list_in_front [] (Value ∷ more) h (suc k) list e = list_in_front [] more h k list e
list_in_front [] (Certificate bytes ∷ more) h zero list e = absurd (cc e)
list_in_front [] (Certificate bytes ∷ more) h (suc k) list e = list_in_front [] more h k list e
list_in_front [] (Token bytes ∷ more) h zero list e = absurd (cc e)
list_in_front [] (Token bytes ∷ more) h (suc k) list e = list_in_front [] more h k list e

grown_pool : (objects more : List Object) → NoLists more → IsGrown (pool_of objects) (pool_of (with_objects objects more))
grown_pool objects more h =
    let is = new_behind objects more in record {
      kept = λ k part e. ap (λ all. slice_get (pool_of all) k) is ∙ ap (λ pool. slice_get pool k) (map-append part_of objects (new_ones objects more))
          ∙ get_front (pool_of objects) (pool_of (new_ones objects more)) k part e;
      no_crl = λ k list e. list_in_front objects (new_ones objects more) (no_lists_new objects more h) k list (sym (ap (λ all. slice_get (pool_of all) k) is) ∙ e);
    }

-- The time-stamps.

-- the same time-stamps, under more objects
stamps_same : (objects more : List Object) (shown : List Stamped) → ((stamped : Stamped) → Contains shown stamped → has objects (Token stamped.token) ≡ true)
    → (a b : List (Stamp acceptance.Token)) → AreStampsOf objects shown a → AreStampsOf (with_objects objects more) shown b → b ≡ a
stamps_same objects more [] there [] [] f g = refl
stamps_same objects more [] there (x ∷ a) b f g = absurd f
stamps_same objects more [] there [] (y ∷ b) f g = absurd g
stamps_same objects more (stamped ∷ shown) there [] b f g = absurd f
stamps_same objects more (stamped ∷ shown) there (x ∷ a) [] f g = absurd g
stamps_same objects more (stamped ∷ shown) there (x ∷ a) (y ∷ b) f g =
    let number = g.0.object ∙ stays_with objects more (Token stamped.token) (there stamped (zero, omega arith, refl)) ∙ sym f.0.object in
    let token = g.0.token ∙ sym f.0.token in
    let sound : y.sound ≡ x.sound = test_same y.sound x.sound (IsSoundOver stamped.octets stamped.token) g.0.sound f.0.sound in
    let covers = g.0.covers ∙ sym f.0.covers in
    let rest = stamps_same objects more shown (λ s has. there s (suc has.0, omega (arith, has.1), has.2)) a b f.1 g.1 in
    λ i. record { object = number i; token = token i; sound = sound i; covers = covers i } ∷ rest i

-- those of a joining
stamps_cut : (objects : List Object) (front : List Stamped) (last : Stamped) (all : List (Stamp acceptance.Token)) → AreStampsOf objects (front ++ last ∷ []) all
    → (a : List (Stamp acceptance.Token)) × (stamp : Stamp acceptance.Token) × (all ≡ a ++ stamp ∷ []) × AreStampsOf objects front a × IsStampOf objects last stamp
stamps_cut objects [] last [] f = absurd f
stamps_cut objects [] last (stamp ∷ []) f = ([], stamp, refl, tt, f.0)
stamps_cut objects [] last (stamp ∷ next ∷ all) f = absurd f.1
stamps_cut objects (first ∷ front) last [] f = absurd f
stamps_cut objects (first ∷ front) last (x ∷ all) f =
    let more = stamps_cut objects front last all f.1 in
    (x ∷ more.0, more.1, ap (λ xs. x ∷ xs) more.2, (f.0, more.3), more.4)

-- Numbers that are covered.

numbers_hold : (first count k : ℕ) → k < count → Contains (numbers_from first count) (first + k)
numbers_hold first zero k lt = absurd (omega arith)
numbers_hold first (suc count) zero lt = (zero, omega arith, (let n : first ≡ first + 0 = omega arith in n))
numbers_hold first (suc count) (suc k) lt =
    let n : suc first + k ≡ first + suc k = omega arith in
    Contains-later first (first + suc k) (numbers_from (suc first) count)
    (subst (λ (number : ℕ). Contains (numbers_from (suc first) count) number) n (numbers_hold (suc first) count k (omega arith)))

numbers_only : (first count number : ℕ) → Contains (numbers_from first count) number → number < first + count
numbers_only first zero number has = absurd (nothing_in number has)
numbers_only first (suc count) number (zero, lt, is) = let e : first ≡ number = is in omega (arith, e)
numbers_only first (suc count) number (suc k, lt, is) =
    let h = numbers_only (suc first) count number (k, omega arith, is) in omega (arith, h)

-- The signing.

abbrev VerifiedBy : (signed value : List ℕ) → SignatureKind → List ℕ → Type 0
VerifiedBy signed value kind bytes = Verifies (certificate_of bytes).key (record { kind = Some kind; signed = signed; octets = value })

same_signing : (evidence more : Evidence) → more.signed ≡ evidence.signed → more.value ≡ evidence.value
    → number_of more.objects Value ≡ number_of evidence.objects Value
    → (kind : Option SignatureKind) (cert : Option (List ℕ)) → ((bytes : List ℕ) → cert ≡ Some bytes → number_of more.objects (Certificate bytes) ≡ number_of evidence.objects (Certificate bytes))
    → (a b : Option Signing) → HasSigning evidence kind cert a → HasSigning more kind cert b → b ≡ a
same_signing evidence more signed value number None cert numbers a b f g = g ∙ sym f
same_signing evidence more signed value number (Some kind) None numbers a b f g = g ∙ sym f
same_signing evidence more signed value number (Some kind) (Some bytes) numbers a b f g =
    let x : Signing = f.0 in
    let y : Signing = g.0 in
    let values = g.2.value ∙ number ∙ sym f.2.value in
    let kinds = g.2.kind_is ∙ sym f.2.kind_is in
    let number_is = g.2.number ∙ numbers bytes refl ∙ sym f.2.number in
    let certificates = g.2.certificate_is ∙ sym f.2.certificate_is in
    let verified : y.verifies ≡ x.verifies = test_same y.verifies x.verifies (VerifiedBy evidence.signed evidence.value kind bytes)
    (subst (λ (T : Type 0). IsTrue y.verifies ↔ T) (λ i. VerifiedBy (signed i) (value i) kind bytes) g.2.verifies) f.2.verifies in
    g.1 ∙ (λ i. Some (record { value = values i; kind = kinds i; signer = record { number = number_is i; certificate = certificates i }; verifies = verified i })) ∙ sym f.1

-- The digest of the signing certificate.

same_certificate : (objects more : List Object) (kind : DigestKind) (cert : Option (List ℕ)) → ((bytes : List ℕ) → cert ≡ Some bytes → number_of more (Certificate bytes) ≡ number_of objects (Certificate bytes))
    → certificate_digests more kind cert ≡ certificate_digests objects kind cert
same_certificate objects more kind None numbers = refl
same_certificate objects more kind (Some bytes) numbers = let n = numbers bytes refl in λ i. record { object = n i; kind = kind; matches = true } ∷ []

-- All of it.

pub renewed_of : (policy : Rules) (evidence : Evidence) (token octets : List ℕ) (case renewed : Case) → IsInRange evidence → IsSoundOver octets token → IsLast evidence token
    → IsCaseOf policy evidence case → (is : IsCaseOf policy (with_archive evidence token octets) renewed)
    → (stamp : Stamp acceptance.Token) × IsRenewed case renewed stamp × (stamp.token ≡ token_of token) × (stamp.object ≡ number_of (with_objects evidence.objects (objects_of_token token)) (Token token))
renewed_of policy evidence token octets case renewed range sound last was is =
    let more : List Object = objects_of_token token in
    let cut = stamps_cut (with_objects evidence.objects more) evidence.stamps (record { kind = ArchiveStamp; token = token; octets = octets; covers = numbers_below (length evidence.objects) })
    renewed.stamps is.stamps in
    let stamp : Stamp acceptance.Token = cut.1 in
    let old = stamps_same evidence.objects more evidence.stamps range.stamps case.stamps cut.0 was.stamps cut.3 in
    let old_length = pool_length policy evidence case was in
    let new_length = pool_length policy (with_archive evidence token octets) renewed is in
    let behind : length (with_objects evidence.objects more) ≡ length evidence.objects + length (new_ones evidence.objects more) =
    ap (λ (xs : List Object). length xs) (new_behind evidence.objects more) ∙ length-append evidence.objects (new_ones evidence.objects more) in
    let object = cut.4.object in
    let inside : number_of (with_objects evidence.objects more) (Token token) < length (with_objects evidence.objects more) =
    number_within (with_objects evidence.objects more) (Token token) (had_among evidence.objects more (Token token) (first_had (Token token) (map (λ element. Certificate element.whole) (certificates_of token)))) in
    let is_renewed : IsRenewed case renewed stamp = record {
      pool = subst (λ (p : List Part). IsGrown p renewed.pool) (sym was.pool)
          (subst (λ (p : List Part). IsGrown (pool_of evidence.objects) p) (sym is.pool) (grown_pool evidence.objects more (no_lists_of_token token)));
      larger = omega arith;
      stamps = cut.2 ∙ ap (λ xs. xs ++ stamp ∷ []) old;
      digests = is.digests ∙ ap (λ (ds : List DigestUse). evidence.references ++ ds) (same_certificate evidence.objects (with_objects evidence.objects more) evidence.certificate_kind evidence.certificate
          (λ bytes e. stays_with evidence.objects more (Certificate bytes) (range.certificate bytes e))) ∙ sym was.digests;
      signing = same_signing evidence (with_archive evidence token octets) refl refl (stays_with evidence.objects more Value range.value)
          (kind_of_uri policy.kinds evidence.method) evidence.certificate (λ bytes e. stays_with evidence.objects more (Certificate bytes) (range.certificate bytes e))
          case.signing renewed.signing was.signing is.signing;
      number = omega arith;
      again = λ lt.
          let low : number_of (with_objects evidence.objects more) (Token token) < length evidence.objects = omega arith in
          let had = had_where_low evidence.objects more (Token token) low in
          let shown = range.tokens token had in
          let found = stamp_shown evidence.objects evidence.stamps case.stamps was.stamps shown.0 shown.1 in (
            found.0,
            found.1,
            found.2.object ∙ ap (λ bytes. number_of evidence.objects (Token bytes)) shown.2 ∙ sym (stays_with evidence.objects more (Token token) had) ∙ sym object,
            found.2.token ∙ ap token_of shown.2 ∙ sym cut.4.token,
          );
      covers = λ number lt.
          let low : number < length evidence.objects = omega arith in
          let zero_first : 0 + number ≡ number = omega arith in
          subst (λ (ys : List ℕ). Contains ys number) (sym cut.4.covers)
          (subst (λ (n : ℕ). Contains (numbers_below (length evidence.objects)) n) zero_first (numbers_hold 0 (length evidence.objects) number low));
      only = λ number has.
          let within = numbers_only 0 (length evidence.objects) number (subst (λ (ys : List ℕ). Contains ys number) cut.4.covers has) in
          omega arith;
      sound = cut.4.sound.1 sound;
      later = λ old has.
          let found = shown_of evidence.objects evidence.stamps case.stamps was.stamps old has in
          subst (λ (t : acceptance.Token). t.gen_time ≤ℤ stamp.token.gen_time) (sym found.2.token)
          (subst (λ (t : acceptance.Token). (token_of found.0.token).gen_time ≤ℤ t.gen_time) (sym cut.4.token) (last found.0 found.1));
    } in
    (stamp, is_renewed, cut.4.token, cut.4.object)

pub renewed_evidence_is_yes : RenewedEvidenceIsYes
renewed_evidence_is_yes policy evidence token octets case renewed now times range sound last was good is after earliest accepted =
    let r = renewed_of policy evidence token octets case renewed range sound last was is in
    let proof = ap (proof_time policy) (sym r.2) in
    renewal_keeps_yes policy case renewed r.0 now times (cases_are_whole policy evidence case range was) r.1
    (subst (λ (u : ℤ). IsYes policy case u) proof good) (subst (λ (u : ℤ). u ≤ℤ now) proof after) earliest
    (subst (λ (n : ℕ). IsTokenAccepted renewed.pool policy times r.0.token (time times n)) (sym r.3)
    (subst (λ (t : acceptance.Token). IsTokenAccepted renewed.pool policy times t (time times (number_of (with_objects evidence.objects (objects_of_token token)) (Token token)))) (sym r.2) accepted))

pub renewal_keeps_yes_of : RenewalKeepsYesOf
renewal_keeps_yes_of policy evidence token octets now range sound last was after a = record {
  case = a.case;
  is_case = a.is_case;
  yes = renewed_evidence_is_yes policy evidence token octets was.case a.case now a.times range sound last was.is_case was.yes a.is_case after a.earliest a.accepted;
}

-- Two cases of what is shown.

same_stamps : (objects : List Object) (shown : List Stamped) → ((stamped : Stamped) → Contains shown stamped → has objects (Token stamped.token) ≡ true)
    → (a b : List (Stamp acceptance.Token)) → AreStampsOf objects shown a → AreStampsOf objects shown b → b ≡ a
same_stamps objects shown there a b f g = stamps_same objects [] shown there a b f g

pub cases_agree : CasesAgree
cases_agree policy evidence case second range is is_other =
    let pools = is_other.pool ∙ sym is.pool in
    let stamps = same_stamps evidence.objects evidence.stamps range.stamps case.stamps second.stamps is.stamps is_other.stamps in
    let digests = is_other.digests ∙ sym is.digests in
    let signings = same_signing evidence evidence refl refl refl (kind_of_uri policy.kinds evidence.method) evidence.certificate (λ bytes e. refl) case.signing second.signing is.signing is_other.signing in
    λ i. record { pool = pools i; stamps = stamps i; digests = digests i; signing = signings i }

pub evidence_is_accepted_where_proved : EvidenceIsAcceptedWhereProved
evidence_is_accepted_where_proved policy evidence case now times object range is earliest lt =
    earliest_is_some_proved_time policy case now times (cases_are_whole policy evidence case range is).stamps earliest object
    (subst (λ (n : ℕ). object < n) (sym (pool_length policy evidence case is)) lt)
