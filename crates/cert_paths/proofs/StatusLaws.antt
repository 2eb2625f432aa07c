-- What the tests of the code say of a row.
use Rattle.std.proofs.Common.{◌≡◌, ℕ, Bool, true, false, List, slice_get, Option, Some, IsTrue, ◌↔◌, ℤ, ◌≤ℤ◌, sym, ap, subst, ◌∙◌, true≢false, Vec, Global}
use Rattle.algorithms.specs.declared.signature_kinds.SignatureKind.{SignatureKind}
use Rattle.policy_rules.specs.Rules.{Rules, AcceptsKind}
use Rattle.policy_rules.specs.View.{rules}
use Rattle.acceptance.specs.Certificates.{Member}
use Rattle.acceptance.specs.Walks.{time}
use Rattle.cert_paths.specs.declared.links.Tables.{Tables}
use Rattle.cert_paths.specs.declared.rows.CertRow.{CertRow}
use Rattle.cert_paths.specs.declared.rows.ListRow.{ListRow}
use Rattle.cert_paths.specs.Rows.{member_of, list_of, member_in, member_at, IsInTime}
use Rattle.cert_paths.specs.Status.{IsUntil, IsListCurrent, SomeCurrent, SomeRevoked, dates_in}
use Rattle.cert_paths.specs.Tables.{bit}
use Rattle.cert_paths.specs.Tied.{IsLinkedBy}

-- a kind that is accepted at a time
abbrev pub KindAt : Rules → Option SignatureKind → ℤ → Type 0
KindAt policy kind at = (k : SignatureKind) × (kind ≡ Some k) × AcceptsKind policy k at

pub in_time_is : (policy : Rules) (times : List ℤ) (low at : ℤ) (row : CertRow) (l a b e t : ℤ) (span accepted : Bool) →
    l ≡ low → a ≡ at → b ≡ row.not_before → e ≡ row.not_after → t ≡ time times row.object.number →
    (IsTrue span ↔ ((b ≤ℤ l) × (a ≤ℤ e))) → span ≡ true → (IsTrue accepted ↔ KindAt policy row.kind t) → (IsTrue accepted ↔ IsInTime policy times low at (member_of row))
in_time_is policy times low at row l a b e t span accepted l_is a_is b_is e_is t_is both yes' kind = (
  λ h.
      let s = both.0 yes' in
      record {
        kind = subst (λ (o : Option SignatureKind). KindAt policy o (time times row.object.number)) row.kind_is (subst (KindAt policy row.kind) t_is (kind.0 h));
        begun = subst (λ (z : ℤ). z ≤ℤ low) (b_is ∙ row.begin_is) (subst (λ (z : ℤ). b ≤ℤ z) l_is s.0);
        lasts = subst (λ (z : ℤ). at ≤ℤ z) (e_is ∙ row.end_is) (subst (λ (z : ℤ). z ≤ℤ e) a_is s.1);
      },
  λ h. kind.1 (subst (KindAt policy row.kind) (sym t_is) (subst (λ (o : Option SignatureKind). KindAt policy o (time times row.object.number)) (sym row.kind_is) h.kind)),
)

pub list_current_is : (policy : Rules) (times : List ℤ) (at end : ℤ) (row : ListRow) (a : ℤ) (o : Option ℤ) (b e t : ℤ) (until most accepted : Bool) →
    a ≡ at → o ≡ row.next_update → b ≡ row.this_update → e ≡ end → t ≡ time times row.object.number →
    (IsTrue until ↔ IsUntil a o) → until ≡ true → (IsTrue most ↔ (b ≤ℤ e)) → most ≡ true → (IsTrue accepted ↔ KindAt policy row.kind t) →
    (IsTrue accepted ↔ IsListCurrent policy times at end row.object.number (list_of row))
list_current_is policy times at end row a o b e t until most accepted a_is o_is b_is e_is t_is until_is until_yes most_is most_yes kind = (
  λ h. record {
    until = subst (IsUntil at) (o_is ∙ row.next_is) (subst (λ (z : ℤ). IsUntil z o) a_is (until_is.0 until_yes));
    in_life = subst (λ (z : ℤ). z ≤ℤ end) (b_is ∙ row.this_is) (subst (λ (z : ℤ). b ≤ℤ z) e_is (most_is.0 most_yes));
    kind = subst (λ (k : Option SignatureKind). KindAt policy k (time times row.object.number)) row.kind_is (subst (KindAt policy row.kind) t_is (kind.0 h));
  },
  λ h. kind.1 (subst (KindAt policy row.kind) (sym t_is) (subst (λ (k : Option SignatureKind). KindAt policy k (time times row.object.number)) (sym row.kind_is) h.kind)),
)

pub not_in_time : (t : Tables) (times : List ℤ) (low at : ℤ) (i j : ℕ) (row : CertRow) (l a : ℤ) (b : Bool) → slice_get t.certs.items i ≡ Some row → l ≡ low → a ≡ at →
    (IsTrue b ↔ IsInTime (rules t.policy.now) times l a (member_of row)) → b ≡ false → IsLinkedBy t times low at i j → ⊥
not_in_time t times low at i j row l a b at_i l_is a_is both no' h =
    let there : IsInTime (rules t.policy.now) times low at (member_of row) = subst (IsInTime (rules t.policy.now) times low at) (ap member_in at_i) h.in_time in
    let P : ℤ → Type 0 = λ z. IsInTime (rules t.policy.now) times z at (member_of row) in
    let Q : ℤ → Type 0 = λ z. IsInTime (rules t.policy.now) times l z (member_of row) in
    true≢false (sym (both.1 (subst Q (sym a_is) (subst P (sym l_is) there))) ∙ no')

pub linked_is : (t : Tables) (times : List ℤ) (low at : ℤ) (i j : ℕ) (row : CertRow) → slice_get t.certs.items i ≡ Some row →
    (looked : Bool) (sg : List (Vec Bool Global)) → sg ≡ t.signed.items → looked ≡ bit sg i j → looked ≡ true →
    (l a : ℤ) (in_time : Bool) → l ≡ low → a ≡ at → (IsTrue in_time ↔ IsInTime (rules t.policy.now) times l a (member_of row)) → in_time ≡ true →
    (ds : List (Option ℤ)) (dt : List (Vec (Option ℤ) Global)) (sp : List (Vec Bool Global)) (b : ℤ) (revoked : Bool) →
    dt ≡ t.dates.items → ds ≡ dates_in (slice_get dt i) → sp ≡ t.speaks.items → b ≡ at → (IsTrue revoked ↔ SomeRevoked ds sp j b) → revoked ≡ false →
    (ls : List ListRow) (sq : List (Vec Bool Global)) (d e : ℤ) (current : Bool) →
    ls ≡ t.lists.items → sq ≡ t.speaks.items → d ≡ at → e ≡ row.not_after → (IsTrue current ↔ SomeCurrent (rules t.policy.now) times d e ls sq j) →
    (IsTrue current ↔ IsLinkedBy t times low at i j)
linked_is t times low at i j row at_i looked sg sg_is looked_is looked_yes l a in_time l_is a_is in_time_is' in_time_yes ds dt sp b revoked dt_is ds_is sp_is b_is revoked_is revoked_no
    ls sq d e current ls_is sq_is d_is e_is current_is =
    let policy = rules t.policy.now in
    let here : member_at t.certs.items i ≡ member_of row = ap member_in at_i in
    let Then : ℤ → Type 0 = λ z. IsInTime policy times z at (member_of row) in
    let At : ℤ → Type 0 = λ z. IsInTime policy times l z (member_of row) in
    let D : List (Option ℤ) → Type 0 = λ x. SomeRevoked x t.speaks.items j at in
    let S : List (Vec Bool Global) → Type 0 = λ x. SomeRevoked ds x j at in
    let B : ℤ → Type 0 = λ x. SomeRevoked ds sp j x in
    let dates : ds ≡ dates_in (slice_get t.dates.items i) = ds_is ∙ ap (λ (x : List (Vec (Option ℤ) Global)). dates_in (slice_get x i)) dt_is in
    let L : List ListRow → Type 0 = λ x. SomeCurrent policy times at (member_at t.certs.items i).certificate.not_after x t.speaks.items j in
    let Q : List (Vec Bool Global) → Type 0 = λ x. SomeCurrent policy times at (member_at t.certs.items i).certificate.not_after ls x j in
    let E : ℤ → Type 0 = λ x. SomeCurrent policy times at x ls sq j in
    let A : ℤ → Type 0 = λ x. SomeCurrent policy times x e ls sq j in
    let end : e ≡ (member_at t.certs.items i).certificate.not_after = e_is ∙ row.end_is ∙ ap (λ (m : Member). m.certificate.not_after) (sym here) in (
      λ h. record {
        signed = ap (λ (x : List (Vec Bool Global)). bit x i j) (sym sg_is) ∙ sym looked_is ∙ looked_yes;
        in_time = subst (IsInTime policy times low at) (sym here) (subst Then l_is (subst At a_is (in_time_is'.0 in_time_yes)));
        current = subst L ls_is (subst Q sq_is (subst E end (subst A d_is (current_is.0 h))));
        unrevoked = λ r. true≢false (sym (revoked_is.1 (subst B (sym b_is) (subst S (sym sp_is) (subst D (sym dates) r)))) ∙ revoked_no);
      },
      λ h. current_is.1 (subst A (sym d_is) (subst E (sym end) (subst Q (sym sq_is) (subst L (sym ls_is) h.current)))),
    )
