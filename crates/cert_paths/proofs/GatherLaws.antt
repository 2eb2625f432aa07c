-- Loops that go over the parts of a pool.
use Rattle.std.proofs.Common.{◌≡◌, ℕ, zero, suc, ◌+◌, ◌≤◌, List, [], ◌∷◌, ◌++◌, length, slice_get, Option, Some, arith, refl, sym, ap, subst, ◌∙◌, ⊎_elim, length-append, Bool, Vec, Global, map, ℤ}
use Rattle.std.proofs.lemmas.Bool.{cases_lt}
use Rattle.std.proofs.lemmas.Option.{slice_get_within}
use Rattle.acceptance.specs.Certificates.{Part, Certificate, Crl, Member, certificate, crl, other}
use Rattle.acceptance.specs.Walks.{HasCertificate, HasCrl}
use Rattle.cert_paths.specs.declared.rows.CertRow.{CertRow}
use Rattle.cert_paths.specs.declared.rows.ListRow.{ListRow}
use Rattle.cert_paths.specs.Pool.{numbers_from, part_numbers}
use Rattle.cert_paths.specs.declared.rows.IssuerRow.{IssuerRow}
use Rattle.cert_paths.specs.Reached.{IsSignedTable, IsClosed, IsSpoken}
use Rattle.cert_paths.specs.Tables.{IsTableOf}
use Rattle.cert_paths.specs.Rows.{member_of, list_of, dates_of, AreCertificates, AreLists, AreCertificatesTo, AreListsTo}
use Rattle.cert_paths.proofs.HeldLaws.{get_before, get_last, get_cases}

-- each part has a place among the parts
numbered_from : (start : ℕ) (pool : List Part) (n : ℕ) (p : Part) → (p ≡ other → ⊥) → slice_get pool n ≡ Some p → (j : ℕ) × (slice_get (numbers_from start pool) j ≡ Some (start + n))
numbered_from start [] n p some at = cc
numbered_from start (other ∷ pool) zero p some at = absurd (some (let e : other ≡ p = cc in sym e))
numbered_from start (certificate c ∷ pool) zero p some at = (0, ap Some (omega arith))
numbered_from start (crl c ∷ pool) zero p some at = (0, ap Some (omega arith))
numbered_from start (other ∷ pool) (suc n) p some at =
    let (j, is) = numbered_from (suc start) pool n p some at in (j, is ∙ ap Some (omega arith))
numbered_from start (certificate c ∷ pool) (suc n) p some at =
    let (j, is) = numbered_from (suc start) pool n p some at in (suc j, is ∙ ap Some (omega arith))
numbered_from start (crl c ∷ pool) (suc n) p some at =
    let (j, is) = numbered_from (suc start) pool n p some at in (suc j, is ∙ ap Some (omega arith))

numbered : (pool : List Part) (n : ℕ) (p : Part) → (p ≡ other → ⊥) → slice_get pool n ≡ Some p → (j : ℕ) × (slice_get (part_numbers pool) j ≡ Some n)
unfolding part_numbers
numbered pool n p some at =
    let (j, is) = numbered_from 0 pool n p some at in (j, is ∙ ap Some (omega arith))

inside_some : {A : Type 0} (x y : A) → Some x ≡ Some y → x ≡ y
inside_some x y e = cc

pub certificates_none : (pool : List Part) → AreCertificatesTo pool [] 0
certificates_none pool = record { there = λ k row at. cc; each = λ j k c lt. absurd (omega arith); few = omega arith }

pub certificates_pushed : (pool : List Part) (rows after : List CertRow) (n k : ℕ) (row : CertRow) → AreCertificatesTo pool rows n → after ≡ rows ++ row ∷ [] →
    slice_get (part_numbers pool) n ≡ Some k → row.object.number ≡ k → slice_get pool k ≡ Some (certificate (member_of row).certificate) → AreCertificatesTo pool after (n + 1)
certificates_pushed pool rows after n k row so_far is number same there = record {
  there = λ i r at.
      ⊎_elim
      (λ old. so_far.there i r old)
      (λ q. subst (λ (x : CertRow). HasCertificate pool (member_of x)) (sym q.1) (ap (slice_get pool) same ∙ there))
      (get_cases rows row r i (ap (λ (l : List CertRow). slice_get l i) (sym is) ∙ at));
  each = λ j m c lt number_j at.
      ⊎_elim
      (λ before.
      let (i, r, at_i, e, f) = so_far.each j m c before number_j at in
      (i, r, ap (λ (l : List CertRow). slice_get l i) is ∙ get_before rows row i (slice_get_within rows i r at_i) ∙ at_i, e, f))
      (λ from.
      let here : j ≡ n = omega arith in
      let m_is : Some m ≡ Some k = sym number_j ∙ ap (slice_get (part_numbers pool)) here ∙ number in
      let mk : m ≡ k = inside_some m k m_is in
      let c_is : Some (certificate c) ≡ Some (certificate (member_of row).certificate) = sym at ∙ ap (slice_get pool) mk ∙ there in
      (length rows, row, ap (λ (l : List CertRow). slice_get l (length rows)) is ∙ get_last rows row (length rows) refl, same ∙ sym mk, cc))
      (cases_lt j n);
  few = let l = length-append rows (row ∷ []) in let e = ap length is in let h = so_far.few in omega arith;
}

pub certificates_passed : (pool : List Part) (rows : List CertRow) (n k : ℕ) (l : Crl) → AreCertificatesTo pool rows n →
    slice_get (part_numbers pool) n ≡ Some k → slice_get pool k ≡ Some (crl l) → AreCertificatesTo pool rows (n + 1)
certificates_passed pool rows n k l so_far number there = record {
  there = so_far.there;
  each = λ j m c lt number_j at.
      ⊎_elim
      (λ before. so_far.each j m c before number_j at)
      (λ from.
      let here : j ≡ n = omega arith in
      let m_is : Some m ≡ Some k = sym number_j ∙ ap (slice_get (part_numbers pool)) here ∙ number in
      let mk : m ≡ k = inside_some m k m_is in
      let no : Some (certificate c) ≡ Some (crl l) = sym at ∙ ap (slice_get pool) mk ∙ there in
      cc)
      (cases_lt j n);
  few = let h = so_far.few in omega arith;
}

member_is : (row : CertRow) (m : Member) → row.object.number ≡ m.number → (member_of row).certificate ≡ m.certificate → member_of row ≡ m
member_is row m e f =
    ap (λ k. let r : Member = record { number = k; certificate = (member_of row).certificate } in r) e
    ∙ ap (λ c. let r : Member = record { number = m.number; certificate = c } in r) f

pub certificates_all : (pool : List Part) (rows : List CertRow) (n : ℕ) → length (part_numbers pool) ≤ n → AreCertificatesTo pool rows n → AreCertificates pool rows
certificates_all pool rows n le so_far = record {
  there = so_far.there;
  each = λ m has.
      let (j, number) = numbered pool m.number (certificate m.certificate) (λ e. cc) has in
      let lt = slice_get_within (part_numbers pool) j m.number number in
      let (i, row, at, e, f) = so_far.each j m.number m.certificate (omega arith) number has in
      (i, row, at, member_is row m e f);
}

pub lists_none : (pool : List Part) → AreListsTo pool [] 0
lists_none pool = record { there = λ k row at. cc; each = λ j k c lt. absurd (omega arith) }

pub lists_pushed : (pool : List Part) (rows after : List ListRow) (n k : ℕ) (row : ListRow) → AreListsTo pool rows n → after ≡ rows ++ row ∷ [] →
    slice_get (part_numbers pool) n ≡ Some k → row.object.number ≡ k → slice_get pool k ≡ Some (crl (list_of row)) → AreListsTo pool after (n + 1)
lists_pushed pool rows after n k row so_far is number same there = record {
  there = λ i r at.
      ⊎_elim
      (λ old. so_far.there i r old)
      (λ q. subst (λ (x : ListRow). HasCrl pool x.object.number (list_of x)) (sym q.1) (ap (slice_get pool) same ∙ there))
      (get_cases rows row r i (ap (λ (l : List ListRow). slice_get l i) (sym is) ∙ at));
  each = λ j m c lt number_j at.
      ⊎_elim
      (λ before.
      let (i, r, at_i, e, f) = so_far.each j m c before number_j at in
      (i, r, ap (λ (l : List ListRow). slice_get l i) is ∙ get_before rows row i (slice_get_within rows i r at_i) ∙ at_i, e, f))
      (λ from.
      let here : j ≡ n = omega arith in
      let m_is : Some m ≡ Some k = sym number_j ∙ ap (slice_get (part_numbers pool)) here ∙ number in
      let mk : m ≡ k = inside_some m k m_is in
      let c_is : Some (crl c) ≡ Some (crl (list_of row)) = sym at ∙ ap (slice_get pool) mk ∙ there in
      (length rows, row, ap (λ (l : List ListRow). slice_get l (length rows)) is ∙ get_last rows row (length rows) refl, same ∙ sym mk, cc))
      (cases_lt j n);
}

pub lists_passed : (pool : List Part) (rows : List ListRow) (n k : ℕ) (c : Certificate) → AreListsTo pool rows n →
    slice_get (part_numbers pool) n ≡ Some k → slice_get pool k ≡ Some (certificate c) → AreListsTo pool rows (n + 1)
lists_passed pool rows n k c so_far number there = record {
  there = so_far.there;
  each = λ j m l lt number_j at.
      ⊎_elim
      (λ before. so_far.each j m l before number_j at)
      (λ from.
      let here : j ≡ n = omega arith in
      let m_is : Some m ≡ Some k = sym number_j ∙ ap (slice_get (part_numbers pool)) here ∙ number in
      let mk : m ≡ k = inside_some m k m_is in
      let no : Some (crl l) ≡ Some (certificate c) = sym at ∙ ap (slice_get pool) mk ∙ there in
      cc)
      (cases_lt j n);
}

pub lists_all : (pool : List Part) (rows : List ListRow) (n : ℕ) → length (part_numbers pool) ≤ n → AreListsTo pool rows n → AreLists pool rows
lists_all pool rows n le so_far = record {
  there = so_far.there;
  each = λ m l has.
      let (j, number) = numbered pool m (crl l) (λ e. cc) has in
      let lt = slice_get_within (part_numbers pool) j m number in
      so_far.each j m l (omega arith) number has;
}

-- tables over lists that are equal
pub signed_over : (cs certs : List CertRow) (is issuers : List IssuerRow) (reached : List Bool) (bits : List (Vec Bool Global)) → cs ≡ certs → is ≡ issuers →
    IsSignedTable cs is reached bits → IsSignedTable certs issuers reached bits
signed_over cs certs is issuers reached bits e f t =
    subst (λ (xs : List CertRow). IsSignedTable xs issuers reached bits) e (subst (λ (ys : List IssuerRow). IsSignedTable cs ys reached bits) f t)

pub closed_over : (cs certs : List CertRow) (is issuers : List IssuerRow) (reached : List Bool) (bits : List (Vec Bool Global)) → cs ≡ certs → is ≡ issuers →
    IsClosed (length cs) (length is) reached bits → IsClosed (length certs) (length issuers) reached bits
closed_over cs certs is issuers reached bits e f t =
    subst (λ (xs : List CertRow). IsClosed (length xs) (length issuers) reached bits) e (subst (λ (ys : List IssuerRow). IsClosed (length cs) (length ys) reached bits) f t)

pub speaks_over : (ls lists : List ListRow) (is issuers : List IssuerRow) (rs reached : List Bool) (bits : List (Vec Bool Global)) → ls ≡ lists → is ≡ issuers → rs ≡ reached →
    IsTableOf (IsSpoken ls is rs) (length ls) (length is) bits → IsTableOf (IsSpoken lists issuers reached) (length lists) (length issuers) bits
speaks_over ls lists is issuers rs reached bits e f g t =
    let P : List ListRow → Type 0 = λ xs. IsTableOf (IsSpoken xs issuers reached) (length xs) (length issuers) bits in
    let Q : List IssuerRow → Type 0 = λ ys. IsTableOf (IsSpoken ls ys reached) (length ls) (length ys) bits in
    let R : List Bool → Type 0 = λ zs. IsTableOf (IsSpoken ls is zs) (length ls) (length is) bits in
    subst P e (subst Q f (subst R g t))

pub dates_over : (cs certs : List CertRow) (ls lists : List ListRow) (ds : List (List (Option ℤ))) → cs ≡ certs → ls ≡ lists →
    ds ≡ map (λ c. dates_of c ls) cs → ds ≡ map (λ c. dates_of c lists) certs
dates_over cs certs ls lists ds e f is =
    is ∙ ap (λ (xs : List CertRow). map (λ c. dates_of c ls) xs) e ∙ ap (λ (ys : List ListRow). map (λ c. dates_of c ys) certs) f

pub issuers_over : (cs certs : List CertRow) (is : List Certificate) (anchors : List Certificate) → cs ≡ certs →
    is ≡ map (λ r. (member_of r).certificate) cs ++ anchors → is ≡ map (λ r. (member_of r).certificate) certs ++ anchors
issuers_over cs certs is anchors e h = h ∙ ap (λ (xs : List CertRow). map (λ r. (member_of r).certificate) xs ++ anchors) e
