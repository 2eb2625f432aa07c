-- A serial is revoked up to a moment where some entry lists it with a date up to then.
use Rattle.std.proofs.Common.{◌≡◌, ℕ, zero, suc, Bool, true, false, ◌⊎◌, List, [], ◌∷◌, ◌++◌, slice_get, map, Option, Some, None, ℤ, ◌≤ℤ◌, arith, refl, sym, ap, subst, ◌∙◌, inl, inr, ⊎_elim, true≢false, Contains, if◌then◌else◌, ◌↔◌, int_lt}
use Rattle.std.specs.Str.{bytes_eq}
use Rattle.std.proofs.lemmas.Int.{ints}
use Rattle.std.proofs.lemmas.Slice.Eq.{bytes_eq-Decides}
use Rattle.der_values.specs.Element.{Element}
use Rattle.der_values.specs.Elements.{elements}
use Rattle.x509_certs.specs.Certificates as certificates
use Rattle.x509_certs.specs.Lists as lists
use Rattle.x509_certs.specs.Signed as signed
use Rattle.acceptance.specs.Certificates.{Revoked}
use Rattle.acceptance.specs.Objects.{crl_of, revoked_of}
use Rattle.cert_paths.specs.Rows.{date_of}
use Rattle.cert_paths.specs.Status.{IsBy}
use Rattle.cert_paths.proofs.Numbers.{contains_at, contained_at, get_map, got_map}

-- the earlier of a date and another is up to a moment where one of them is
by_earlier : (at z : ℤ) (o : Option ℤ) → (IsBy at (lists.earlier (Some z) o) ↔ ((z ≤ℤ at) ⊎ IsBy at o))
by_earlier at z None = (λ h. inl h, λ h. ⊎_elim (λ p. p) (λ q. absurd q) h)
by_earlier at z (Some y) =
    elim (int_lt y z) as (λ b. int_lt y z ≡ b → (IsBy at (if b then Some y else Some z) ↔ ((z ≤ℤ at) ⊎ (y ≤ℤ at)))) [
      | true ↦ λ q. (λ h. inr h, λ h. ⊎_elim (λ p. below z y at q p) (λ p. p) h)
      | false ↦ λ q. (λ h. inl h, λ h. ⊎_elim (λ p. p) (λ p. above z y at q p) h)
    ] refl
  where
    below : (z y at : ℤ) → int_lt y z ≡ true → z ≤ℤ at → y ≤ℤ at
    below z y at q p = grind (arith, ints)

    above : (z y at : ℤ) → int_lt y z ≡ false → y ≤ℤ at → z ≤ℤ at
    above z y at q p = grind (arith, ints)

-- an element lists a serial with a date up to a moment
abbrev pub IsEntry : List ℕ → ℤ → Element → Type 0
IsEntry serial at e = (signed.part 0 e.content ≡ serial) × (lists.date_in e ≤ℤ at)

abbrev pub SomeEntry : List ℕ → ℤ → List Element → Type 0
SomeEntry serial at es = (k : ℕ) × (e : Element) × (slice_get es k ≡ Some e) × IsEntry serial at e

first_or_later : (serial : List ℕ) (at : ℤ) (e : Element) (es : List Element) → SomeEntry serial at (e ∷ es) → IsEntry serial at e ⊎ SomeEntry serial at es
first_or_later serial at e es (zero, x, is, entry) = inl (subst (IsEntry serial at) (let same : x ≡ e = cc in same) entry)
first_or_later serial at e es (suc k, x, is, entry) = inr (k, x, is, entry)

by_entries : (serial : List ℕ) (at : ℤ) (es : List Element) → (IsBy at (lists.earliest (lists.dates_of serial es)) ↔ SomeEntry serial at es)
by_entries serial at [] = (λ h. absurd h, λ h. none h)
  where
    none : SomeEntry serial at [] → ⊥
    none (k, e, is, entry) = cc
by_entries serial at (e ∷ es) =
    let rest = by_entries serial at es in
    let test = bytes_eq (signed.part 0 e.content) serial in
    elim test as (λ b. bytes_eq (signed.part 0 e.content) serial ≡ b →
    (IsBy at (lists.earliest ((if b then lists.date_in e ∷ [] else []) ++ lists.dates_of serial es)) ↔ SomeEntry serial at (e ∷ es))) [
      | true ↦ λ q.
          let named : signed.part 0 e.content ≡ serial = (bytes_eq-Decides (signed.part 0 e.content) serial).0 q in
          let both = by_earlier at (lists.date_in e) (lists.earliest (lists.dates_of serial es)) in (
            λ h. ⊎_elim (λ p. (0, e, refl, (named, p))) (λ p. let (k, x, is, entry) = rest.0 p in (suc k, x, is, entry)) (both.0 h),
            λ h. both.1 (⊎_elim (λ p. inl p.1) (λ p. inr (rest.1 p)) (first_or_later serial at e es h)),
          )
      | false ↦ λ q. (
        λ h. let (k, x, is, entry) = rest.0 h in (suc k, x, is, entry),
        λ h. ⊎_elim (λ p. absurd (true≢false (sym ((bytes_eq-Decides (signed.part 0 e.content) serial).1 p.0) ∙ q))) (λ p. rest.1 p) (first_or_later serial at e es h),
      )
    ] refl

-- the same of the record of a CRL
pub by_revoked : (serial : List ℕ) (at : ℤ) (whole : List ℕ) →
    (IsBy at (lists.revoked serial whole) ↔ ((entry : Revoked) × Contains (crl_of whole).entries entry × ((entry.serial ≡ serial) × (entry.date ≤ℤ at))))
unfolding crl_of
by_revoked serial at whole =
    let es = elements (lists.entries whole) in
    let both = by_entries serial at es in (
      λ h. let (k, e, is, entry) = both.0 h in (revoked_of e, contains_at (map revoked_of es) k (revoked_of e) (get_map revoked_of es k e is), entry),
      λ h. back both.1 h,
    )
  where
    back : (SomeEntry serial at (elements (lists.entries whole)) → IsBy at (lists.revoked serial whole)) →
        ((entry : Revoked) × Contains (map revoked_of (elements (lists.entries whole))) entry × ((entry.serial ≡ serial) × (entry.date ≤ℤ at))) → IsBy at (lists.revoked serial whole)
    back by (entry, has, (named, early)) =
        let (k, is) = contained_at (map revoked_of (elements (lists.entries whole))) entry has in
        let (e, at_e, same) = got_map revoked_of (elements (lists.entries whole)) k entry is in
        by (k, e, at_e, (ap (λ (r : Revoked). r.serial) same ∙ named, subst (λ (r : Revoked). r.date ≤ℤ at) (sym same) early))

-- a date is asked of a CRL of that name alone
date_if : (b : Bool) (at : ℤ) (date : Option ℤ) → IsBy at (if b then date else None) → IsBy at date
date_if true at date by = by
date_if false at date by = absurd by

pub by_date : (certificate list : List ℕ) (at : ℤ) → IsBy at (date_of certificate list) → IsBy at (lists.revoked (certificates.serial certificate) list)
by_date certificate list at by =
    date_if (bytes_eq (lists.list_issuer list) (certificates.issuer certificate)) at (lists.revoked (certificates.serial certificate) list) by

pub dated_by : (certificate list : List ℕ) (at : ℤ) → lists.list_issuer list ≡ certificates.issuer certificate → IsBy at (lists.revoked (certificates.serial certificate) list) →
    IsBy at (date_of certificate list)
dated_by certificate list at named by =
    let same : bytes_eq (lists.list_issuer list) (certificates.issuer certificate) ≡ true = (bytes_eq-Decides (lists.list_issuer list) (certificates.issuer certificate)).1 named in
    rw same by
