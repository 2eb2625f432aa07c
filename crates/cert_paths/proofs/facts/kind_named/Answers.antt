use Rattle.std.proofs.Common.{◌≡◌, ℕ, List, Option, Some, None, true, false, sym, ◌∙◌, ap, if◌then◌else◌, refl, true≢false, IfSome}
use Rattle.std.specs.Str.{bytes_eq}
use Rattle.std.proofs.lemmas.Slice.Eq.{bytes_eq-Decides}
use Rattle.algorithms.specs.SignatureKind.{oid_of}
use Rattle.algorithms.specs.declared.signature_kinds.SignatureKind.{SignatureKind}
use Rattle.algorithms.specs.declared.signature_kinds.SignatureKind.TheVariants.{Hss, Xmss, XmssMt}
use Rattle.acceptance.specs.Objects as says
use Rattle.cert_paths.proofs.facts.kind_named.Goals as goal

-- what names a kind by each OID, and by no other
named : (oid : List ℕ) (r : Option SignatureKind) → ((kind : SignatureKind) → oid ≡ oid_of kind → r ≡ Some kind) → ((kind : SignatureKind) → r ≡ Some kind → oid ≡ oid_of kind) →
    r ≡ (if bytes_eq oid (oid_of Hss) then Some Hss else if bytes_eq oid (oid_of Xmss) then Some Xmss else if bytes_eq oid (oid_of XmssMt) then Some XmssMt else None)
named oid r each only =
    elim (bytes_eq oid (oid_of Hss)) as (λ b. bytes_eq oid (oid_of Hss) ≡ b → r ≡ (if b then Some Hss else if bytes_eq oid (oid_of Xmss) then Some Xmss else if bytes_eq oid (oid_of XmssMt) then Some XmssMt else None)) [
      | true ↦ λ q. each Hss ((bytes_eq-Decides oid (oid_of Hss)).0 q)
      | false ↦ λ q.
          elim (bytes_eq oid (oid_of Xmss)) as (λ b. bytes_eq oid (oid_of Xmss) ≡ b → r ≡ (if b then Some Xmss else if bytes_eq oid (oid_of XmssMt) then Some XmssMt else None)) [
            | true ↦ λ p. each Xmss ((bytes_eq-Decides oid (oid_of Xmss)).0 p)
            | false ↦ λ p.
                elim (bytes_eq oid (oid_of XmssMt)) as (λ b. bytes_eq oid (oid_of XmssMt) ≡ b → r ≡ (if b then Some XmssMt else None)) [
                  | true ↦ λ o. each XmssMt ((bytes_eq-Decides oid (oid_of XmssMt)).0 o)
                  | false ↦ λ o. none r only q p o
                ] refl
          ] refl
    ] refl
  where
    none : (r : Option SignatureKind) → ((kind : SignatureKind) → r ≡ Some kind → oid ≡ oid_of kind) → bytes_eq oid (oid_of Hss) ≡ false → bytes_eq oid (oid_of Xmss) ≡ false → bytes_eq oid (oid_of XmssMt) ≡ false → r ≡ None
    none None only q p o = refl
    none (Some Hss) only q p o = absurd (true≢false (sym ((bytes_eq-Decides oid (oid_of Hss)).1 (only Hss refl)) ∙ q))
    none (Some Xmss) only q p o = absurd (true≢false (sym ((bytes_eq-Decides oid (oid_of Xmss)).1 (only Xmss refl)) ∙ p))
    none (Some XmssMt) only q p o = absurd (true≢false (sym ((bytes_eq-Decides oid (oid_of XmssMt)).1 (only XmssMt refl)) ∙ o))

only_named : (oid : List ℕ) (r : Option SignatureKind) → IfSome r (λ kind. oid ≡ oid_of kind) → (kind : SignatureKind) → r ≡ Some kind → oid ≡ oid_of kind
only_named oid None h kind e = cc
only_named oid (Some k) h kind e = let same : k ≡ kind = cc in h ∙ ap oid_of same

pub returns : goal.returns
unfolding says.kind_named
returns c = named c.args.oid.now c.of_oid.result c.of_oid.ensures.each (only_named c.args.oid.now c.of_oid.result c.of_oid.ensures.named)
