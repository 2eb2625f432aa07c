-- No bytes are both a certificate and a CRL.
use Rattle.std.proofs.Common.{◌≡◌, ℕ, List, [], Some, sym, ap, ◌∙◌, arith}
use Rattle.der_values.specs.Element.{Element}
use Rattle.der_values.specs.Fits.{Fits, IsObject}
use Rattle.der_values.specs.Layout.{Layout, both, element}
use Rattle.der_values.specs.Rules.{nth}
use Rattle.der_values.specs.declared.rules.Rule.{Rule}
use Rattle.der_values.specs.declared.rules.Rule.TheVariants as rules
use Rattle.der_values.proofs.Stands.{stands, stands_alone}
use Rattle.x509_certs.specs.Layouts.{certificate, revocation_list}

-- an element with this tag is the first of the first of what the bytes hold
pub record Begins (tag : ℕ) (bytes : List ℕ) : Type 0 where
  pub whole : Element
  pub signed : Element
  pub inner : Element
  pub at_whole : nth 0 bytes ≡ Some whole
  pub at_signed : nth 0 whole.content ≡ Some signed
  pub at_inner : nth 0 signed.content ≡ Some inner
  pub tag_is : inner.tag ≡ tag

pub begins : (tag : ℕ) (rule : Rule) (inner back behind : Layout) (bytes : List ℕ) →
    Fits (element 0x30 rules.Any (both (element 0x30 rules.Any (both (element tag rule inner) back)) behind)) [] bytes [] → Begins tag bytes
begins tag rule inner back behind bytes fits =
    let w = stands_alone 0x30 rules.Any (both (element 0x30 rules.Any (both (element tag rule inner) back)) behind) [] bytes [] fits in
    let s = stands 0x30 rules.Any (both (element tag rule inner) back) behind [] w.e.content [] w.holds in
    let i = stands tag rule inner back [] s.e.content [] s.holds in
    record { whole = w.e; signed = s.e; inner = i.e; at_whole = w.first; at_signed = s.first; at_inner = i.first; tag_is = i.tag_is }

same_tag : (m n : ℕ) (bytes : List ℕ) → Begins m bytes → Begins n bytes → m ≡ n
same_tag m n bytes a b =
    let w : a.whole ≡ b.whole = let p = a.at_whole in let q = b.at_whole in cc in
    let wc : a.whole.content ≡ b.whole.content = ap (λ (e : Element). e.content) w in
    let s : a.signed ≡ b.signed = let p = a.at_signed in let q = b.at_signed in cc in
    let sc : a.signed.content ≡ b.signed.content = ap (λ (e : Element). e.content) s in
    let i : a.inner ≡ b.inner = let p = a.at_inner in let q = b.at_inner in cc in
    sym a.tag_is ∙ ap (λ (e : Element). e.tag) i ∙ b.tag_is

pub not_both : (bytes : List ℕ) → IsObject certificate bytes → IsObject revocation_list bytes → ⊥
not_both bytes c l =
    let e : 160 ≡ 2 = same_tag 160 2 bytes (begins 0xA0 rules.Any _ _ _ bytes c.fits) (begins 0x02 (rules.Number 1) _ _ _ bytes l.fits) in
    absurd (omega (arith, e))
