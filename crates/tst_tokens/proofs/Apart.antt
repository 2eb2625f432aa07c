-- No bytes are both a token and a certificate, or a token and a CRL: a token begins with an OID, the others with a SEQUENCE.
use Rattle.std.proofs.Common.{◌≡◌, ℕ, List, [], Some, sym, ap, ◌∙◌, arith}
use Rattle.der_values.specs.Element.{Element}
use Rattle.der_values.specs.Rules.{nth, content_of}
use Rattle.der_values.specs.Fits.{IsObject}
use Rattle.der_values.specs.Layout.{Layout, both, element}
use Rattle.der_values.specs.declared.rules.Rule.{Rule}
use Rattle.der_values.proofs.Stands.{stands, stands_alone}
use Rattle.x509_certs.specs.Layouts.{certificate, revocation_list}
use Rattle.tst_tokens.specs.Layouts.{token}
use Rattle.tst_tokens.specs.Laws.{TokensAreApart}

-- an element with this tag is the first that the bytes' element holds
record Opens (tag : ℕ) (bytes : List ℕ) : Type 0 where
  whole : Element
  inner : Element
  at_whole : nth 0 bytes ≡ Some whole
  at_inner : nth 0 whole.content ≡ Some inner
  tag_is : inner.tag ≡ tag

opens : (tag whole_tag : ℕ) (rule whole_rule : Rule) (inner back : Layout) (bytes : List ℕ) →
    IsObject (element whole_tag whole_rule (both (element tag rule inner) back)) bytes → Opens tag bytes
opens tag whole_tag rule whole_rule inner back bytes is =
    let w = stands_alone whole_tag whole_rule (both (element tag rule inner) back) [] bytes [] is.fits in
    let i = stands tag rule inner back [] w.e.content [] w.holds in
    record { whole = w.e; inner = i.e; at_whole = w.first; at_inner = i.first; tag_is = i.tag_is }

same_tag : (m n : ℕ) (bytes : List ℕ) → Opens m bytes → Opens n bytes → m ≡ n
same_tag m n bytes a b =
    let w : a.whole ≡ b.whole = let p = a.at_whole in let q = b.at_whole in cc in
    let wc : a.whole.content ≡ b.whole.content = ap (λ (e : Element). e.content) w in
    let i : a.inner ≡ b.inner = let p = a.at_inner in let q = b.at_inner in cc in
    sym a.tag_is ∙ ap (λ (e : Element). e.tag) i ∙ b.tag_is

pub tokens_are_apart : TokensAreApart
tokens_are_apart whole is = (
  λ c. let e : 6 ≡ 48 = same_tag 6 48 whole (opens 6 _ _ _ _ _ whole is) (opens 48 _ _ _ _ _ whole c) in absurd (omega (arith, e)),
  λ l. let e : 6 ≡ 48 = same_tag 6 48 whole (opens 6 _ _ _ _ _ whole is) (opens 48 _ _ _ _ _ whole l) in absurd (omega (arith, e)),
)
