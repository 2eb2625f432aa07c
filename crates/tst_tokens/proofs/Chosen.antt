-- Layouts that let one of two things stand.
use Rattle.std.proofs.Common.{◌≡◌, ◌⊎◌, inl, inr, ℕ, Bool, true, false, List, [], ◌++◌, Option, sym, ap, subst, ◌∙◌, IsTrue}
use Rattle.std.specs.Bool.{MatchBool}
use Rattle.der_values.specs.Element.{Element}
use Rattle.der_values.specs.Fits.{Fits}
use Rattle.der_values.specs.Layout.{Layout, nothing, both, element, told, unread, whole_element}
use Rattle.der_values.specs.Rules.{allows, decides, tag_of, content_of, is_digest}
use Rattle.der_values.specs.declared.rules.Rule.{Rule}
use Rattle.der_values.specs.declared.rules.Rule.TheVariants as rules
use Rattle.der_values.specs.declared.rules.Test.TheVariants as tests
use Rattle.der_values.proofs.Stands.{stands, Stands}
use Rattle.x509_certs.specs.Signed.{part}

-- An optional element that stands, and what follows; or what follows at once.
pub stands_or_not : (tag : ℕ) (rule : Rule) (inner back : Layout) (before these after : List ℕ) → Fits (both (told (tests.Tag tag) (element tag rule inner) nothing) back) before these after
    → Stands tag rule inner back before these after ⊎ ((other : List ℕ) × Fits back other these after)
unfolding Fits
stands_or_not tag rule inner back before these after f =
    elim (decides (tests.Tag tag) before (tag_of (f.0 ++ (f.1 ++ after)))) as (λ b. MatchBool b (Fits (element tag rule inner) before f.0 (f.1 ++ after)) (Fits nothing before f.0 (f.1 ++ after)) → Stands tag rule inner back before these after ⊎ ((other : List ℕ) × Fits back other these after)) [
      | true ↦ λ g. inl (stands tag rule inner back before these after (f.0, f.1, f.2, g, f.4))
      | false ↦ λ g.
          let same : these ≡ f.1 = f.2 ∙ ap (λ (xs : List ℕ). xs ++ f.1) g in
          inr (before ++ f.0, subst (λ (xs : List ℕ). Fits back (before ++ f.0) xs after) (sym same) f.4)
    ] f.3

-- a digest is one of the three
pub digest_is : (content : List ℕ) → Fits (both (element 0x06 rules.Digest unread) (told tests.Comes whole_element nothing)) [] content [] → IsTrue (is_digest (part 0 content))
unfolding allows
digest_is content f =
    let oid = stands 0x06 rules.Digest unread _ [] content [] f in
    subst (λ (o : Option Element). IsTrue (is_digest (content_of o))) (sym oid.first) oid.meets
