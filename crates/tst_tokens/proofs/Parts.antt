-- In a whole token the parts stand that are named.
use Rattle.std.proofs.Common.{◌≡◌, ◌⊎◌, inl, inr, ⊎_elim, ℕ, suc, ◌+◌, Bool, true, false, List, [], ◌++◌, Option, Some, None, refl, sym, ap, subst, ◌∙◌, IsSome, IsTrue, if◌then◌else◌, arith}
use Rattle.std.specs.Prelude.{◌==◌}
use Rattle.std.specs.Bool.{MatchBool}
use Rattle.std.proofs.lemmas.Bool.{eqb-true, eq-eqb, ne_eqb}
use Rattle.std.proofs.lemmas.List.{append-nil}
use Rattle.der_values.specs.Element.{Element}
use Rattle.der_values.specs.Fits.{Fits, IsObject}
use Rattle.der_values.specs.Layout.{Layout, nothing, both, element, told, unread, whole_element}
use Rattle.der_values.specs.Rules.{nth, allows, decides, tag_of, content_of, is_digest}
use Rattle.der_values.specs.Times.{seconds_of}
use Rattle.der_values.specs.declared.rules.Rule.{Rule}
use Rattle.der_values.specs.declared.rules.Rule.TheVariants as rules
use Rattle.der_values.specs.declared.rules.Test.TheVariants as tests
use Rattle.der_values.proofs.Stands.{stands, stands_alone, Stands, StandsAlone}
use Rattle.x509_certs.specs.Lists.{is_tag}
use Rattle.x509_certs.specs.Layouts.{is, holds, sequence}
use Rattle.x509_certs.specs.Signed.{part, time_of}
use Rattle.x509_certs.proofs.TimeLaws.{is_there}
use Rattle.tst_tokens.specs.Layouts as layouts
use Rattle.tst_tokens.proofs.Attributes.{AttributeParts, attribute_parts}
use Rattle.tst_tokens.proofs.Chosen.{stands_or_not, digest_is}
use Rattle.tst_tokens.specs.Laws.{PartsStand}
use Rattle.tst_tokens.specs.Tokens as tokens
use Rattle.tst_tokens.specs.Whole.{HasParts}

is_some : {A : Type 0} (o : Option A) (x : A) → o ≡ Some x → IsSome o
is_some o x is = rw is refl

-- The SET of the SignerInfo is the first, the second or the third element behind the content.
abbrev SetOf : (first second third : Option Element) → Option Element
SetOf first second third = if is_tag 0x31 first then first else if is_tag 0x31 second then second else third

abbrev IsSetOf : Layout → List ℕ → Type 0
IsSetOf inner rest = (set : Element) × (SetOf (nth 0 rest) (nth 1 rest) (nth 2 rest) ≡ Some set) × Fits inner [] set.content []

is_tagged : (tag : ℕ) (o : Option Element) (e : Element) → o ≡ Some e → e.tag ≡ tag → is_tag tag o ≡ true
is_tagged tag o e is same = rw is (eq-eqb e.tag tag same)

not_tagged : (tag : ℕ) (o : Option Element) (e : Element) → o ≡ Some e → (e.tag ≡ tag → ⊥) → is_tag tag o ≡ false
not_tagged tag o e is differs = rw is (ne_eqb e.tag tag differs)

set_first : (first second third : Option Element) (set : Element) → first ≡ Some set → set.tag ≡ 0x31 → SetOf first second third ≡ Some set
set_first first second third set is tag = let t = is_tagged 0x31 first set is tag in rw t is

set_second : (first second third : Option Element) (e set : Element) → first ≡ Some e → (e.tag ≡ 0x31 → ⊥) → second ≡ Some set → set.tag ≡ 0x31 → SetOf first second third ≡ Some set
set_second first second third e set other differs is tag =
    let t = not_tagged 0x31 first e other differs in let u = is_tagged 0x31 second set is tag in rw (t, u) is

set_third : (first second third : Option Element) (e d set : Element) → first ≡ Some e → (e.tag ≡ 0x31 → ⊥) → second ≡ Some d → (d.tag ≡ 0x31 → ⊥) → third ≡ Some set → SetOf first second third ≡ Some set
set_third first second third e d set other differs other' differs' is =
    let t = not_tagged 0x31 first e other differs in let u = not_tagged 0x31 second d other' differs' in rw (t, u) is

tag_160 : (n : ℕ) → n ≡ 160 → n ≡ 49 → ⊥
tag_160 n e f = absurd (omega (arith, e, f))

tag_161 : (n : ℕ) → n ≡ 161 → n ≡ 49 → ⊥
tag_161 n e f = absurd (omega (arith, e, f))

set_of : (rule0 rule1 : Rule) (inner0 inner1 inner : Layout) (before rest : List ℕ) →
    Fits (both (told (tests.Tag 0xA0) (element 0xA0 rule0 inner0) nothing) (both (told (tests.Tag 0xA1) (element 0xA1 rule1 inner1) nothing) (element 0x31 rules.Any inner))) before rest [] → IsSetOf inner rest
set_of rule0 rule1 inner0 inner1 inner before rest f =
    ⊎_elim
    (λ (a : Stands 0xA0 rule0 inner0 (both (told (tests.Tag 0xA1) (element 0xA1 rule1 inner1) nothing) (element 0x31 rules.Any inner)) before rest []).
    let differs = tag_160 a.e.tag a.tag_is in
    ⊎_elim
    (λ (b : Stands 0xA1 rule1 inner1 (element 0x31 rules.Any inner) (before ++ a.e.whole) a.rest []).
    let s = stands_alone 0x31 rules.Any inner _ b.rest [] b.others in
    (s.e, set_third (nth 0 rest) (nth 1 rest) (nth 2 rest) a.e b.e s.e a.first differs (a.later 0 ∙ b.first) (tag_161 b.e.tag b.tag_is) (a.later 1 ∙ b.later 0 ∙ s.first), s.holds))
    (λ b.
    let s = stands_alone 0x31 rules.Any inner _ a.rest [] b.1 in
    (s.e, set_second (nth 0 rest) (nth 1 rest) (nth 2 rest) a.e s.e a.first differs (a.later 0 ∙ s.first) s.tag_is, s.holds))
    (stands_or_not 0xA1 rule1 inner1 (element 0x31 rules.Any inner) _ a.rest [] a.others))
    (λ a.
    ⊎_elim
    (λ (b : Stands 0xA1 rule1 inner1 (element 0x31 rules.Any inner) a.0 rest []).
    let s = stands_alone 0x31 rules.Any inner _ b.rest [] b.others in
    (s.e, set_second (nth 0 rest) (nth 1 rest) (nth 2 rest) b.e s.e b.first (tag_161 b.e.tag b.tag_is) (b.later 0 ∙ s.first) s.tag_is, s.holds))
    (λ b.
    let s = stands_alone 0x31 rules.Any inner _ rest [] b.1 in
    (s.e, set_first (nth 0 rest) (nth 1 rest) (nth 2 rest) s.e s.first s.tag_is, s.holds))
    (stands_or_not 0xA1 rule1 inner1 (element 0x31 rules.Any inner) a.0 rest [] a.1))
    (stands_or_not 0xA0 rule0 inner0 (both (told (tests.Tag 0xA1) (element 0xA1 rule1 inner1) nothing) (element 0x31 rules.Any inner)) before rest [] f)

-- the content of a choice is the choice of contents
choice : (p q : Bool) (x y z : Option Element) → content_of (if p then x else if q then y else z) ≡ (if p then content_of x else if q then content_of y else content_of z)
choice true q x y z = refl
choice false true x y z = refl
choice false false x y z = refl

record SignerParts (content : List ℕ) : Type 0 where
  signed : AttributeParts (part 3 content)
  issuer : IsSome (nth 0 (part 1 content))
  serial : IsSome (nth 1 (part 1 content))
  kind : IsTrue (is_digest (part 0 (part 2 content)))
  attributes : IsSome (nth 3 content)
  algorithm : IsSome (nth 0 (part 4 content))
  signature : IsSome (nth 5 content)

some_at : (k : ℕ) (o : Option Element) (e d : Element) → o ≡ Some e → nth k e.content ≡ Some d → IsSome (nth k (content_of o))
some_at k o e d is at = rw is (is_some (nth k e.content) d at)

signer_parts : (content : List ℕ) → Fits layouts.signer_info [] content [] → SignerParts content
signer_parts content f =
    let version = stands _ _ _ _ _ _ _ f in
    let named = stands _ _ _ _ _ _ _ version.others in
    let digest = stands _ _ _ _ _ _ _ named.others in
    let attributes = stands _ _ _ _ _ _ _ digest.others in
    let algorithm = stands _ _ _ _ _ _ _ attributes.others in
    let signature = stands _ _ _ _ _ _ _ algorithm.others in
    let issuer = stands _ _ _ _ _ _ _ named.holds in
    let serial = stands_alone _ _ _ _ _ _ issuer.others in
    let oid = stands _ _ _ _ _ _ _ algorithm.holds in
    let at1 : nth 1 content ≡ Some named.e = version.later 0 ∙ named.first in
    let at2 : nth 2 content ≡ Some digest.e = version.later 1 ∙ named.later 0 ∙ digest.first in
    let at3 : nth 3 content ≡ Some attributes.e = version.later 2 ∙ named.later 1 ∙ digest.later 0 ∙ attributes.first in
    let at4 : nth 4 content ≡ Some algorithm.e = version.later 3 ∙ named.later 2 ∙ digest.later 1 ∙ attributes.later 0 ∙ algorithm.first in
    let at5 : nth 5 content ≡ Some signature.e = version.later 4 ∙ named.later 3 ∙ digest.later 2 ∙ attributes.later 1 ∙ algorithm.later 0 ∙ signature.first in
    record {
      signed = subst (λ (o : Option Element). AttributeParts (content_of o)) (sym at3) (attribute_parts attributes.e.content attributes.holds);
      issuer = some_at 0 (nth 1 content) named.e issuer.e at1 issuer.first;
      serial = some_at 1 (nth 1 content) named.e serial.e at1 (issuer.later 0 ∙ serial.first);
      kind = subst (λ (o : Option Element). IsTrue (is_digest (part 0 (content_of o)))) (sym at2) (digest_is digest.e.content digest.holds);
      attributes = is_some (nth 3 content) attributes.e at3;
      algorithm = some_at 0 (nth 4 content) algorithm.e oid.e at4 oid.first;
      signature = is_some (nth 5 content) signature.e at5;
    }

record StampParts (content : List ℕ) : Type 0 where
  kind : IsTrue (is_digest (part 0 (part 0 (part 2 content))))
  imprint : IsSome (nth 1 (part 2 content))
  time : IsSome (time_of (nth 4 content))

stamp_time : (before : List ℕ) (e : Element) → IsTrue (allows rules.StampTime before e) → IsSome (seconds_of e)
unfolding allows
stamp_time before e meets = meets

stamp_parts : (content : List ℕ) (tail : Layout)
    → Fits (both (is 0x02 (rules.Number 1)) (both (is 0x06 rules.Oid) (both (sequence (both layouts.digest (holds 0x04 unread))) (both (is 0x02 rules.Integer) (both (is 0x18 rules.StampTime) tail))))) [] content [] → StampParts content
stamp_parts content tail f =
    let version = stands _ _ _ _ _ _ _ f in
    let policy = stands _ _ _ _ _ _ _ version.others in
    let imprint = stands _ _ _ _ _ _ _ policy.others in
    let serial = stands _ _ _ _ _ _ _ imprint.others in
    let time = stands _ _ _ _ _ _ _ serial.others in
    let algorithm = stands _ _ _ _ _ _ _ imprint.holds in
    let digest = stands_alone _ _ _ _ _ _ algorithm.others in
    let at2 : nth 2 content ≡ Some imprint.e = version.later 1 ∙ policy.later 0 ∙ imprint.first in
    let at4 : nth 4 content ≡ Some time.e = version.later 3 ∙ policy.later 2 ∙ imprint.later 1 ∙ serial.later 0 ∙ time.first in
    let kind : IsTrue (is_digest (part 0 (content_of (nth 0 imprint.e.content)))) =
    subst (λ (o : Option Element). IsTrue (is_digest (part 0 (content_of o)))) (sym algorithm.first) (digest_is algorithm.e.content algorithm.holds) in
    record {
      kind = subst (λ (o : Option Element). IsTrue (is_digest (part 0 (part 0 (content_of o))))) (sym at2) kind;
      imprint = some_at 1 (nth 2 content) imprint.e digest.e at2 (algorithm.later 0 ∙ digest.first);
      time = subst (λ (o : Option Element). IsSome (time_of o)) (sym at4) (stamp_time _ time.e time.meets);
    }

-- What SignedData holds, and the SET of the SignerInfo in it.
record SignedParts (content : List ℕ) : Type 0 where
  octets : Element
  stamp : Element
  info : Element
  octets_at : nth 0 (part 1 (part 2 content)) ≡ Some octets
  stamp_at : nth 0 octets.content ≡ Some stamp
  stamped : StampParts stamp.content
  info_at : nth 0 (if is_tag 0x31 (nth 3 content) then part 3 content else if is_tag 0x31 (nth 4 content) then part 4 content else part 5 content) ≡ Some info
  signer : SignerParts info.content

same_set : (a b c a' b' c' : Option Element) (set : Element) → a ≡ a' → b ≡ b' → c ≡ c' → SetOf a' b' c' ≡ Some set
    → (if is_tag 0x31 a then content_of a else if is_tag 0x31 b then content_of b else content_of c) ≡ set.content
same_set a b c a' b' c' set ea eb ec found =
    let chosen : SetOf a b c ≡ Some set = rw (ea, eb, ec) found in
    sym (choice (is_tag 0x31 a) (is_tag 0x31 b) a b c) ∙ ap content_of chosen

signed_parts : (content : List ℕ) → Fits layouts.signed_data [] content [] → SignedParts content
signed_parts content f =
    let version = stands _ _ _ _ _ _ _ f in
    let algorithms = stands _ _ _ _ _ _ _ version.others in
    let inside = stands _ _ _ _ _ _ _ algorithms.others in
    let type = stands _ _ _ _ _ _ _ inside.holds in
    let explicit = stands_alone _ _ _ _ _ _ type.others in
    let octets = stands_alone _ _ _ _ _ _ explicit.holds in
    let stamp = stands_alone _ _ _ _ _ _ octets.holds in
    let set = set_of _ _ _ _ _ _ _ inside.others in
    let info = stands_alone _ _ _ _ _ _ set.2 in
    let at2 : nth 2 content ≡ Some inside.e = version.later 1 ∙ algorithms.later 0 ∙ inside.first in
    let at_explicit : nth 1 inside.e.content ≡ Some explicit.e = type.later 0 ∙ explicit.first in
    let explicit_is : part 1 (part 2 content) ≡ explicit.e.content = ap (λ (o : Option Element). part 1 (content_of o)) at2 ∙ ap content_of at_explicit in
    let at : (k : ℕ) → nth (3 + k) content ≡ nth k inside.rest = λ k. let e : 3 + k ≡ suc (suc (suc k)) = omega arith in rw e (version.later (suc (suc k)) ∙ algorithms.later (suc k) ∙ inside.later k) in
    let set_is = same_set (nth 3 content) (nth 4 content) (nth 5 content) _ _ _ set.0 (at 0) (at 1) (at 2) set.1 in
    record {
      octets = octets.e;
      stamp = stamp.e;
      info = info.e;
      octets_at = ap (nth 0) explicit_is ∙ octets.first;
      stamp_at = stamp.first;
      stamped = stamp_parts stamp.e.content _ stamp.holds;
      info_at = ap (nth 0) set_is ∙ info.first;
      signer = signer_parts info.e.content info.holds;
    }

signed_data_is : (whole : List ℕ) → IsObject layouts.token whole → (content : List ℕ) × (tokens.signed_data whole ≡ content) × Fits layouts.signed_data [] content []
signed_data_is whole is =
    let outer = stands_alone _ _ _ _ _ _ is.fits in
    let type = stands _ _ _ _ _ _ _ outer.holds in
    let explicit = stands_alone _ _ _ _ _ _ type.others in
    let parts = stands_alone _ _ _ _ _ _ explicit.holds in
    let at_explicit : nth 1 outer.e.content ≡ Some explicit.e = type.later 0 ∙ explicit.first in (
      parts.e.content,
      ap (λ (o : Option Element). part 0 (part 1 (content_of o))) outer.first ∙ ap (λ (o : Option Element). part 0 (content_of o)) at_explicit ∙ ap content_of parts.first,
      parts.holds,
    )

pub parts_stand : PartsStand
parts_stand whole is =
    let (content, same, fits) = signed_data_is whole is in
    let parts : SignedParts (tokens.signed_data whole) = subst SignedParts (sym same) (signed_parts content fits) in
    let octets_are : tokens.content_octets whole ≡ parts.octets.content = ap content_of parts.octets_at in
    let stamp_is : tokens.stamp_info whole ≡ parts.stamp.content = ap (λ (xs : List ℕ). part 0 xs) octets_are ∙ ap content_of parts.stamp_at in
    let info_is : tokens.signer_info whole ≡ parts.info.content = ap content_of parts.info_at in
    let stamped : StampParts (tokens.stamp_info whole) = subst StampParts (sym stamp_is) parts.stamped in
    let signer : SignerParts (tokens.signer_info whole) = subst SignerParts (sym info_is) parts.signer in
    record {
      content = is_some _ parts.octets parts.octets_at;
      stamp = is_some _ parts.stamp (ap (nth 0) octets_are ∙ parts.stamp_at);
      imprint_kind = stamped.kind;
      imprint = stamped.imprint;
      time = is_there _ stamped.time;
      signer_issuer = signer.issuer;
      signer_serial = signer.serial;
      content_kind = signer.kind;
      attributes = signer.attributes;
      algorithm = signer.algorithm;
      signature = signer.signature;
      message_digest = signer.signed.message_digest;
      cert_hash = signer.signed.certificate_id.hash;
      cert_hash_kind = signer.signed.certificate_id.kind;
    }
