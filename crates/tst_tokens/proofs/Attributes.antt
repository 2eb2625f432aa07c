-- In a whole token the signed attributes stand that have to, with the values that are named.
use Rattle.std.proofs.Common.{◌≡◌, ◌⊎◌, inl, inr, ⊎_elim, ℕ, Bool, true, false, List, [], ◌∷◌, ◌++◌, Option, Some, None, refl, sym, ap, subst, ◌∙◌, IsSome, IsTrue, if◌then◌else◌, length, arith, true≢false}
use Rattle.std.specs.Prelude.{◌==◌, ◌||◌, find}
use Rattle.std.specs.Bool.{MatchBool}
use Rattle.std.specs.List.{list_any, concat}
use Rattle.std.specs.Str.{bytes_eq}
use Rattle.std.proofs.lemmas.Bool.{eq-eqb, ne_eqb}
use Rattle.std.proofs.lemmas.List.{append-nil, length-append}
use Rattle.std.proofs.lemmas.Slice.Eq.{bytes_eq-Decides}
use Rattle.std.proofs.Math.Seq.{drop-append_seam}
use Rattle.der_values.specs.Element.{Element, elements}
use Rattle.der_values.specs.Elements.{first_named, tagged}
use Rattle.der_values.specs.Fits.{Fits, Each, IsElement}
use Rattle.der_values.specs.Layout.{Layout, nothing, both, element, told, unread, whole_element, many}
use Rattle.der_values.specs.Rules.{nth, decides, tag_of, content_of, is_digest, name_in, has_named, bytes_of}
use Rattle.der_values.specs.declared.oids.KnownOid.{KnownOid}
use Rattle.der_values.specs.declared.oids.KnownOid.TheVariants as oids
use Rattle.der_values.specs.declared.rules.Rule.{Rule}
use Rattle.der_values.specs.declared.rules.Rule.TheVariants as rules
use Rattle.der_values.specs.declared.rules.Test.TheVariants as tests
use Rattle.der_values.proofs.ElementLaws.{element_again}
use Rattle.der_values.proofs.Stands.{stands, stands_alone, Stands, StandsAlone, nth_first}
use Rattle.der_values.proofs.Steps.{elements_step, elements_nil, not_empty}
use Rattle.x509_certs.specs.Layouts.{is}
use Rattle.x509_certs.specs.Lists.{is_tag}
use Rattle.x509_certs.specs.Signed.{part}
use Rattle.tst_tokens.specs.Layouts as layouts
use Rattle.tst_tokens.proofs.Chosen.{stands_or_not, digest_is}

-- what some test finds
any_found : (p : Element → Bool) (xs : List Element) → list_any p xs ≡ true → (e : Element) × (find p xs ≡ Some e)
any_found p [] h = absurd (true≢false (sym h))
any_found p (x ∷ xs) h =
    elim (p x) as (λ b. (b || list_any p xs) ≡ true → (e : Element) × ((if b then Some x else find p xs) ≡ Some e)) [
      | true ↦ λ _. (x, refl)
      | false ↦ λ i. any_found p xs i
    ] h

-- what an element of a list of elements with one layout holds
record Held (inner : Layout) (p : Element → Bool) (e : Element) : Type 0 where
  fits : Fits inner [] e.content []
  passes : p e ≡ true

first_element : (e : Element) (rest : List ℕ) → IsElement e → elements (e.whole ++ rest) ≡ e ∷ elements rest
first_element e rest is = elements_step (e.whole ++ rest) e (element_again e rest is) ∙ ap (λ (xs : List ℕ). e ∷ elements xs) (drop-append_seam e.whole rest)

found_held : (tag : ℕ) (rule : Rule) (inner : Layout) (p : Element → Bool) (before : List ℕ) (pieces : List (List ℕ)) (e : Element) →
    Each (Fits (element tag rule inner)) before pieces → find p (elements (concat pieces)) ≡ Some e → Held inner p e
found_held tag rule inner p before [] e each found = let none : find p (elements []) ≡ None = ap (find p) elements_nil in cc
found_held tag rule inner p before (piece ∷ pieces) e each found =
    let s = stands_alone tag rule inner before piece (concat pieces) each.1 in
    let split : elements (piece ++ concat pieces) ≡ s.e ∷ elements (concat pieces) = ap (λ (xs : List ℕ). elements (xs ++ concat pieces)) s.all ∙ first_element s.e (concat pieces) s.is_element in
    let here : find p (s.e ∷ elements (concat pieces)) ≡ Some e = sym (ap (find p) split) ∙ found in
    elim (p s.e) as (λ b. p s.e ≡ b → (if b then Some s.e else find p (elements (concat pieces))) ≡ Some e → Held inner p e) [
      | true ↦ λ q f. let same : s.e ≡ e = cc in subst (Held inner p) same (record { fits = s.holds; passes = q })
      | false ↦ λ q f. found_held tag rule inner p (before ++ piece) pieces e each.2 f
    ] refl here

-- where nothing is left an element doesn't stand
no_element : (before after : List ℕ) → Fits whole_element before [] after → ⊥
unfolding Fits
no_element before after f =
    let e = f.0 in
    let some = not_empty (e.whole ++ []) e (element_again e [] f.1) in
    absurd (omega (arith, ap length f.2))

has_to_stand : (name : KnownOid) (before after : List ℕ) → Fits (told (tests.Has name) nothing whole_element) before [] after → has_named (bytes_of name) before ≡ true
unfolding Fits decides
has_to_stand name before after f =
    elim (has_named (bytes_of name) before) as (λ b. MatchBool b (Fits nothing before [] after) (Fits whole_element before [] after) → b ≡ true) [
      | true ↦ λ _. refl
      | false ↦ λ g. absurd (no_element before after g)
    ] f

-- The three attributes stand among these.
record AreThere (content : List ℕ) : Type 0 where
  digest : has_named (bytes_of oids.MessageDigest) content ≡ true
  certificate : has_named (bytes_of oids.SigningCertificate) content ≡ true
  pieces : List (List ℕ)
  all : content ≡ concat pieces
  each : Each (Fits (element 0x30 rules.RequiredOnce (both (is 0x06 rules.Oid) layouts.attribute_values))) [] pieces

nothing_left : (xs ys : List ℕ) → xs ++ ys ≡ [] → (xs ≡ []) × (ys ≡ [])
nothing_left [] ys h = (refl, h)
nothing_left (x ∷ xs) ys h = absurd cc

are_there : (content : List ℕ) → Fits layouts.attributes [] content [] → AreThere content
unfolding Fits
are_there content f =
    let listed = f.3 in
    let rest = f.4 in
    let none : f.1 ≡ [] = (nothing_left f.1 [] listed.0).0 in
    let first_second = nothing_left rest.0 rest.1 (sym rest.2 ∙ none) in
    let second = rest.4 in
    let second_third = nothing_left second.0 second.1 (sym second.2 ∙ first_second.1) in
    let all : f.0 ≡ content = sym (append-nil f.0) ∙ ap (λ (xs : List ℕ). f.0 ++ xs) (sym none) ∙ sym f.2 in
    let nil : (xs : List ℕ) → xs ++ [] ≡ xs = λ (xs : List ℕ). append-nil xs in
    let second_before : ([] ++ f.0) ++ rest.0 ≡ content = ap (λ (xs : List ℕ). f.0 ++ xs) first_second.0 ∙ append-nil f.0 ∙ all in
    let third_before : (([] ++ f.0) ++ rest.0) ++ second.0 ≡ content = ap (λ (xs : List ℕ). (f.0 ++ rest.0) ++ xs) second_third.0 ∙ append-nil (f.0 ++ rest.0) ∙ second_before in
    let digest : Fits (told (tests.Has oids.MessageDigest) nothing whole_element) content [] (second.1 ++ []) =
    subst (λ (xs : List ℕ). Fits (told (tests.Has oids.MessageDigest) nothing whole_element) xs [] (second.1 ++ [])) second_before
    (subst (λ (xs : List ℕ). Fits (told (tests.Has oids.MessageDigest) nothing whole_element) (([] ++ f.0) ++ rest.0) xs (second.1 ++ [])) second_third.0 second.3) in
    let certificate : Fits (told (tests.Has oids.SigningCertificate) nothing whole_element) content [] [] =
    subst (λ (xs : List ℕ). Fits (told (tests.Has oids.SigningCertificate) nothing whole_element) xs [] []) third_before
    (subst (λ (xs : List ℕ). Fits (told (tests.Has oids.SigningCertificate) nothing whole_element) ((([] ++ f.0) ++ rest.0) ++ second.0) xs []) second_third.1 second.4) in
    record {
      digest = has_to_stand oids.MessageDigest content (second.1 ++ []) digest;
      certificate = has_to_stand oids.SigningCertificate content [] certificate;
      pieces = listed.1;
      all = sym all ∙ listed.2;
      each = listed.3;
    }

abbrev Attribute : Layout
Attribute = both (is 0x06 rules.Oid) layouts.attribute_values

abbrev IsNamed : KnownOid → Element → Bool
IsNamed name e = bytes_eq (name_in e) (bytes_of name)

named : (name : KnownOid) (content : List ℕ) → AreThere content → has_named (bytes_of name) content ≡ true → (e : Element) × (first_named (bytes_of name) content ≡ Some e) × Held Attribute (IsNamed name) e
named name content there has =
    let (e, found) = any_found (IsNamed name) (elements content) has in
    (e, found, found_held 0x30 rules.RequiredOnce Attribute (IsNamed name) [] there.pieces e there.each (ap (λ (xs : List ℕ). find (IsNamed name) (elements xs)) (sym there.all) ∙ found))

told_first : (name : KnownOid) (a b : Layout) (before these after : List ℕ) → ((tag : Option ℕ) → decides (tests.FirstIs name) before tag ≡ true) → Fits (told (tests.FirstIs name) a b) before these after → Fits a before these after
unfolding Fits
told_first name a b before these after is f =
    let P : Bool → Type 0 = λ t. MatchBool t (Fits a before these after) (Fits b before these after) in
    subst P (is (tag_of (these ++ after))) f

told_second : (name : KnownOid) (a b : Layout) (before these after : List ℕ) → ((tag : Option ℕ) → decides (tests.FirstIs name) before tag ≡ false) → Fits (told (tests.FirstIs name) a b) before these after → Fits b before these after
unfolding Fits
told_second name a b before these after is f =
    let P : Bool → Type 0 = λ t. MatchBool t (Fits a before these after) (Fits b before these after) in
    subst P (is (tag_of (these ++ after))) f

decided : (n m : KnownOid) (before : List ℕ) → content_of (nth 0 before) ≡ bytes_of n → (tag : Option ℕ) → decides (tests.FirstIs m) before tag ≡ bytes_eq (bytes_of n) (bytes_of m)
unfolding decides
decided n m before is tag = ap (λ (xs : List ℕ). bytes_eq xs (bytes_of m)) is

-- The OID of an attribute, and the values behind it.
record Values (name : KnownOid) (content : List ℕ) : Type 0 where
  oid : Element
  rest : List ℕ
  is : content_of (nth 0 oid.whole) ≡ bytes_of name
  fits : Fits layouts.attribute_values oid.whole rest []
  later : nth 1 content ≡ nth 0 rest

values_of : (name : KnownOid) (e : Element) → Held Attribute (IsNamed name) e → Values name e.content
values_of name e held =
    let oid = stands _ _ _ _ _ _ _ held.fits in
    let named : name_in e ≡ bytes_of name = (bytes_eq-Decides (name_in e) (bytes_of name)).0 held.passes in
    let here : content_of (nth 0 oid.e.whole) ≡ oid.e.content = ap content_of (ap (nth 0) (sym (append-nil oid.e.whole)) ∙ nth_first oid.e [] oid.is_element) in
    record {
      oid = oid.e;
      rest = oid.rest;
      is = here ∙ sym (ap content_of oid.first) ∙ named;
      fits = oid.others;
      later = oid.later 0;
    }

value_stands : (k : ℕ) (o : Option Element) (set inner : Element) → o ≡ Some set → nth k set.content ≡ Some inner → IsSome (nth k (content_of o))
value_stands k o set inner is at = rw (is, at) refl

digest_value : (e : Element) → Held Attribute (IsNamed oids.MessageDigest) e → IsSome (nth 0 (part 1 e.content))
digest_value e held =
    let v = values_of oids.MessageDigest e held in
    let second = told_second oids.ContentType _ _ v.oid.whole v.rest [] (decided oids.MessageDigest oids.ContentType v.oid.whole v.is) v.fits in
    let value = told_first oids.MessageDigest _ _ v.oid.whole v.rest [] (decided oids.MessageDigest oids.MessageDigest v.oid.whole v.is) second in
    let set = stands_alone _ _ _ _ _ _ value in
    let octets = stands_alone _ _ _ _ _ _ set.holds in
    value_stands 0 (nth 1 e.content) set.e octets.e (v.later ∙ set.first) octets.first

with_tag : (e : Element) (es : List Element) → e.tag ≡ 4 → find (λ (x : Element). x.tag == 4) (e ∷ es) ≡ Some e
with_tag e es is = let t : (e.tag == 4) ≡ true = eq-eqb e.tag 4 is in rw t refl

past_tag : (e d : Element) (es : List Element) → e.tag ≡ 48 → d.tag ≡ 4 → find (λ (x : Element). x.tag == 4) (e ∷ d ∷ es) ≡ Some d
past_tag e d es other is = let t : (e.tag == 4) ≡ false = ne_eqb e.tag 4 (λ f. absurd (omega arith)) in rw t (with_tag d es is)

-- A content that begins with these elements has them first.
elements_of : (content : List ℕ) (e : Element) (rest : List ℕ) → IsElement e → content ≡ e.whole ++ rest → elements content ≡ e ∷ elements rest
elements_of content e rest is split = ap elements split ∙ first_element e rest is

-- What an ESSCertIDv2 has: a hash, and a digest algorithm that is one of the three where one stands.
pub record IdParts (content : List ℕ) : Type 0 where
  pub hash : IsSome (tagged 0x04 content)
  pub kind : IsTrue (is_tag 0x30 (nth 0 content)) → IsTrue (is_digest (part 0 (part 0 content)))

some_element : (o : Option Element) (e : Element) → o ≡ Some e → IsSome o
some_element o e is = rw is refl

no_digest : (content : List ℕ) (e : Element) → nth 0 content ≡ Some e → e.tag ≡ 4 → IsTrue (is_tag 0x30 (nth 0 content)) → ⊥
no_digest content e at is h =
    let P : Option Element → Type 0 = λ o. IsTrue (is_tag 0x30 o) in
    let here : (e.tag == 48) ≡ true = subst P at h in
    let differs : (e.tag == 48) ≡ false = ne_eqb e.tag 48 (λ f. absurd (omega arith)) in
    true≢false (sym here ∙ differs)

id_parts : (tail : Layout) (content : List ℕ) →
    Fits (both (told (tests.Tag 0x30) layouts.digest nothing) (both (element 0x04 rules.Any unread) tail)) [] content [] → IdParts content
id_parts tail content f =
    ⊎_elim
    (λ (d : Stands 0x30 rules.Any (both (is 0x06 rules.Digest) (told tests.Comes whole_element nothing)) (both (element 0x04 rules.Any unread) tail) [] content []).
    let h = stands 0x04 rules.Any unread tail _ d.rest [] d.others in
    let all : elements content ≡ d.e ∷ h.e ∷ elements h.rest =
    elements_of content d.e d.rest d.is_element d.split ∙ ap (λ (es : List Element). d.e ∷ es) (elements_of d.rest h.e h.rest h.is_element h.split) in
    record {
      hash = some_element _ h.e (ap (find (λ (x : Element). x.tag == 4)) all ∙ past_tag d.e h.e (elements h.rest) d.tag_is h.tag_is);
      kind = λ _. subst (λ (o : Option Element). IsTrue (is_digest (part 0 (content_of o)))) (sym d.first) (digest_is d.e.content d.holds);
    })
    (λ g.
    let h = stands 0x04 rules.Any unread tail g.0 content [] g.1 in
    record {
      hash = some_element _ h.e (ap (find (λ (x : Element). x.tag == 4)) (elements_of content h.e h.rest h.is_element h.split) ∙ with_tag h.e (elements h.rest) h.tag_is);
      kind = λ t. absurd (no_digest content h.e h.first h.tag_is t);
    })
    (stands_or_not 0x30 rules.Any (both (is 0x06 rules.Digest) (told tests.Comes whole_element nothing)) (both (element 0x04 rules.Any unread) tail) [] content [] f)

-- the first ESSCertIDv2 of the attribute's value
abbrev pub id_in : Option Element → List ℕ
id_in attribute = part 0 (part 0 (part 0 (part 1 (content_of attribute))))

id_value : (e : Element) → Held Attribute (IsNamed oids.SigningCertificate) e → (content : List ℕ) × (part 0 (part 0 (part 0 (part 1 e.content))) ≡ content) × IdParts content
id_value e held =
    let v = values_of oids.SigningCertificate e held in
    let second = told_second oids.ContentType _ _ v.oid.whole v.rest [] (decided oids.SigningCertificate oids.ContentType v.oid.whole v.is) v.fits in
    let third = told_second oids.MessageDigest _ _ v.oid.whole v.rest [] (decided oids.SigningCertificate oids.MessageDigest v.oid.whole v.is) second in
    let value = told_first oids.SigningCertificate _ _ v.oid.whole v.rest [] (decided oids.SigningCertificate oids.SigningCertificate v.oid.whole v.is) third in
    let set = stands_alone _ _ _ _ _ _ value in
    let signing = stands_alone _ _ _ _ _ _ set.holds in
    let ids = stands _ _ _ _ _ _ _ signing.holds in
    let id = stands _ _ _ _ _ _ _ ids.holds in (
      id.e.content,
      ap (λ (o : Option Element). part 0 (part 0 (part 0 (content_of o)))) (v.later ∙ set.first)
          ∙ ap (λ (o : Option Element). part 0 (part 0 (content_of o))) signing.first
          ∙ ap (λ (o : Option Element). part 0 (content_of o)) ids.first
          ∙ ap content_of id.first,
      id_parts _ id.e.content id.holds,
    )

-- What signed attributes have.
pub record AttributeParts (content : List ℕ) : Type 0 where
  pub message_digest : IsSome (nth 0 (part 1 (content_of (first_named (bytes_of oids.MessageDigest) content))))
  pub certificate_id : IdParts (id_in (first_named (bytes_of oids.SigningCertificate) content))

pub attribute_parts : (content : List ℕ) → Fits layouts.attributes [] content [] → AttributeParts content
attribute_parts content fits =
    let there = are_there content fits in
    let (digest, digest_at, digest_held) = named oids.MessageDigest content there there.digest in
    let (signing, signing_at, signing_held) = named oids.SigningCertificate content there there.certificate in
    let (id, id_is, parts) = id_value signing signing_held in
    record {
      message_digest = subst (λ (o : Option Element). IsSome (nth 0 (part 1 (content_of o)))) (sym digest_at) (digest_value digest digest_held);
      certificate_id = subst (λ (o : Option Element). IdParts (id_in o)) (sym signing_at) (subst IdParts (sym id_is) parts);
    }
