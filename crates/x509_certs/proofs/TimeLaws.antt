-- Of what reads as a certificate or a CRL the times that have to stand do.
use Rattle.std.proofs.Common.{◌≡◌, ℕ, ℤ, Bool, true, false, cond, List, [], ◌++◌, Option, Some, None, refl, sym, ap, subst, ◌∙◌, IsSome}
use Rattle.std.specs.Prelude.{◌==◌, length}
use Rattle.std.specs.Bool.{MatchBool}
use Rattle.std.proofs.lemmas.List.{append-nil}
use Rattle.der_values.specs.Element.{Element}
use Rattle.der_values.specs.Rules.{nth, allows, decides, content_of, tag_of}
use Rattle.der_values.specs.declared.rules.Rule.TheVariants as rules
use Rattle.der_values.specs.declared.rules.Test.TheVariants as tests
use Rattle.der_values.specs.Times.{seconds_of, plain_seconds_of}
use Rattle.der_values.specs.Layout.{Layout, both, element, unread}
use Rattle.der_values.specs.Fits.{Fits, IsElement, IsObject}
use Rattle.der_values.proofs.Stands.{stands, stands_alone, nth_first, nth_later}
use Rattle.x509_certs.specs.Layouts.{certificate, revocation_list, time}
use Rattle.x509_certs.specs.Signed.{part, fields, time_of, or_0}
use Rattle.x509_certs.specs.Certificates.{HasTimes}
use Rattle.x509_certs.specs.Lists.{HasUpdate}

pick_some : (p q : Bool) (o : Option ℤ) → IsSome (cond p (cond q o None) o) → IsSome o
pick_some true true o some = some
pick_some true false o some = absurd cc
pick_some false q o some = some

plain_is_time : (e : Element) → IsSome (plain_seconds_of e) → IsSome (seconds_of e)
unfolding plain_seconds_of
plain_is_time e some = pick_some (e.tag == 24) (length e.content == 15) (seconds_of e) some

time_element : (tag : ℕ) (before these after : List ℕ) → Fits (element tag rules.Time unread) before these after → (e : Element) × IsElement e × (these ≡ e.whole) × IsSome (seconds_of e)
unfolding allows
time_element tag before these after f =
    let k = stands_alone tag rules.Time unread before these after f in
    (k.e, k.is_element, k.all, plain_is_time k.e k.meets)

time_stands : (before these after : List ℕ) → Fits time before these after → (e : Element) × IsElement e × (these ≡ e.whole) × IsSome (seconds_of e)
unfolding Fits
time_stands before these after f =
    elim (decides (tests.Tag 0x17) before (tag_of (these ++ after))) as (λ b. MatchBool b (Fits (element 0x17 rules.Time unread) before these after) (Fits (element 0x18 rules.Time unread) before these after) → (e : Element) × IsElement e × (these ≡ e.whole) × IsSome (seconds_of e)) [
      | true ↦ λ g. time_element 0x17 before these after g
      | false ↦ λ g. time_element 0x18 before these after g
    ] f

-- a time that is there isn't replaced
pub is_there : (o : Option ℤ) → IsSome o → Some (or_0 o) ≡ o
is_there None some = absurd cc
is_there (Some z) some = refl

-- Two times, one after another.
two_times : (content : List ℕ) → Fits (both time time) [] content [] → IsSome (time_of (nth 0 content)) × IsSome (time_of (nth 1 content))
unfolding Fits
two_times content f =
    let one = time_stands [] f.0 (f.1 ++ []) f.3 in
    let two = time_stands ([] ++ f.0) f.1 [] f.4 in
    let split : content ≡ one.0.whole ++ f.1 = f.2 ∙ ap (λ (xs : List ℕ). xs ++ f.1) one.2 in
    let first : nth 0 content ≡ Some one.0 = ap (nth 0) split ∙ nth_first one.0 f.1 one.1 in
    let second : nth 1 content ≡ Some two.0 =
    ap (nth 1) split ∙ nth_later one.0 f.1 0 one.1 ∙ ap (nth 0) (two.2 ∙ sym (append-nil two.0.whole)) ∙ nth_first two.0 [] two.1 in
    (subst (λ (o : Option Element). IsSome (time_of o)) (sym first) one.3, subst (λ (o : Option Element). IsSome (time_of o)) (sym second) two.3)

validity : (bytes : List ℕ) → IsObject certificate bytes → (content : List ℕ) × (part 4 (fields bytes) ≡ content) × Fits (both time time) [] content []
validity bytes is =
    let whole = stands_alone _ _ _ _ _ _ is.fits in
    let tbs = stands _ _ _ _ _ _ _ whole.holds in
    let version = stands _ _ _ _ _ _ _ tbs.holds in
    let serial = stands _ _ _ _ _ _ _ version.others in
    let algorithm = stands _ _ _ _ _ _ _ serial.others in
    let issuer = stands _ _ _ _ _ _ _ algorithm.others in
    let valid = stands _ _ _ _ _ _ _ issuer.others in
    let fields_are : fields bytes ≡ tbs.e.content = ap (λ (o : Option Element). content_of (nth 0 (content_of o))) whole.first ∙ ap content_of tbs.first in
    let fifth : nth 4 tbs.e.content ≡ Some valid.e = version.later 3 ∙ serial.later 2 ∙ algorithm.later 1 ∙ issuer.later 0 ∙ valid.first in
    (valid.e.content, ap (λ (xs : List ℕ). content_of (nth 4 xs)) fields_are ∙ ap content_of fifth, valid.holds)

pub times_stand : (bytes : List ℕ) → IsObject certificate bytes → HasTimes bytes
times_stand bytes is =
    let v = validity bytes is in
    let times = two_times v.0 v.2 in
    (is_there _ (subst (λ (xs : List ℕ). IsSome (time_of (nth 0 xs))) (sym v.1) times.0), is_there _ (subst (λ (xs : List ℕ). IsSome (time_of (nth 1 xs))) (sym v.1) times.1))

-- A time, and what may follow it.
time_first : (back : Layout) (before these after : List ℕ) → Fits (both time back) before these after → IsSome (time_of (nth 0 these))
unfolding Fits
time_first back before these after f =
    let one = time_stands before f.0 (f.1 ++ after) f.3 in
    let first : nth 0 these ≡ Some one.0 = ap (nth 0) (f.2 ∙ ap (λ (xs : List ℕ). xs ++ f.1) one.2) ∙ nth_first one.0 f.1 one.1 in
    subst (λ (o : Option Element). IsSome (time_of o)) (sym first) one.3

pub update_stands : (bytes : List ℕ) → IsObject revocation_list bytes → HasUpdate bytes
update_stands bytes is =
    let whole = stands_alone _ _ _ _ _ _ is.fits in
    let tbs = stands _ _ _ _ _ _ _ whole.holds in
    let version = stands _ _ _ _ _ _ _ tbs.holds in
    let algorithm = stands _ _ _ _ _ _ _ version.others in
    let issuer = stands _ _ _ _ _ _ _ algorithm.others in
    let some = time_first _ _ _ _ issuer.others in
    let fields_are : fields bytes ≡ tbs.e.content = ap (λ (o : Option Element). content_of (nth 0 (content_of o))) whole.first ∙ ap content_of tbs.first in
    let fourth : nth 3 (fields bytes) ≡ nth 0 issuer.rest = ap (nth 3) fields_are ∙ version.later 2 ∙ algorithm.later 1 ∙ issuer.later 0 in
    is_there _ (subst (λ (o : Option Element). IsSome (time_of o)) (sym fourth) some)
