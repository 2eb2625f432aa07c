-- Objects that are added to a case, one after another.
use Rattle.std.proofs.Common.{◌≡◌, ◌≤◌, ◌+◌, ℕ, Bool, true, false, cond, List, [], ◌∷◌, drop, filter, length, map, Some, slice_get, refl, sym, ◌∙◌, ap, subst}
use Rattle.std.specs.List.{All}
use Rattle.std.proofs.lemmas.List.Elements.{All-cons, All-nil}
use Rattle.std.proofs.lemmas.List.{at_drop_more, drop_all}
use Rattle.std.proofs.lemmas.Option.{get_or_from_slice_get, slice_get_within}
use Rattle.der_values.specs.Element.{Element}
use Rattle.der_values.specs.Fits.{IsObject}
use Rattle.tst_tokens.specs.Tokens.{is_certificate}
use Rattle.x509_certs.specs.Layouts as objects
use Rattle.existence_times.specs.Shown.{Shown}
use Rattle.signature_objects.specs.Objects.{Object, Certificate, with_object, with_objects}
use Rattle.signature_objects.proofs.Whole.{certificate_is}
use Rattle.case_steps.specs.Built.{ShowsObjects}

-- what is left comes behind what was added to a case, and no time-stamp was
pub record Adds (left all : List Object) (before now : Shown) : Type 0 where
  pub objects : (objects : List Object) → ShowsObjects objects before → (there : List Object) × ShowsObjects there now × (with_objects there left ≡ with_objects objects all)
  pub stamps : now.stamps ≡ before.stamps

pub adds_starts : (all : List Object) (case : Shown) → Adds all all case case
adds_starts all case = record { objects = λ objects s. (objects, s, refl); stamps = refl }

pub adds_on : (object : Object) (left all : List Object) (before now later : Shown) → ((objects : List Object) → ShowsObjects objects now → ShowsObjects (with_object objects object) later)
    → later.stamps ≡ now.stamps → Adds (object ∷ left) all before now → Adds left all before later
adds_on object left all before now later put same h = record {
  objects = λ objects s. let so_far = h.objects objects s in (with_object so_far.0 object, put so_far.0 so_far.1, so_far.2);
  stamps = same ∙ h.stamps;
}

pub adds_ends : (left all : List Object) (before now : Shown) → left ≡ [] → Adds left all before now → (objects : List Object) → ShowsObjects objects before
    → ShowsObjects (with_objects objects all) now
adds_ends left all before now none h objects s =
    let so_far = h.objects objects s in
    subst (λ (there : List Object). ShowsObjects there now) (sym (ap (with_objects so_far.0) none) ∙ so_far.2) so_far.1

-- what is left of a list by number
pub left_more : {X : Type 0} (f : X → Object) (xs : List X) (i : ℕ) (x : X) → slice_get xs i ≡ Some x → map f (drop i xs) ≡ f x ∷ map f (drop (i + 1) xs)
left_more f xs i x at =
    at_drop_more (map f) xs i x (slice_get_within xs i x at) ∙ ap (λ y. f y ∷ map f (drop (i + 1) xs)) (get_or_from_slice_get xs i x x at)

pub left_none : {X : Type 0} (f : X → Object) (xs : List X) (i : ℕ) → length xs ≤ i → map f (drop i xs) ≡ []
left_none f xs i past = ap (map f) (drop_all i xs past)

-- The certificates of a token.

pub listed : (elements : List Element) → map (λ octets. Certificate octets) (map (λ (element : Element). element.whole) elements) ≡ map (λ element. Certificate element.whole) elements
listed [] = refl
listed (element ∷ elements) = ap (λ all. Certificate element.whole ∷ all) (listed elements)

pub listed_whole : (elements : List Element) → All (IsObject objects.certificate) (map (λ (element : Element). element.whole) (filter is_certificate elements))
listed_whole [] = All-nil (IsObject objects.certificate)
listed_whole (element ∷ elements) = by_test (is_certificate element) refl (listed_whole elements)
  where
    by_test : (b : Bool) → is_certificate element ≡ b → All (IsObject objects.certificate) (map (λ (e : Element). e.whole) (filter is_certificate elements))
        → All (IsObject objects.certificate) (map (λ (e : Element). e.whole) (cond b (element ∷ filter is_certificate elements) (filter is_certificate elements)))
    by_test true w rest =
        All-cons (IsObject objects.certificate) element.whole (map (λ (e : Element). e.whole) (filter is_certificate elements)) (certificate_is element.whole w) rest
    by_test false w rest = rest
