-- The first of some places is the same in whatever order they are added.
use Rattle.std.proofs.Common.{◌≡◌, Bool, true, false, cond, List, [], ◌∷◌, ◌++◌, Option, Some, None, refl, sym, ◌∙◌, ap}
use Rattle.std.proofs.lemmas.Bool.{true≢false}
use Rattle.document_model.specs.Canonical.{is_before}
use Rattle.document_model.specs.Tree.{Path}
use Rattle.document_model.proofs.ListOrder.{before_on, before_one_way, before_or_same}
use Rattle.signature_model.specs.Faults.{with_place, with_places}
use Rattle.signature_model.proofs.FirstFaults.{later_place, with_places_append}
use Rattle.doc_spans.specs.declared.documents.Doc.{Doc}
use Rattle.signature_parts.specs.declared.places.FirstPlace.{FirstPlace}
use Rattle.signature_parts.specs.Places.{place_in, Adds}

-- Two places.

two_alone : (p q : Path) → with_place p (Some q) ≡ with_place q (Some p)
two_alone p q = by (is_before p q) refl (is_before q p) refl
  where
    by : (a : Bool) → is_before p q ≡ a → (b : Bool) → is_before q p ≡ b → cond a (Some p) (Some q) ≡ cond b (Some q) (Some p)
    by true e true f = absurd (true≢false (sym f ∙ before_one_way p q e))
    by true e false f = refl
    by false e true f = refl
    by false e false f = ap Some (sym (before_or_same p q e f))

not_in_front : (p q x : Path) → is_before q x ≡ true → is_before p x ≡ false → is_before p q ≡ false
not_in_front p q x e f = by (is_before p q) refl
  where
    by : (b : Bool) → is_before p q ≡ b → b ≡ false
    by true g = absurd (true≢false (sym (before_on p q x g e) ∙ f))
    by false g = refl

two_beside : (p q x : Path) → with_place p (with_place q (Some x)) ≡ with_place q (with_place p (Some x))
two_beside p q x = by (is_before q x) refl (is_before p x) refl
  where
    by : (a : Bool) → is_before q x ≡ a → (b : Bool) → is_before p x ≡ b → with_place p (cond a (Some q) (Some x)) ≡ with_place q (cond b (Some p) (Some x))
    by true e true f = two_alone p q
    by true e false f = later_place p q (not_in_front p q x e f) ∙ sym (ap (λ b. cond b (Some q) (Some x)) e)
    by false e true f = ap (λ b. cond b (Some p) (Some x)) f ∙ sym (later_place q p (not_in_front q p x f e))
    by false e false f = later_place p x f ∙ sym (later_place q x e)

two_places : (p q : Path) (kept : Option Path) → with_place p (with_place q kept) ≡ with_place q (with_place p kept)
two_places p q None = two_alone p q
two_places p q (Some x) = two_beside p q x

place_behind_all : (p : Path) (b : List Path) (kept : Option Path) → with_places b (with_place p kept) ≡ with_place p (with_places b kept)
place_behind_all p [] kept = refl
place_behind_all p (q ∷ b) kept = ap (with_places b) (two_places q p kept) ∙ place_behind_all p b (with_place q kept)

pub two_lists : (a b : List Path) (kept : Option Path) → with_places a (with_places b kept) ≡ with_places b (with_places a kept)
two_lists [] b kept = refl
two_lists (p ∷ a) b kept = ap (with_places a) (sym (place_behind_all p b kept)) ∙ two_lists a b (with_place p kept)

-- Lists of places that come to the same.
pub record Alike (a b : List Path) : Type 0 where
  pub same : (kept : Option Path) → with_places a kept ≡ with_places b kept

pub alike_as : (a b : List Path) → a ≡ b → Alike a b
alike_as a b e = record { same = λ kept. ap (λ places. with_places places kept) e }

pub alike_on : (a b c : List Path) → Alike a b → Alike b c → Alike a c
alike_on a b c h k = record { same = λ kept. h.same kept ∙ k.same kept }

pub alike_back : (a b : List Path) → Alike a b → Alike b a
alike_back a b h = record { same = λ kept. sym (h.same kept) }

pub alike_joined : (a b c d : List Path) → Alike a b → Alike c d → Alike (a ++ c) (b ++ d)
alike_joined a b c d h k = record {
  same = λ kept. with_places_append a c kept ∙ k.same (with_places a kept) ∙ ap (with_places d) (h.same kept) ∙ sym (with_places_append b d kept);
}

pub alike_swapped : (a b : List Path) → Alike (a ++ b) (b ++ a)
alike_swapped a b = record { same = λ kept. with_places_append a b kept ∙ two_lists b a kept ∙ sym (with_places_append b a kept) }

four_lists : (a b c d : List Path) (kept : Option Path) → with_places ((a ++ b) ++ (c ++ d)) kept ≡ with_places d (with_places c (with_places b (with_places a kept)))
four_lists a b c d kept =
    with_places_append (a ++ b) (c ++ d) kept ∙ with_places_append c d (with_places (a ++ b) kept)
    ∙ ap (λ k. with_places d (with_places c k)) (with_places_append a b kept)

pub alike_crossed : (a b c d : List Path) → Alike ((a ++ b) ++ (c ++ d)) ((a ++ c) ++ (b ++ d))
alike_crossed a b c d = record {
  same = λ kept. four_lists a b c d kept ∙ ap (with_places d) (two_lists c b (with_places a kept)) ∙ sym (four_lists a c b d kept);
}

pub adds_alike : (doc : Doc) (a b : List Path) (x y : FirstPlace) → Alike a b → Adds doc a x y → Adds doc b x y
adds_alike doc a b x y e h = record { place = h.place ∙ e.same (place_in doc x); within = h.within }
