-- Facts on each of a list, and functions that agree on a list.
use Rattle.std.proofs.Common.{◌≡◌, ℕ, Bool, true, false, cond, ◌&&◌, ◌||◌, List, [], ◌∷◌, ◌++◌, refl, sym, ◌∙◌, ap, subst, ◌==◌}
use Rattle.std.specs.Prelude.{filter, flat_map, map}
use Rattle.std.specs.List.{list_any}
use Rattle.std.specs.Cmp.{unsigned_Decides}
use Rattle.document_model.specs.Tree.{Path}
use Rattle.document_model.specs.NodeSets.{is_within}
use Rattle.document_model.proofs.Joins.{by_test}
use Rattle.signature_model.specs.Spots.{Spot, first}
use Rattle.signature_model.proofs.Standing.{Each}

pub not_both : true ≡ false → ⊥
not_both e = let T : Bool → Type 0 = λ b. cond b (Unit {0}) ⊥ in subst T e tt

pub both : (a b : Bool) → (a && b) ≡ true → (a ≡ true) × (b ≡ true)
both true b e = (refl, e)
both false b e = absurd (not_both (sym e))

pub not_second : (a b : Bool) → b ≡ false → (a && b) ≡ false
not_second true b e = e
not_second false b e = refl

pub not_first : (a b : Bool) → a ≡ false → (a && b) ≡ false
not_first a b e = rw e refl

pub neither : (a b : Bool) → (a || b) ≡ false → (a ≡ false) × (b ≡ false)
neither true b e = absurd (not_both e)
neither false b e = (refl, e)

pub each_filter : {A : Type 0} (P : A → Type 0) (p : A → Bool) (xs : List A) → Each P xs → Each (λ x. P x × (p x ≡ true)) (filter p xs)
each_filter P p [] h = tt
each_filter P p (x ∷ xs) h = by_test (Each (λ x. P x × (p x ≡ true))) (p x) _ _ (λ e. ((h.0, e), each_filter P p xs h.1)) (λ e. each_filter P p xs h.1)

pub each_append : {A : Type 0} (P : A → Type 0) (xs ys : List A) → Each P xs → Each P ys → Each P (xs ++ ys)
each_append P [] ys h k = k
each_append P (x ∷ xs) ys h k = (h.0, each_append P xs ys h.1 k)

pub each_map : {A : Type 0} (P Q : A → Type 0) (xs : List A) → ((x : A) → P x → Q x) → Each P xs → Each Q xs
each_map P Q [] f h = tt
each_map P Q (x ∷ xs) f h = (f x h.0, each_map P Q xs f h.1)

pub each_flat : {A B : Type 0} (P : A → Type 0) (Q : B → Type 0) (f : A → List B) (xs : List A) → ((x : A) → P x → Each Q (f x)) → Each P xs → Each Q (flat_map f xs)
each_flat P Q f [] g h = tt
each_flat P Q f (x ∷ xs) g h = each_append Q (f x) (flat_map f xs) (g x h.0) (each_flat P Q f xs g h.1)

pub each_first : (P : Spot → Type 0) (xs : List Spot) → Each P xs → Each P (first xs)
each_first P [] h = tt
each_first P (x ∷ xs) h = (h.0, tt)

pub flat_same : {A B : Type 0} (P : A → Type 0) (f g : A → List B) (xs : List A) → ((x : A) → P x → f x ≡ g x) → Each P xs → flat_map f xs ≡ flat_map g xs
flat_same P f g [] same h = refl
flat_same P f g (x ∷ xs) same h = ap (λ a. a ++ flat_map f xs) (same x h.0) ∙ ap (λ a. g x ++ a) (flat_same P f g xs same h.1)

pub filter_same : {A : Type 0} (P : A → Type 0) (f g : A → Bool) (xs : List A) → ((x : A) → P x → f x ≡ g x) → Each P xs → filter f xs ≡ filter g xs
filter_same P f g [] same h = refl
filter_same P f g (x ∷ xs) same h = ap (λ b. cond b (x ∷ filter f xs) (filter f xs)) (same x h.0) ∙ ap (λ a. cond (g x) (x ∷ a) a) (filter_same P f g xs same h.1)

pub map_same : {A B : Type 0} (P : A → Type 0) (f g : A → B) (xs : List A) → ((x : A) → P x → f x ≡ g x) → Each P xs → map f xs ≡ map g xs
map_same P f g [] same h = refl
map_same P f g (x ∷ xs) same h = ap (λ a. a ∷ map f xs) (same x h.0) ∙ ap (λ a. g x ∷ a) (map_same P f g xs same h.1)

pub any_same : {A : Type 0} (P : A → Type 0) (f g : A → Bool) (xs : List A) → ((x : A) → P x → f x ≡ g x) → Each P xs → list_any f xs ≡ list_any g xs
any_same P f g [] same h = refl
any_same P f g (x ∷ xs) same h = ap (λ a. a || list_any f xs) (same x h.0) ∙ ap (λ a. g x || a) (any_same P f g xs same h.1)

-- no element passes, so the last one doesn't
pub none_last : {A : Type 0} (p : A → Bool) (xs : List A) (y : A) → list_any p (xs ++ y ∷ []) ≡ false → p y ≡ false
none_last p [] y e = (neither (p y) false e).0
none_last p (x ∷ xs) y e = none_last p xs y (neither (p x) (list_any p (xs ++ y ∷ [])) e).1

-- Paths.

differ : (k i : ℕ) → (k ≡ i → ⊥) → (k == i) ≡ false
differ k i d = by_bool (k == i) (unsigned_Decides k i).0
  where
    by_bool : (b : Bool) → (b ≡ true → k ≡ i) → b ≡ false
    by_bool true f = absurd (d (f refl))
    by_bool false f = refl

-- a child of an element isn't around it, and two children aren't around what the other holds
pub not_within_holder : (path : Path) (k : ℕ) → is_within (path ++ k ∷ []) path ≡ false
not_within_holder [] k = refl
not_within_holder (j ∷ path) k = not_second (j == j) _ (not_within_holder path k)

pub not_within_other : (path : Path) (k i : ℕ) (rest : Path) → (k ≡ i → ⊥) → is_within (path ++ k ∷ []) (path ++ i ∷ rest) ≡ false
not_within_other [] k i rest d = not_first (k == i) true (differ k i d)
not_within_other (j ∷ path) k i rest d = not_second (j == j) _ (not_within_other path k i rest d)
