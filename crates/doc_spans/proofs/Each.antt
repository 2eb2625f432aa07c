-- What holds of each of a list.
use Rattle.std.proofs.Common.{◌≡◌, ℕ, zero, suc, List, [], ◌∷◌, ◌++◌, Some, refl, sym, ap, subst}
use Rattle.std.proofs.lemmas.Option.{none-some, same_Some}
use Rattle.std.specs.Prelude.{map, slice_get}
use Rattle.doc_spans.specs.View.{Each, Distinct}

pub each_append : {X : Type 0} (P : X → Type 0) (xs ys : List X) → Each P xs → Each P ys → Each P (xs ++ ys)
each_append P [] ys h k = k
each_append P (x ∷ xs) ys h k = (h.0, each_append P xs ys h.1 k)

pub each_map : {X Y : Type 0} (P : X → Type 0) (Q : Y → Type 0) (f : X → Y) → ((x : X) → P x → Q (f x)) → (xs : List X) → Each P xs → Each Q (map f xs)
each_map P Q f step [] h = tt
each_map P Q f step (x ∷ xs) h = (step x h.0, each_map P Q f step xs h.1)

pub each_weaker : {X : Type 0} (P Q : X → Type 0) → ((x : X) → P x → Q x) → (xs : List X) → Each P xs → Each Q xs
each_weaker P Q step [] h = tt
each_weaker P Q step (x ∷ xs) h = (step x h.0, each_weaker P Q step xs h.1)

pub map_same : {X Y : Type 0} (P : X → Type 0) (f g : X → Y) → ((x : X) → P x → f x ≡ g x) → (xs : List X) → Each P xs → map f xs ≡ map g xs
map_same P f g same [] h = refl
map_same P f g same (x ∷ xs) h = (λ i. (same x h.0 i ∷ map_same P f g same xs h.1 i))

pub map_map : {X Y Z : Type 0} (f : Y → Z) (g : X → Y) (xs : List X) → map f (map g xs) ≡ map (λ x. f (g x)) xs
map_map f g [] = refl
map_map f g (x ∷ xs) = ap (λ ys. f (g x) ∷ ys) (map_map f g xs)

pub map_join : {X Y : Type 0} (f : X → Y) (xs ys : List X) → map f (xs ++ ys) ≡ map f xs ++ map f ys
map_join f [] ys = refl
map_join f (x ∷ xs) ys = ap (λ zs. f x ∷ zs) (map_join f xs ys)

pub each_get : {X : Type 0} (P : X → Type 0) (xs : List X) (k : ℕ) (x : X) → Each P xs → slice_get xs k ≡ Some x → P x
each_get P [] k x h e = absurd (none-some x e)
each_get P (y ∷ xs) zero x h e = subst P (same_Some y x e) h.0
each_get P (y ∷ xs) (suc k) x h e = each_get P xs k x h.1 e

pub distinct_more : {X : Type 0} (xs : List X) (y : X) → Distinct xs → Each (λ x. x ≡ y → ⊥) xs → Distinct (xs ++ y ∷ [])
distinct_more [] y h k = (tt, tt)
distinct_more (x ∷ xs) y h k = (each_append (λ z. z ≡ x → ⊥) xs (y ∷ []) h.0 (λ e. k.0 (sym e), tt), distinct_more xs y h.1 k.1)
