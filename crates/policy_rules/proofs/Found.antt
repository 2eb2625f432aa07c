-- Some element of a list, as a loop looks for it.
use Rattle.std.proofs.Common.{◌≡◌, ℕ, zero, suc, ◌+◌, ◌<◌, ◌≤◌, ◌⊎◌, inl, inr, length, drop, get_or, map, subst, List, [], ◌∷◌, refl, sym, ap, ◌∙◌, arith}
use Rattle.std.specs.Prelude.{Contains}
use Rattle.std.proofs.lemmas.List.{drop_more, drop_all}

abbrev pub SomeOf : {X : Type 0} → (X → Type 0) → List X → Type 0
SomeOf P [] = ⊥
SomeOf P (x ∷ xs) = P x ⊎ SomeOf P xs

abbrev pub Listed : {X : Type 0} → (X → Type 0) → List X → Type 0
Listed {X} P xs = (x : X) × Contains xs x × P x

pub listed : {X : Type 0} (P : X → Type 0) (xs : List X) → SomeOf P xs → Listed P xs
listed P [] h = absurd h
listed P (x ∷ xs) (inl p) = (x, (0, omega arith, refl), p)
listed P (x ∷ xs) (inr q) =
    let r = listed P xs q in
    (r.0, (suc r.1.0, omega (arith, r.1.1), r.1.2), r.2)

at_place : {X : Type 0} (P : X → Type 0) (xs : List X) (x : X) (k : ℕ) → k < length xs → get_or xs k x ≡ x → P x → SomeOf P xs
at_place P [] x k lt e p = absurd (omega (arith, lt))
at_place P (y ∷ ys) x zero lt e p = inl (subst P (sym e) p)
at_place P (y ∷ ys) x (suc k) lt e p = inr (at_place P ys x k (omega (arith, lt)) e p)

pub some_of : {X : Type 0} (P : X → Type 0) (xs : List X) → Listed P xs → SomeOf P xs
some_of P xs h = at_place P xs h.0 h.1.0 h.1.1 h.1.2 h.2

-- what is looked for stands in the part that is left exactly where it stands in the whole
abbrev pub IsLeft : {X E : Type 0} → (X → Type 0) → (E → X) → ℕ → (items all : List E) → Type 0
IsLeft P f i items all = (SomeOf P (map f (drop i items)) → SomeOf P (map f all)) × (SomeOf P (map f all) → SomeOf P (map f (drop i items)))

cons_at : {E : Type 0} (items : List E) (i : ℕ) (d e : E) → i < length items → e ≡ get_or items i d → drop i items ≡ e ∷ drop (i + 1) items
cons_at items i d e lt at = drop_more items i d lt ∙ ap (λ y. y ∷ drop (i + 1) items) (sym at)

pub starts : {X E : Type 0} (P : X → Type 0) (f : E → X) (items all : List E) → items ≡ all → IsLeft P f 0 items all
starts P f items all same = (λ h. subst (λ xs. SomeOf P (map f xs)) same h, λ h. subst (λ xs. SomeOf P (map f xs)) (sym same) h)

later : {X : Type 0} (P : X → Type 0) (x : X) (xs : List X) → (P x → ⊥) → SomeOf P (x ∷ xs) → SomeOf P xs
later P x xs refuses (inl p) = absurd (refuses p)
later P x xs refuses (inr q) = q

pub goes_on : {X E : Type 0} (P : X → Type 0) (f : E → X) (i : ℕ) (items all : List E) (d e : E) → i < length items → e ≡ get_or items i d → (P (f e) → ⊥)
    → IsLeft P f i items all → IsLeft P f (i + 1) items all
goes_on P f i items all d e lt at refuses so_far = (
  λ h. so_far.0 (subst (λ xs. SomeOf P (map f xs)) (sym (cons_at items i d e lt at)) (inr h)),
  λ h. later P (f e) (map f (drop (i + 1) items)) refuses (subst (λ xs. SomeOf P (map f xs)) (cons_at items i d e lt at) (so_far.1 h)),
)

pub ends_found : {X E : Type 0} (P : X → Type 0) (f : E → X) (i : ℕ) (items all : List E) (d e : E) → i < length items → e ≡ get_or items i d → P (f e)
    → IsLeft P f i items all → Listed P (map f all)
ends_found P f i items all d e lt at holds so_far =
    listed P (map f all) (so_far.0 (subst (λ xs. SomeOf P (map f xs)) (sym (cons_at items i d e lt at)) (inl holds)))

pub ends_without : {X E : Type 0} (P : X → Type 0) (f : E → X) (i : ℕ) (items all : List E) → length items ≤ i → IsLeft P f i items all → Listed P (map f all) → ⊥
ends_without P f i items all le so_far h =
    subst (λ xs. SomeOf P (map f xs)) (drop_all i items le) (so_far.1 (some_of P (map f all) h))
