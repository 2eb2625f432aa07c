-- A search through a list, one after another.
use Rattle.std.proofs.Common.{◌≡◌, ◌≤◌, ◌<◌, ℕ, zero, suc, ◌+◌, true, false, List, [], ◌∷◌, length, Option, Some, None, is_some, refl, sym, ◌∙◌, ap, add-one, drop, arith}
use Rattle.std.specs.Option.{option_or}
use Rattle.std.specs.Prelude.{slice_get}
use Rattle.doc_spans.proofs.Shows.{drop_get, drop_past}

-- what was passed doesn't matter to a function on lists
pub record Passed {X A : Type 0} (f : List X → A) (xs : List X) (i : ℕ) : Type 0 where
  pub rest : f xs ≡ f (drop i xs)

pub passed_on : {X A : Type 0} (f : List X → A) (xs : List X) (i : ℕ) (x : X) → slice_get xs i ≡ Some x → ((ys : List X) → f (x ∷ ys) ≡ f ys) → Passed f xs i
    → Passed f xs (i + 1)
passed_on f xs i x at skips h = record {
  rest = h.rest ∙ ap f (drop_get xs i x at) ∙ skips (drop (suc i) xs) ∙ ap (λ n. f (drop n xs)) (sym (add-one i));
}

pub passed_here : {X A : Type 0} (f : List X → A) (xs : List X) (i : ℕ) (x : X) (found : A) → slice_get xs i ≡ Some x → ((ys : List X) → f (x ∷ ys) ≡ found) → Passed f xs i
    → f xs ≡ found
passed_here f xs i x found at is h = h.rest ∙ ap f (drop_get xs i x at) ∙ is (drop (suc i) xs)

pub passed_all : {X A : Type 0} (f : List X → A) (xs : List X) (i : ℕ) → length xs ≤ i → Passed f xs i → f xs ≡ f []
passed_all f xs i past h = h.rest ∙ ap f (drop_past xs i past)

-- the first that a list has
abbrev pub first_some : {X A : Type 0} → (X → Option A) → List X → Option A
first_some f [] = None
first_some f (x ∷ xs) = option_or (f x) (first_some f xs)

pub some_here : {A : Type 0} (o rest : Option A) → is_some o ≡ true → option_or o rest ≡ o
some_here None rest e = cc
some_here (Some x) rest e = refl

pub none_here : {A : Type 0} (o rest : Option A) → is_some o ≡ false → option_or o rest ≡ rest
none_here None rest e = refl
none_here (Some x) rest e = cc

-- an element of a list by a number in range
pub there_is : {X : Type 0} (xs : List X) (i : ℕ) → i < length xs → (x : X) × (slice_get xs i ≡ Some x)
there_is [] i h = absurd (omega (arith, h))
there_is (x ∷ xs) zero h = (x, refl)
there_is (x ∷ xs) (suc i) h = there_is xs i (omega (arith, h))
