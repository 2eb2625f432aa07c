-- Stacks in the code, seen with the last one first.
use Rattle.std.proofs.Common.{◌≡◌, ℕ, ◌+◌, ◌-◌, List, [], ◌∷◌, ◌++◌, length, take, drop, refl, sym, ◌∙◌, ap, append_assoc, arith, length-drop}
use Rattle.std.proofs.lemmas.List.{take-append-drop}
use Rattle.std.proofs.Math.Seq.{drop-append_seam}
use Rattle.doc_spans.specs.Stacked.{stacked}

pub stacked_push : {A B : Type 0} (f : A → B) (below : List B) (xs : List A) (x : A) → stacked f below (xs ++ x ∷ []) ≡ f x ∷ stacked f below xs
stacked_push f below [] x = refl
stacked_push f below (y ∷ xs) x = stacked_push f (f y ∷ below) xs x

pub stacked_on : {A B : Type 0} (f : A → B) (below : List B) (xs : List A) → stacked f below xs ≡ stacked f [] xs ++ below
stacked_on f below [] = refl
stacked_on f below (x ∷ xs) =
    stacked_on f (f x ∷ below) xs ∙ sym (append_assoc (stacked f [] xs) (f x ∷ []) below) ∙ ap (λ ys. ys ++ below) (sym (stacked_on f (f x ∷ []) xs))

pub stacked_join : {A B : Type 0} (f : A → B) (below : List B) (xs ys : List A) → stacked f below (xs ++ ys) ≡ stacked f (stacked f below xs) ys
stacked_join f below [] ys = refl
stacked_join f below (x ∷ xs) ys = stacked_join f (f x ∷ below) xs ys

-- what was put last comes first
pub stacked_parts : {A B : Type 0} (f : A → B) (xs ys : List A) → stacked f [] (xs ++ ys) ≡ stacked f [] ys ++ stacked f [] xs
stacked_parts f xs ys = stacked_join f [] xs ys ∙ stacked_on f (stacked f [] xs) ys

stacked_more : {A B : Type 0} (f : A → B) (below : List B) (xs : List A) → length (stacked f below xs) ≡ length xs + length below
stacked_more f below [] = omega arith
stacked_more f below (x ∷ xs) = let n = stacked_more f (f x ∷ below) xs in omega (arith, n)

pub stacked_length : {A B : Type 0} (f : A → B) (xs : List A) → length (stacked f [] xs) ≡ length xs
stacked_length f xs = let n = stacked_more f [] xs in omega (arith, n)

-- the first ones in the code are the last ones
pub stacked_take : {A B : Type 0} (f : A → B) (xs : List A) (k : ℕ) → stacked f [] (take k xs) ≡ drop (length xs - k) (stacked f [] xs)
stacked_take f xs k =
    let n : length (stacked f [] (drop k xs)) ≡ length xs - k = stacked_length f (drop k xs) ∙ omega (arith, length-drop k xs) in
    sym (ap (λ m. drop m (stacked f [] xs)) (sym n)
    ∙ ap (λ ys. drop (length (stacked f [] (drop k xs))) (stacked f [] ys)) (sym (take-append-drop k xs))
    ∙ ap (drop (length (stacked f [] (drop k xs)))) (stacked_parts f (take k xs) (drop k xs))
    ∙ drop-append_seam (stacked f [] (drop k xs)) (stacked f [] (take k xs)))
