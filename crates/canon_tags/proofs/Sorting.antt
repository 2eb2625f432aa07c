-- Sorting onto a list that is sorted already.
use Rattle.std.proofs.Common.{◌≡◌, ℕ, zero, suc, ◌+◌, ◌<◌, ◌≤◌, Bool, true, false, cond, List, [], ◌∷◌, ◌++◌, length, take, drop, get_or, map, refl, sym, ◌∙◌, ap, arith}
use Rattle.std.specs.List.{insert}
use Rattle.document_model.specs.Canonical.{placed}

abbrev pub sorted_onto : {A : Type 0} → (A → A → Bool) → List A → List A → List A
sorted_onto before done [] = done
sorted_onto before done (x ∷ xs) = placed before x (sorted_onto before done xs)

-- the last of those that are left is placed next
pub sorted_onto_last : {A : Type 0} (before : A → A → Bool) (done xs : List A) (x : A) → sorted_onto before done (xs ++ x ∷ []) ≡ sorted_onto before (placed before x done) xs
sorted_onto_last before done [] x = refl
sorted_onto_last before done (y ∷ xs) x = ap (placed before y) (sorted_onto_last before done xs x)

-- one that is before the new one is passed
pub place_behind : {A : Type 0} (before : A → A → Bool) (x d : A) (xs : List A) (at : ℕ) → at < length xs → before (get_or xs at d) x ≡ true
    → take at xs ++ placed before x (drop at xs) ≡ take (suc at) xs ++ placed before x (drop (suc at) xs)
place_behind before x d [] at h e = absurd (omega (arith, h))
place_behind before x d (y ∷ xs) zero h e = ap (λ b. cond b (y ∷ placed before x xs) (x ∷ y ∷ xs)) e
place_behind before x d (y ∷ xs) (suc at) h e = ap (λ ys. y ∷ ys) (place_behind before x d xs at (omega (arith, h)) e)

-- one that isn't stays behind it
pub place_here : {A : Type 0} (before : A → A → Bool) (x d : A) (xs : List A) (at : ℕ) → at < length xs → before (get_or xs at d) x ≡ false
    → take at xs ++ placed before x (drop at xs) ≡ take at xs ++ x ∷ drop at xs
place_here before x d [] at h e = absurd (omega (arith, h))
place_here before x d (y ∷ xs) zero h e = ap (λ b. cond b (y ∷ placed before x xs) (x ∷ y ∷ xs)) e
place_here before x d (y ∷ xs) (suc at) h e = ap (λ ys. y ∷ ys) (place_here before x d xs at (omega (arith, h)) e)

pub place_last : {A : Type 0} (before : A → A → Bool) (x : A) (xs : List A) (at : ℕ) → length xs ≤ at → take at xs ++ placed before x (drop at xs) ≡ take at xs ++ x ∷ drop at xs
place_last before x [] zero h = refl
place_last before x [] (suc at) h = refl
place_last before x (y ∷ xs) zero h = absurd (omega (arith, h))
place_last before x (y ∷ xs) (suc at) h = ap (λ ys. y ∷ ys) (place_last before x xs at (omega (arith, h)))

pub map_at : {A B : Type 0} (f : A → B) (xs : List A) (k : ℕ) (d : A) (e : B) → k < length xs → get_or (map f xs) k e ≡ f (get_or xs k d)
map_at f [] k d e h = absurd (omega (arith, h))
map_at f (x ∷ xs) zero d e h = refl
map_at f (x ∷ xs) (suc k) d e h = map_at f xs k d e (omega (arith, h))

pub map_length : {A B : Type 0} (f : A → B) (xs : List A) → length (map f xs) ≡ length xs
map_length f [] = refl
map_length f (x ∷ xs) = ap suc (map_length f xs)

pub map_join : {A B : Type 0} (f : A → B) (xs ys : List A) → map f (xs ++ ys) ≡ map f xs ++ map f ys
map_join f [] ys = refl
map_join f (x ∷ xs) ys = ap (λ zs. f x ∷ zs) (map_join f xs ys)

pub map_take : {A B : Type 0} (f : A → B) (xs : List A) (k : ℕ) → map f (take k xs) ≡ take k (map f xs)
map_take f [] zero = refl
map_take f [] (suc k) = refl
map_take f (x ∷ xs) zero = refl
map_take f (x ∷ xs) (suc k) = ap (λ zs. f x ∷ zs) (map_take f xs k)

pub map_drop : {A B : Type 0} (f : A → B) (xs : List A) (k : ℕ) → map f (drop k xs) ≡ drop k (map f xs)
map_drop f [] zero = refl
map_drop f [] (suc k) = refl
map_drop f (x ∷ xs) zero = refl
map_drop f (x ∷ xs) (suc k) = map_drop f xs k

pub drop_at : {A : Type 0} (xs : List A) (k : ℕ) (d : A) → k < length xs → drop k xs ≡ get_or xs k d ∷ drop (k + 1) xs
drop_at [] k d h = absurd (omega (arith, h))
drop_at (x ∷ xs) zero d h = refl
drop_at (x ∷ xs) (suc k) d h = let n : suc (k + 1) ≡ suc k + 1 = omega arith in drop_at xs k d (omega (arith, h)) ∙ ap (λ m. get_or xs k d ∷ drop m (x ∷ xs)) n

pub take_all : {A : Type 0} (xs : List A) → take (length xs) xs ≡ xs
take_all [] = refl
take_all (x ∷ xs) = ap (λ ys. x ∷ ys) (take_all xs)

map_insert : {A B : Type 0} (f : A → B) (xs : List A) (k : ℕ) (x : A) → map f (insert xs k x) ≡ insert (map f xs) k (f x)
map_insert f xs k x = map_join f (take k xs) (x ∷ drop k xs) ∙ (λ i. map_take f xs k i ++ (f x ∷ map_drop f xs k i))

pub place_stop : {A B : Type 0} (before : B → B → Bool) (f : A → B) (y : B) (d : A) (xs : List A) (at : ℕ) → at < length xs → before (f (get_or xs at d)) y ≡ false
    → placed before y (map f xs) ≡ take at (map f xs) ++ placed before y (drop at (map f xs)) → placed before y (map f xs) ≡ insert (map f xs) at y
place_stop before f y d xs at h e g =
    let n : at < length (map f xs) = omega (arith, h, map_length f xs) in
    g ∙ place_here before y (f d) (map f xs) at n (ap (λ x. before x y) (map_at f xs at d (f d) h) ∙ e)

pub place_on : {A B : Type 0} (before : B → B → Bool) (f : A → B) (y : B) (d : A) (xs : List A) (at : ℕ) → at < length xs → before (f (get_or xs at d)) y ≡ true
    → placed before y (map f xs) ≡ take at (map f xs) ++ placed before y (drop at (map f xs))
    → placed before y (map f xs) ≡ take (at + 1) (map f xs) ++ placed before y (drop (at + 1) (map f xs))
place_on before f y d xs at h e g =
    let n : at < length (map f xs) = omega (arith, h, map_length f xs) in
    let m : suc at ≡ at + 1 = omega arith in
    g ∙ place_behind before y (f d) (map f xs) at n (ap (λ x. before x y) (map_at f xs at d (f d) h) ∙ e)
    ∙ ap (λ k. take k (map f xs) ++ placed before y (drop k (map f xs))) m

pub place_end : {A B : Type 0} (before : B → B → Bool) (f : A → B) (y : B) (xs : List A) (at : ℕ) → length xs ≤ at
    → placed before y (map f xs) ≡ take at (map f xs) ++ placed before y (drop at (map f xs)) → placed before y (map f xs) ≡ insert (map f xs) at y
place_end before f y xs at h g = let n : length (map f xs) ≤ at = omega (arith, h, map_length f xs) in g ∙ place_last before y (map f xs) at n

pub place_inserted : {A B : Type 0} (before : B → B → Bool) (f : A → B) (x : A) (old slice now : List A) (at : ℕ) → slice ≡ old
    → placed before (f x) (map f slice) ≡ insert (map f slice) at (f x) → now ≡ insert old at x → map f now ≡ placed before (f x) (map f old)
place_inserted before f x old slice now at e g h =
    ap (map f) h ∙ map_insert f old at x ∙ sym (ap (λ ys. placed before (f x) (map f ys)) (sym e) ∙ g ∙ ap (λ ys. insert (map f ys) at (f x)) e)

pub place_popped : {A B : Type 0} (before : B → B → Bool) (f : A → B) (x : A) (old left : List A) (done now : List B) (start : List B) → old ≡ left ++ x ∷ []
    → now ≡ placed before (f x) done → sorted_onto before done (map f old) ≡ start → sorted_onto before now (map f left) ≡ start
place_popped before f x old left done now start e g h =
    ap (λ ys. sorted_onto before ys (map f left)) g ∙ sym (sorted_onto_last before done (map f left) (f x))
    ∙ ap (sorted_onto before done) (sym (map_join f left (x ∷ []))) ∙ ap (λ ys. sorted_onto before done (map f ys)) (sym e) ∙ h
