-- A front of bytes that are written as they are.
use Rattle.std.proofs.Common.{◌≡◌, ℕ, zero, suc, ◌+◌, ◌<◌, ◌≤◌, ◌||◌, ◌==◌, not, Bool, true, false, List, [], ◌∷◌, ◌++◌, length, take, drop, get_or, refl, ap, ◌∙◌, arith, cond}
use Rattle.std.specs.Prelude.{flat_map}
use Rattle.document_model.specs.Canonical.{text_character}
use Rattle.xml_items.specs.Runs.{is_unescaped}
use Rattle.httparse.specs.Pieces.{AllPassBetween}

-- the four tests say no
unescaped_by : (a b c d : Bool) (e f g h i : List ℕ) → not (a || b || c || d) ≡ true → cond b e (cond a f (cond c g (cond d h i))) ≡ i
unescaped_by false false false false e f g h i pass = refl
unescaped_by false false false true e f g h i pass = cc
unescaped_by false false true d e f g h i pass = cc
unescaped_by false true c d e f g h i pass = cc
unescaped_by true b c d e f g h i pass = cc

unescaped_is : (b : ℕ) → is_unescaped b ≡ true → text_character b ≡ b ∷ []
unescaped_is b pass = unescaped_by (b == 0x3C) (b == 0x26) (b == 0x3E) (b == 0xD) _ _ _ _ (b ∷ []) pass

front_is : (f : ℕ → List ℕ) (d : List ℕ) (n : ℕ) → n ≤ length d → ((k : ℕ) → k < n → f (get_or d k 0) ≡ get_or d k 0 ∷ [])
    → flat_map f d ≡ take n d ++ flat_map f (drop n d)
front_is f d zero inside same = refl
front_is f [] (suc n) inside same = absurd (omega arith)
front_is f (x ∷ xs) (suc n) inside same =
    ap (λ t. t ++ flat_map f xs) (same zero (omega arith))
    ∙ ap (λ t. x ∷ t) (front_is f xs n (omega arith) (λ k below. same (suc k) (omega arith)))

pub unescaped_front : (d : List ℕ) (n : ℕ) → n ≤ length d → AllPassBetween is_unescaped d 0 n
    → flat_map text_character d ≡ take n d ++ flat_map text_character (drop n d)
unescaped_front d n inside pass = front_is text_character d n inside (λ k below. unescaped_is (get_or d k 0) (pass k (omega arith) below))
