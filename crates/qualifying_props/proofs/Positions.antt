-- The place of the first that passes a test, and the signing certificate.
use Rattle.std.proofs.Common.{◌≡◌, ℕ, ◌<◌, Bool, true, false, cond, List, length, get_or, nat_lt, Some, None, sym, ◌∙◌, ap, arith}
use Rattle.std.proofs.lemmas.Bool.{lt-ltb, le-ltb}
use Rattle.std.proofs.lemmas.List.Sums.{position_or_len_is}
use Rattle.std.specs.List.{position}

pub place_found : {X : Type 0} (p : X → Bool) (xs : List X) (i : ℕ) (d : X) → i < length xs → ((k : ℕ) → k < i → p (get_or xs k d) ≡ false) → p (get_or xs i d) ≡ true
    → Some i ≡ position p xs
place_found p xs i d within before here =
    sym (ap (λ n. cond (nat_lt n (length xs)) (Some n) None) (position_or_len_is p xs i d (omega (arith, within)) before (λ _. here))
    ∙ ap (λ b. cond b (Some i) None) (lt-ltb i (length xs) within))

pub no_place : {X : Type 0} (p : X → Bool) (xs : List X) (i : ℕ) (d : X) → i ≡ length xs → ((k : ℕ) → k < i → p (get_or xs k d) ≡ false) → None ≡ position p xs
no_place p xs i d whole before =
    sym (ap (λ n. cond (nat_lt n (length xs)) (Some n) None) (position_or_len_is p xs i d (omega (arith, whole)) before (λ within. absurd (omega (arith, whole, within))))
    ∙ ap (λ b. cond b (Some i) None) (le-ltb i (length xs) (omega (arith, whole))))
