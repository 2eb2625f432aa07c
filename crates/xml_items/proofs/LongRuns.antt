-- A run of bytes that pass a test, many at once.
use Rattle.std.proofs.Common.{◌≡◌, ℕ, zero, suc, ◌+◌, ◌<◌, ◌≤◌, Bool, true, List, [], ◌∷◌, length, drop, get_or, refl, ap, subst, arith}
use Rattle.document_model.specs.Characters.{span}
use Rattle.httparse.specs.Pieces.{AllPassBetween, IsRunIn}

-- one byte
pub one_more : (q : ℕ → Bool) (d : List ℕ) (i : ℕ) → i < length d → q (get_or d i 0) ≡ true
    → length (span q (drop i d)).0 ≡ suc (length (span q (drop (suc i) d)).0)
one_more q [] i inside pass = absurd (omega arith)
one_more q (x ∷ xs) zero inside pass = rw pass refl
one_more q (x ∷ xs) (suc i) inside pass = one_more q xs i (omega arith) pass

-- so many
pub many_more : (q : ℕ → Bool) (d : List ℕ) (i n : ℕ) → i + n ≤ length d → AllPassBetween q d i (i + n)
    → length (span q (drop i d)).0 ≡ n + length (span q (drop (i + n) d)).0
many_more q d i zero inside pass =
    let same : i ≡ i + zero = omega arith in
    let stay = ap (λ k. length (span q (drop k d)).0) same in
    omega (arith, stay)
many_more q d i (suc n) inside pass =
    let first = one_more q d i (omega arith) (pass i (omega arith) (omega arith)) in
    let rest = many_more q d (suc i) n (omega arith) (λ k from to. pass k (omega arith) (omega arith)) in
    let place : suc i + n ≡ i + suc n = omega arith in
    let last = subst (λ k. length (span q (drop (suc i) d)).0 ≡ n + length (span q (drop k d)).0) place rest in
    omega (arith, first, last)

-- sixteen of them
pub goes_past : (q : ℕ → Bool) (d : List ℕ) (i r : ℕ) → i + 16 ≤ length d → IsRunIn q d i 16 r → (r < 16 → ⊥)
    → length (span q (drop i d)).0 ≡ 16 + length (span q (drop (i + 16) d)).0
goes_past q d i r room run long =
    let all : r ≡ 16 = omega (arith, run.0.0) in
    many_more q d i 16 room (subst (λ k. AllPassBetween q d i (i + k)) all run.0.1)
