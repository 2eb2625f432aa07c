-- Where a closing text stands first.
use Rattle.std.proofs.Common.{◌≡◌, ℕ, zero, suc, ◌+◌, ◌<◌, Bool, true, false, List, [], ◌∷◌, length, take, drop, refl, sym, arith, nat_eq, zero-add}
use Rattle.std.specs.List.{starts_with}
use Rattle.std.specs.Cmp.Lexicographic.{same_text}
use Rattle.std.proofs.Math.Seq.{take-nil, drop-nil}
use Rattle.document_model.specs.Items.{through}

abbrev pub Stands : List ℕ → List ℕ → ℕ → Bool
Stands close bytes at = starts_with nat_eq (drop at bytes) close

pub through_found : (close bytes : List ℕ) (at : ℕ) → ((k : ℕ) → k < at → Stands close bytes k ≡ false) → Stands close bytes at ≡ true
    → through close bytes ≡ (take (at + length close) bytes, drop (at + length close) bytes)
through_found close [] at before here = simp (take-nil, drop-nil)
through_found close (b ∷ bytes) zero before here =
    let e : close ≡ take (length close) (b ∷ bytes) = same_text _ _ (sym here) in
    rw (here, zero-add) (λ i. (e i, drop (length close) (b ∷ bytes)))
through_found close (b ∷ bytes) (suc at) before here =
    let no_front : starts_with nat_eq (b ∷ bytes) close ≡ false = before 0 (omega arith) in
    let behind = through_found close bytes at (λ k h. before (suc k) (omega arith)) here in
    let n : suc at + length close ≡ suc (at + length close) = omega arith in
    rw (no_front, n) (λ i. (b ∷ (behind i).0, (behind i).1))

pub through_nowhere : (close bytes : List ℕ) → ((k : ℕ) → k < length bytes → Stands close bytes k ≡ false) → through close bytes ≡ (bytes, [])
through_nowhere close [] before = refl
through_nowhere close (b ∷ bytes) before =
    let no_front : starts_with nat_eq (b ∷ bytes) close ≡ false = before 0 (omega arith) in
    let behind = through_nowhere close bytes (λ k h. before (suc k) (omega arith)) in
    rw no_front (λ i. (b ∷ (behind i).0, (behind i).1))
