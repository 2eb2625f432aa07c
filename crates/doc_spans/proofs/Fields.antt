-- A field of one row is changed.
use Rattle.std.proofs.Common.{◌≡◌, ℕ, zero, suc, ◌<◌, ◌≤◌, List, [], ◌∷◌, length, refl, ap, arith, slice_set, get_or}
use Rattle.doc_spans.specs.declared.rows.Row.{Row}
use Rattle.doc_spans.specs.Building.{with_next, with_end, parent_of}
use Rattle.doc_spans.specs.View.{none}

pub next_past : (k n : ℕ) (rows : List Row) → length rows ≤ k → with_next k n rows ≡ rows
next_past k n [] h = refl
next_past zero n (row ∷ rows) h = absurd (omega arith)
next_past (suc k) n (row ∷ rows) h = ap (λ r. row ∷ r) (next_past k n rows (omega arith))

pub end_past : (k n : ℕ) (rows : List Row) → length rows ≤ k → with_end k n rows ≡ rows
end_past k n [] h = refl
end_past zero n (row ∷ rows) h = absurd (omega arith)
end_past (suc k) n (row ∷ rows) h = ap (λ r. row ∷ r) (end_past k n rows (omega arith))

pub parent_past : (k : ℕ) (rows : List Row) → length rows ≤ k → parent_of k rows ≡ none
parent_past k [] h = refl
parent_past zero (row ∷ rows) h = absurd (omega arith)
parent_past (suc k) (row ∷ rows) h = parent_past k rows (omega arith)

pub set_next : (rows : List Row) (k n : ℕ) (row : Row) → k < length rows → row ≡ get_or rows k row → slice_set rows k (record row { next = n }) ≡ with_next k n rows
set_next [] k n row h e = refl
set_next (first ∷ rows) zero n row h e = (let f : Row → List Row = λ r. record r { next = n } ∷ rows in ap f e)
set_next (first ∷ rows) (suc k) n row h e = ap (λ r. first ∷ r) (set_next rows k n row (omega arith) e)

pub set_end : (rows : List Row) (k n : ℕ) (row : Row) → k < length rows → row ≡ get_or rows k row → slice_set rows k (record row { end = n }) ≡ with_end k n rows
set_end [] k n row h e = refl
set_end (first ∷ rows) zero n row h e = (let f : Row → List Row = λ r. record r { end = n } ∷ rows in ap f e)
set_end (first ∷ rows) (suc k) n row h e = ap (λ r. first ∷ r) (set_end rows k n row (omega arith) e)

pub get_parent : (rows : List Row) (k : ℕ) (row : Row) → k < length rows → row ≡ get_or rows k row → row.parent ≡ parent_of k rows
get_parent [] k row h e = absurd (omega arith)
get_parent (first ∷ rows) zero row h e = ap (λ r. r.parent) e
get_parent (first ∷ rows) (suc k) row h e = get_parent rows k row (omega arith) e
