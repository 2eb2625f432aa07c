-- Loops that fill tables and lists.
use Rattle.std.proofs.Common.{◌≡◌, ℕ, zero, suc, ◌+◌, ◌<◌, ◌≤◌, Bool, false, List, [], ◌∷◌, ◌++◌, length, map, take, slice_get, slice_index_or, get_or, Option, Some, IsTrue, ◌↔◌, arith, refl, sym, ap, subst, ◌∙◌, ⊎_elim, Vec, Global}
use Rattle.std.proofs.Math.Seq.{get_or-append_seam}
use Rattle.std.proofs.lemmas.Bool.{cases_lt}
use Rattle.std.proofs.lemmas.List.{get_or_append_left, take_all}
use Rattle.cert_paths.specs.Tables.{bit, bits_in, IsRowOf}
use Rattle.cert_paths.proofs.HeldLaws.{get_before, get_last}

pub row_pushed : (P : ℕ → Type 0) (bits after : List Bool) (n : ℕ) (b : Bool) → after ≡ bits ++ b ∷ [] → length bits ≡ n →
    ((k : ℕ) → k < n → (IsTrue (slice_index_or bits k false) ↔ P k)) → (IsTrue b ↔ P n) →
    (k : ℕ) → k < n + 1 → (IsTrue (slice_index_or after k false) ↔ P k)
row_pushed P bits after n b is each right new k lt =
    ⊎_elim
    (λ before.
    let same : get_or after k false ≡ get_or bits k false = ap (λ l. get_or l k false) is ∙ get_or_append_left bits (b ∷ []) false k (omega arith) in
    subst (λ (x : Bool). IsTrue x ↔ P k) (sym same) (right k before))
    (λ from.
    let here : k ≡ length bits = omega arith in
    let there : n ≡ k = omega arith in
    let same : get_or after k false ≡ b = ap (λ l. get_or l k false) is ∙ ap (λ i. get_or (bits ++ b ∷ []) i false) here ∙ get_or-append_seam bits b [] false in
    subst (λ (x : Bool). IsTrue x ↔ P k) (sym same) (subst (λ (i : ℕ). IsTrue b ↔ P i) there new))
    (cases_lt k n)

pub table_pushed : (P : ℕ → ℕ → Type 0) (columns : ℕ) (rows after : List (Vec Bool Global)) (n : ℕ) (v : Vec Bool Global) → after ≡ rows ++ v ∷ [] → length rows ≡ n →
    ((row column : ℕ) → row < n → column < columns → (IsTrue (bit rows row column) ↔ P row column)) → IsRowOf (P n) columns v.items →
    (row column : ℕ) → row < n + 1 → column < columns → (IsTrue (bit after row column) ↔ P row column)
table_pushed P columns rows after n v is each right new row column lt within =
    let At : Option (Vec Bool Global) → Type 0 = λ o. IsTrue (slice_index_or (bits_in o) column false) ↔ P row column in
    ⊎_elim
    (λ before.
    let same : slice_get after row ≡ slice_get rows row = ap (λ (l : List (Vec Bool Global)). slice_get l row) is ∙ get_before rows v row (omega arith) in
    subst At (sym same) (right row column before within))
    (λ from.
    let here : row ≡ length rows = omega arith in
    let there : n ≡ row = omega arith in
    let same : slice_get after row ≡ Some v = ap (λ (l : List (Vec Bool Global)). slice_get l row) is ∙ get_last rows v row here in
    subst At (sym same) (subst (λ (i : ℕ). IsTrue (slice_index_or v.items column false) ↔ P i column) there (new.right column within)))
    (cases_lt row n)

map_last : {X Z : Type 0} (f : X → Z) (xs : List X) (x : X) → map f (xs ++ x ∷ []) ≡ map f xs ++ f x ∷ []
map_last f [] x = refl
map_last f (y ∷ xs) x = ap (λ zs. f y ∷ zs) (map_last f xs x)

take_next : {Y : Type 0} (ys : List Y) (i : ℕ) (y : Y) → slice_get ys i ≡ Some y → take (suc i) ys ≡ take i ys ++ y ∷ []
take_next [] i y at = cc
take_next (x ∷ ys) zero y at = let same : x ≡ y = cc in ap (λ z. z ∷ []) same
take_next (x ∷ ys) (suc i) y at = ap (λ zs. x ∷ zs) (take_next ys i y at)

pub map_taken : {X Y Z : Type 0} (f : X → Z) (g : Y → Z) (done after : List X) (ys : List Y) (i : ℕ) (x : X) (y : Y) → after ≡ done ++ x ∷ [] →
    slice_get ys i ≡ Some y → f x ≡ g y → map f done ≡ map g (take i ys) → map f after ≡ map g (take (i + 1) ys)
map_taken f g done after ys i x y is at same so_far =
    let next : i + 1 ≡ suc i = omega arith in
    ap (map f) is ∙ map_last f done x ∙ ap (λ zs. zs ++ f x ∷ []) so_far ∙ ap (λ z. map g (take i ys) ++ z ∷ []) same
    ∙ sym (ap (λ k. map g (take k ys)) next ∙ ap (map g) (take_next ys i y at) ∙ map_last g (take i ys) y)

pub map_done : {X Y Z : Type 0} (f : X → Z) (g : Y → Z) (done : List X) (ys : List Y) (i : ℕ) → length ys ≤ i → map f done ≡ map g (take i ys) → map f done ≡ map g ys
map_done f g done ys i le so_far = so_far ∙ ap (map g) (take_all i ys le)
