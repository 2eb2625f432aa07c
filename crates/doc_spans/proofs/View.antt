-- What rows show, where one is added or changed.
use Rattle.std.proofs.Common.{◌≡◌, ℕ, zero, suc, ◌+◌, ◌<◌, ◌≤◌, Bool, true, false, cond, List, [], ◌∷◌, ◌++◌, length, take, drop, Option, Some, None, refl, sym, ◌∙◌, ap, subst, arith, append_assoc, length-append, ◌⊎◌, inl, inr}
use Rattle.std.proofs.lemmas.Option.{none-some, same_Some}
use Rattle.std.proofs.lemmas.Bool.{ne_eqb, eq-eqb}
use Rattle.std.proofs.lemmas.List.{append-nil}
use Rattle.std.specs.Prelude.{map, slice_get, nat_eq}
use Rattle.std.specs.Option.{option_map_or}
use Rattle.document_model.specs.Tree.{Path}
use Rattle.document_model.specs.Places.{Place}
use Rattle.doc_spans.specs.declared.rows.Row.{Row}
use Rattle.doc_spans.specs.Building.{with_next, with_end, parent_of}
use Rattle.doc_spans.specs.View.{none, AreBefore}
use Rattle.doc_spans.specs.View.{siblings, under, paths_from, paths_of, parents_of, place_of_row, placed}
use Rattle.doc_spans.proofs.Each.{map_join}

-- Lists that grow at their end.

pub grow_list : {X : Type 0} (P : List X → Type 0) → ((xs : List X) (x : X) → P xs → P (xs ++ x ∷ [])) → (ys xs : List X) → P xs → P (xs ++ ys)
grow_list P step [] xs h = subst P (sym (append-nil xs)) h
grow_list {X} P step (y ∷ ys) xs h = subst P (append_assoc xs (y ∷ []) ys) (grow_list P step ys (xs ++ y ∷ []) (step xs y h))

-- an induction on the last one
pub from_end : {X : Type 0} (P : List X → Type 0) → P [] → ((xs : List X) (x : X) → P xs → P (xs ++ x ∷ [])) → (xs : List X) → P xs
from_end P start step xs = grow_list P step xs [] start

pub get_front : {X : Type 0} (xs ys : List X) (k : ℕ) → k < length xs → slice_get (xs ++ ys) k ≡ slice_get xs k
get_front [] ys k h = absurd (omega arith)
get_front (x ∷ xs) ys zero h = refl
get_front (x ∷ xs) ys (suc k) h = get_front xs ys k (omega arith)

pub get_last : {X : Type 0} (xs : List X) (y : X) → slice_get (xs ++ y ∷ []) (length xs) ≡ Some y
get_last [] y = refl
get_last (x ∷ xs) y = get_last xs y

pub get_past : {X : Type 0} (xs : List X) (k : ℕ) → length xs ≤ k → slice_get xs k ≡ None
get_past [] k h = refl
get_past (x ∷ xs) zero h = absurd (omega arith)
get_past (x ∷ xs) (suc k) h = get_past xs k (omega arith)

pub get_inside : {X : Type 0} (xs : List X) (k : ℕ) (x : X) → slice_get xs k ≡ Some x → k < length xs
get_inside [] k x e = absurd (none-some x e)
get_inside (y ∷ xs) zero x e = omega arith
get_inside (y ∷ xs) (suc k) x e = let h = get_inside xs k x e in omega arith

-- where the k-th of a longer list is
pub get_either : {X : Type 0} (xs : List X) (y : X) (k : ℕ) (x : X) → slice_get (xs ++ y ∷ []) k ≡ Some x → ((k < length xs) × (slice_get xs k ≡ Some x)) ⊎ ((k ≡ length xs) × (y ≡ x))
get_either [] y zero x e = inr (refl, same_Some y x e)
get_either [] y (suc k) x e = absurd (none-some x e)
get_either (z ∷ xs) y zero x e = inl (omega arith, e)
get_either (z ∷ xs) y (suc k) x e = elim (get_either xs y k x e) [
  | inl h ↦ inl (omega (arith, h.0), h.1)
  | inr h ↦ inr (ap suc h.0, h.1)
]

-- Siblings.

pub siblings_join : (p : ℕ) (xs ys : List ℕ) → siblings p (xs ++ ys) ≡ siblings p xs + siblings p ys
siblings_join p [] ys = omega arith
siblings_join p (x ∷ xs) ys = counted (nat_eq x p) (siblings_join p xs ys)
  where
    counted : (b : Bool) → siblings p (xs ++ ys) ≡ siblings p xs + siblings p ys
        → cond b (suc (siblings p (xs ++ ys))) (siblings p (xs ++ ys)) ≡ cond b (suc (siblings p xs)) (siblings p xs) + siblings p ys
    counted true e = omega (arith, e)
    counted false e = e

-- Paths.

pub paths_join : (paths : List Path) (seen xs ys : List ℕ) → paths_from paths seen (xs ++ ys) ≡ paths_from (paths_from paths seen xs) (seen ++ xs) ys
paths_join paths seen [] ys = ap (λ s. paths_from paths s ys) (sym (append-nil seen))
paths_join paths seen (p ∷ xs) ys =
    paths_join (paths ++ (under paths p ++ siblings p seen ∷ []) ∷ []) (seen ++ p ∷ []) xs ys
    ∙ ap (λ s. paths_from (paths_from paths seen (p ∷ xs)) s ys) (append_assoc seen (p ∷ []) xs)

pub paths_more : (parents : List ℕ) (p : ℕ) → paths_of (parents ++ p ∷ []) ≡ paths_of parents ++ (under (paths_of parents) p ++ siblings p parents ∷ []) ∷ []
paths_more parents p = paths_join [] [] parents (p ∷ [])

pub paths_many : (parents : List ℕ) → length (paths_of parents) ≡ length parents
paths_many = from_end (λ ps. length (paths_of ps) ≡ length ps) refl
    (λ ps p e. ap length (paths_more ps p) ∙ length-append (paths_of ps) _ ∙ (let a : length (paths_of ps) + 1 ≡ length ps + 1 = omega (arith, e) in a) ∙ sym (length-append ps (p ∷ [])))

pub parents_more : (rows : List Row) (row : Row) → parents_of (rows ++ row ∷ []) ≡ parents_of rows ++ row.parent ∷ []
parents_more rows row = map_join (λ r. r.parent) rows (row ∷ [])

pub parents_many : (rows : List Row) → length (parents_of rows) ≡ length rows
parents_many [] = refl
parents_many (row ∷ rows) = ap suc (parents_many rows)

pub parents_next : (k n : ℕ) (rows : List Row) → parents_of (with_next k n rows) ≡ parents_of rows
parents_next k n [] = refl
parents_next zero n (row ∷ rows) = refl
parents_next (suc k) n (row ∷ rows) = ap (λ ps. row.parent ∷ ps) (parents_next k n rows)

pub parents_end : (k n : ℕ) (rows : List Row) → parents_of (with_end k n rows) ≡ parents_of rows
parents_end k n [] = refl
parents_end zero n (row ∷ rows) = refl
parents_end (suc k) n (row ∷ rows) = ap (λ ps. row.parent ∷ ps) (parents_end k n rows)

pub next_many : (k n : ℕ) (rows : List Row) → length (with_next k n rows) ≡ length rows
next_many k n [] = refl
next_many zero n (row ∷ rows) = refl
next_many (suc k) n (row ∷ rows) = ap suc (next_many k n rows)

pub end_many : (k n : ℕ) (rows : List Row) → length (with_end k n rows) ≡ length rows
end_many k n [] = refl
end_many zero n (row ∷ rows) = refl
end_many (suc k) n (row ∷ rows) = ap suc (end_many k n rows)

pub get_parent : (k : ℕ) (rows : List Row) → k < length rows → slice_get (parents_of rows) k ≡ Some (parent_of k rows)
get_parent k [] h = absurd (omega arith)
get_parent zero (row ∷ rows) h = refl
get_parent (suc k) (row ∷ rows) h = get_parent k rows (omega arith)

-- Places.

pub placed_more : (rows : List Row) (paths : List Path) (row : Row) (path : Path) → length rows ≡ length paths
    → placed (rows ++ row ∷ []) (paths ++ path ∷ []) ≡ placed rows paths ++ place_of_row path row ∷ []
placed_more [] [] row path e = refl
placed_more [] (q ∷ paths) row path e = absurd (omega arith)
placed_more (r ∷ rows) [] row path e = absurd (omega arith)
placed_more (r ∷ rows) (q ∷ paths) row path e = ap (λ ps. place_of_row q r ∷ ps) (placed_more rows paths row path (omega arith))

pub placed_next : (k n : ℕ) (rows : List Row) (paths : List Path) → placed (with_next k n rows) paths ≡ placed rows paths
placed_next k n [] paths = refl
placed_next zero n (row ∷ rows) [] = refl
placed_next zero n (row ∷ rows) (path ∷ paths) = refl
placed_next (suc k) n (row ∷ rows) [] = refl
placed_next (suc k) n (row ∷ rows) (path ∷ paths) = ap (λ ps. place_of_row path row ∷ ps) (placed_next k n rows paths)

pub placed_paths : (rows : List Row) (paths : List Path) → length rows ≡ length paths → map (λ place. place.path) (placed rows paths) ≡ paths
placed_paths [] [] e = refl
placed_paths [] (path ∷ paths) e = absurd (omega arith)
placed_paths (row ∷ rows) [] e = absurd (omega arith)
placed_paths (row ∷ rows) (path ∷ paths) e = ap (λ ps. path ∷ ps) (placed_paths rows paths (omega arith))

-- The path of a number, by that of its parent.

abbrev pub HasPaths : List ℕ → Type 0
HasPaths parents = (k p : ℕ) → slice_get parents k ≡ Some p → slice_get (paths_of parents) k ≡ Some (under (paths_of parents) p ++ siblings p (take k parents) ∷ [])

pub under_more : (paths : List Path) (q : Path) (p : ℕ) → (p < length paths) ⊎ (length paths < p) → under (paths ++ q ∷ []) p ≡ under paths p
under_more paths q p (inl h) = ap (λ o. option_map_or (λ path. path) o []) (get_front paths (q ∷ []) p h)
under_more paths q p (inr h) =
    let longer : length (paths ++ q ∷ []) ≤ p = omega (arith, length-append paths (q ∷ [])) in
    ap (λ o. option_map_or (λ path. path) o []) (get_past (paths ++ q ∷ []) p longer ∙ sym (get_past paths p (omega arith)))

take_front : (xs ys : List ℕ) (k : ℕ) → k ≤ length xs → take k (xs ++ ys) ≡ take k xs
take_front xs ys zero h = refl
take_front [] ys (suc k) h = absurd (omega arith)
take_front (x ∷ xs) ys (suc k) h = ap (λ l. x ∷ l) (take_front xs ys k (omega arith))

take_all : (xs ys : List ℕ) → take (length xs) (xs ++ ys) ≡ xs
take_all [] ys = refl
take_all (x ∷ xs) ys = ap (λ l. x ∷ l) (take_all xs ys)

pub before_less : (parents : List ℕ) (x : ℕ) → AreBefore (parents ++ x ∷ []) → AreBefore parents
before_less parents x h k p e = h k p (get_front parents (x ∷ []) k (get_inside parents k p e) ∙ e)

pub before_more : (parents : List ℕ) (x : ℕ) → AreBefore parents → (x < length parents) ⊎ (x ≡ none) → AreBefore (parents ++ x ∷ [])
before_more parents x h at k p e = elim (get_either parents x k p e) [
  | inl old ↦ h k p old.1
  | inr new ↦ let P : ℕ → Type 0 = λ q. (q < k) ⊎ (q ≡ none) in
      let Q : ℕ → Type 0 = λ n. (x < n) ⊎ (x ≡ none) in subst P new.1 (subst Q (sym new.0) at)
]

pub has_paths : (parents : List ℕ) → AreBefore parents → length parents ≤ none → HasPaths parents
has_paths = from_end (λ ps. AreBefore ps → length ps ≤ none → HasPaths ps) (λ h few k p e. absurd (none-some p e)) step
  where
    step : (ps : List ℕ) (x : ℕ) → (AreBefore ps → length ps ≤ none → HasPaths ps) → AreBefore (ps ++ x ∷ []) → length (ps ++ x ∷ []) ≤ none → HasPaths (ps ++ x ∷ [])
    step ps x same h few k p e =
        let many = paths_many ps in
        let longer = length-append ps (x ∷ []) in
        let q = under (paths_of ps) x ++ siblings x ps ∷ [] in
        let P : List Path → List ℕ → Type 0 = λ paths front. slice_get paths k ≡ Some (under paths p ++ siblings p front ∷ []) in
        elim (get_either ps x k p e) [
          | inl old ↦
              let outside : (p < length (paths_of ps)) ⊎ (length (paths_of ps) < p) =
              elim (h k p e) [ inl l ↦ inl (omega (arith, many, old.0)) | inr n ↦ inr (omega (arith, many, longer, n)) ] in
              let here : slice_get (paths_of ps) k ≡ Some (under (paths_of ps) p ++ siblings p (take k ps) ∷ []) =
              same (before_less ps x h) (omega (arith, longer)) k p old.1 in
              ap (λ l. slice_get l k) (paths_more ps x)
              ∙ get_front (paths_of ps) (q ∷ []) k (omega (arith, many, old.0))
              ∙ here
              ∙ ap (λ u. Some (u ++ siblings p (take k ps) ∷ [])) (sym (under_more (paths_of ps) q p outside))
              ∙ ap (λ l. Some (under l p ++ siblings p (take k ps) ∷ [])) (sym (paths_more ps x))
              ∙ ap (λ l. Some (under (paths_of (ps ++ x ∷ [])) p ++ siblings p l ∷ [])) (sym (take_front ps (x ∷ []) k (omega (arith, old.0))))
          | inr new ↦
              let outside : (p < length (paths_of ps)) ⊎ (length (paths_of ps) < p) =
              elim (h k p e) [ inl l ↦ inl (omega (arith, many, new.0)) | inr n ↦ inr (omega (arith, many, longer, n)) ] in
              ap (λ l. slice_get l k) (paths_more ps x)
              ∙ ap (slice_get (paths_of ps ++ q ∷ [])) (new.0 ∙ sym many)
              ∙ get_last (paths_of ps) q
              ∙ ap (λ y. Some (under (paths_of ps) y ++ siblings y ps ∷ [])) new.1
              ∙ ap (λ u. Some (u ++ siblings p ps ∷ [])) (sym (under_more (paths_of ps) q p outside))
              ∙ ap (λ l. Some (under l p ++ siblings p ps ∷ [])) (sym (paths_more ps x))
              ∙ ap (λ l. Some (under (paths_of (ps ++ x ∷ [])) p ++ siblings p l ∷ [])) (sym (ap (λ n. take n (ps ++ x ∷ [])) new.0 ∙ take_all ps (x ∷ [])))
        ]

-- One place ends.

abbrev pub end_placed : ℕ → ℕ → List Place → List Place
end_placed k n [] = []
end_placed zero n (place ∷ places) = record place { end = n } ∷ places
end_placed (suc k) n (place ∷ places) = place ∷ end_placed k n places

pub placed_end : (k n : ℕ) (rows : List Row) (paths : List Path) → placed (with_end k n rows) paths ≡ end_placed k n (placed rows paths)
placed_end k n [] paths = refl
placed_end zero n (row ∷ rows) [] = refl
placed_end zero n (row ∷ rows) (path ∷ paths) = refl
placed_end (suc k) n (row ∷ rows) [] = refl
placed_end (suc k) n (row ∷ rows) (path ∷ paths) = ap (λ ps. place_of_row path row ∷ ps) (placed_end k n rows paths)

-- no number is a parent that none has
pub none_has : (x : ℕ) (parents : List ℕ) → ((k p : ℕ) → slice_get parents k ≡ Some p → p ≡ x → ⊥) → siblings x parents ≡ 0
none_has x [] h = refl
none_has x (p ∷ parents) h =
    ap (λ b. cond b (suc (siblings x parents)) (siblings x parents)) (ne_eqb p x (h 0 p refl)) ∙ none_has x parents (λ k q e. h (suc k) q e)

pub drop_front : (xs ys : List ℕ) (k : ℕ) → k ≤ length xs → drop k (xs ++ ys) ≡ drop k xs ++ ys
drop_front xs ys zero h = refl
drop_front [] ys (suc k) h = absurd (omega arith)
drop_front (x ∷ xs) ys (suc k) h = drop_front xs ys k (omega arith)

pub drop_one_more : (xs : List ℕ) (y : ℕ) → drop (suc (length xs)) (xs ++ y ∷ []) ≡ []
drop_one_more [] y = refl
drop_one_more (x ∷ xs) y = drop_one_more xs y

pub siblings_split : (ps : List ℕ) (k p : ℕ) → slice_get ps k ≡ Some p → siblings p ps ≡ suc (siblings p (take k ps) + siblings p (drop (suc k) ps))
siblings_split [] k p e = absurd (none-some p e)
siblings_split (q ∷ ps) zero p e =
    ap (λ b. cond b (suc (siblings p ps)) (siblings p ps)) (eq-eqb q p (same_Some q p e)) ∙ (let a : suc (siblings p ps) ≡ suc (0 + siblings p ps) = omega arith in a)
siblings_split (q ∷ ps) (suc k) p e = counted (nat_eq q p) (siblings_split ps k p e)
  where
    counted : (b : Bool) → siblings p ps ≡ suc (siblings p (take k ps) + siblings p (drop (suc k) ps))
        → cond b (suc (siblings p ps)) (siblings p ps) ≡ suc (cond b (suc (siblings p (take k ps))) (siblings p (take k ps)) + siblings p (drop (suc k) ps))
    counted true e = omega (arith, e)
    counted false e = e

pub under_get : (paths : List Path) (k : ℕ) → k < length paths → slice_get paths k ≡ Some (under paths k)
under_get [] k h = absurd (omega arith)
under_get (path ∷ paths) zero h = refl
under_get (path ∷ paths) (suc k) h = under_get paths k (omega arith)

-- a list without its last one, and the last one
abbrev front : List ℕ → List ℕ
front [] = []
front (x ∷ []) = []
front (x ∷ y ∷ xs) = x ∷ front (y ∷ xs)

front_more : (xs : List ℕ) (y : ℕ) → front (xs ++ y ∷ []) ≡ xs
front_more [] y = refl
front_more (x ∷ []) y = refl
front_more (x ∷ z ∷ xs) y = ap (λ l. x ∷ l) (front_more (z ∷ xs) y)

abbrev last_of : List ℕ → ℕ
last_of [] = 0
last_of (x ∷ []) = x
last_of (x ∷ y ∷ xs) = last_of (y ∷ xs)

last_more : (xs : List ℕ) (y : ℕ) → last_of (xs ++ y ∷ []) ≡ y
last_more [] y = refl
last_more (x ∷ []) y = refl
last_more (x ∷ z ∷ xs) y = last_more (z ∷ xs) y

pub snoc_same : (a b : List ℕ) (x y : ℕ) → a ++ x ∷ [] ≡ b ++ y ∷ [] → (a ≡ b) × (x ≡ y)
snoc_same a b x y e = (sym (front_more a x) ∙ ap front e ∙ front_more b y, sym (last_more a x) ∙ ap last_of e ∙ last_more b y)

pub snoc_some : (a : List ℕ) (x : ℕ) → a ++ x ∷ [] ≡ [] → ⊥
snoc_some a x e = let n = ap length e in omega (arith, n, length-append a (x ∷ []))

pub get_of_paths : (ps : List Place) (k : ℕ) (path : Path) → slice_get (map (λ place. place.path) ps) k ≡ Some path → (place : Place) × (slice_get ps k ≡ Some place) × (place.path ≡ path)
get_of_paths [] k path e = absurd (none-some path e)
get_of_paths (place ∷ ps) zero path e = (place, refl, same_Some place.path path e)
get_of_paths (place ∷ ps) (suc k) path e = get_of_paths ps k path e

pub get_end : (k n : ℕ) (ps : List Place) (place : Place) → slice_get ps k ≡ Some place → slice_get (end_placed k n ps) k ≡ Some (record place { end = n })
get_end k n [] place e = absurd (none-some place e)
get_end zero n (x ∷ ps) place e = let f : Place → Option Place = λ y. Some (record y { end = n }) in ap f (same_Some x place e)
get_end (suc k) n (x ∷ ps) place e = get_end k n ps place e
