-- The children of a node, by rising numbers, have the paths of its first child, its second, and so on.
use Rattle.std.proofs.Common.{◌≡◌, ℕ, zero, suc, ◌+◌, ◌<◌, ◌≤◌, ◌⊎◌, subst, Bool, true, false, cond, List, [], ◌∷◌, ◌++◌, length, take, drop, Some, sym, ◌∙◌, ap, arith, nat_eq, inl, inr}
use Rattle.std.proofs.lemmas.Option.{none-some, same_Some}
use Rattle.std.proofs.lemmas.Bool.Decides.{eqb_tells}
use Rattle.std.specs.Prelude.{map, slice_get}
use Rattle.document_model.specs.Tree.{Path}
use Rattle.document_model.specs.Places.{Place}
use Rattle.doc_spans.specs.declared.rows.Row.{Row}
use Rattle.doc_spans.specs.View.{siblings, under, paths_of, parents_of, places_of_rows, IsTree, none}
use Rattle.doc_spans.specs.Below.{paths_below}
use Rattle.doc_spans.specs.Shown.{Shown, shown_of, path_at, children_from, children_of}
use Rattle.doc_spans.proofs.Builds.{row_paths}
use Rattle.doc_spans.proofs.View.{get_inside, parents_many, has_paths, under_get}
use Rattle.doc_spans.proofs.Shows.{IsNumber, few_parents, child_of, drop_get, drop_past, get_or_past, path_of_place, shown_many}

siblings_taken : (n : ℕ) (ps : List ℕ) (j p : ℕ) → slice_get ps j ≡ Some p → siblings n (take (suc j) ps) ≡ cond (nat_eq p n) (suc (siblings n (take j ps))) (siblings n (take j ps))
siblings_taken n [] j p e = absurd (none-some p e)
siblings_taken n (q ∷ ps) zero p e = ap (λ x. cond (nat_eq x n) (suc zero) zero) (same_Some q p e)
siblings_taken n (q ∷ ps) (suc j) p e = counted (nat_eq q n) (nat_eq p n) (siblings_taken n ps j p e)
  where
    counted : (b d : Bool) → siblings n (take (suc j) ps) ≡ cond d (suc (siblings n (take j ps))) (siblings n (take j ps))
        → cond b (suc (siblings n (take (suc j) ps))) (siblings n (take (suc j) ps))
        ≡ cond d (suc (cond b (suc (siblings n (take j ps))) (siblings n (take j ps)))) (cond b (suc (siblings n (take j ps))) (siblings n (take j ps)))
    counted true true h = ap suc h
    counted true false h = ap suc h
    counted false true h = h
    counted false false h = h

pub children_numbered : (rows : List Row) → IsTree rows → (n : ℕ) → IsNumber (parents_of rows) n → (m j : ℕ) → j + m ≡ length rows
    → (let outer = under (paths_of (parents_of rows)) n in
    let list = children_from outer j (drop j (places_of_rows rows)) in
    map (under (paths_of (parents_of rows))) list ≡ paths_below outer (siblings n (take j (parents_of rows))) (length list))
children_numbered rows t n number zero j e =
    let outer = under (paths_of (parents_of rows)) n in
    let past : length (places_of_rows rows) ≤ j = let s = shown_many rows in omega (arith, s, e) in
    ap (λ l. map (under (paths_of (parents_of rows))) (children_from outer j l)) (drop_past (places_of_rows rows) j past)
    ∙ sym (ap (λ l. paths_below outer (siblings n (take j (parents_of rows))) (length (children_from outer j l))) (drop_past (places_of_rows rows) j past))
children_numbered rows t n number (suc m) j e = elim (get_or_past (places_of_rows rows) j) [
  | inr past ↦ absurd (let s = shown_many rows in omega (arith, s, e, past))
  | inl found ↦ elim (get_or_past (parents_of rows) j) [
    | inr past ↦ absurd (let s = parents_many rows in omega (arith, s, e, past))
    | inl parent ↦ here found.0 found.1 parent.0 parent.1 (children_numbered rows t n number m (suc j) (omega (arith, e)))
  ]
]
  where
    here : (place : Place) → slice_get (places_of_rows rows) j ≡ Some place → (p : ℕ) → slice_get (parents_of rows) j ≡ Some p
        → map (under (paths_of (parents_of rows))) (children_from (under (paths_of (parents_of rows)) n) (suc j) (drop (suc j) (places_of_rows rows)))
        ≡ paths_below (under (paths_of (parents_of rows)) n) (siblings n (take (suc j) (parents_of rows)))
        (length (children_from (under (paths_of (parents_of rows)) n) (suc j) (drop (suc j) (places_of_rows rows))))
        → map (under (paths_of (parents_of rows))) (children_from (under (paths_of (parents_of rows)) n) j (drop j (places_of_rows rows)))
        ≡ paths_below (under (paths_of (parents_of rows)) n) (siblings n (take j (parents_of rows)))
        (length (children_from (under (paths_of (parents_of rows)) n) j (drop j (places_of_rows rows))))
    here place f p g others =
        let ps = parents_of rows in
        let outer = under (paths_of ps) n in
        let rest = children_from outer (suc j) (drop (suc j) (places_of_rows rows)) in
        let path_at_j = path_of_place rows j place f in
        let few = few_parents rows t in
        let child = child_of rows t n j p place.path number g path_at_j in
        let taken = siblings_taken n ps j p g in
        let list : children_from outer j (drop j (places_of_rows rows)) ≡ cond (nat_eq p n) (j ∷ rest) rest = ap (children_from outer j) (drop_get (places_of_rows rows) j place f) ∙ ap (λ b. cond b (j ∷ rest) rest) child in
        elim (eqb_tells p n) [
          | inl s ↦
              let is : children_from outer j (drop j (places_of_rows rows)) ≡ j ∷ rest = list ∙ ap (λ b. cond b (j ∷ rest) rest) s.0 in
              let more : siblings n (take (suc j) ps) ≡ suc (siblings n (take j ps)) = taken ∙ ap (λ b. cond b (suc (siblings n (take j ps))) (siblings n (take j ps))) s.0 in
              let first : under (paths_of ps) j ≡ outer ++ siblings n (take j ps) ∷ [] =
              same_Some _ _ (sym (under_get (paths_of ps) j (get_inside (paths_of ps) j place.path path_at_j)) ∙ has_paths ps t.before (omega (arith, few)) j p g)
              ∙ ap (λ q. under (paths_of ps) q ++ siblings q (take j ps) ∷ []) s.1 in
              ap (map (under (paths_of ps))) is
              ∙ (λ i. (first i ∷ (others ∙ ap (λ c. paths_below outer c (length rest)) more) i))
              ∙ sym (ap (λ l. paths_below outer (siblings n (take j ps)) (length l)) is)
          | inr s ↦
              let is : children_from outer j (drop j (places_of_rows rows)) ≡ rest = list ∙ ap (λ b. cond b (j ∷ rest) rest) s.0 in
              let same : siblings n (take (suc j) ps) ≡ siblings n (take j ps) = taken ∙ ap (λ b. cond b (suc (siblings n (take j ps))) (siblings n (take j ps))) s.0 in
              ap (map (under (paths_of ps))) is
              ∙ others ∙ ap (λ c. paths_below outer c (length rest)) same
              ∙ sym (ap (λ l. paths_below outer (siblings n (take j ps)) (length l)) is)
        ]

-- the children of a number have the paths of the first child, the second, and so on
abbrev pub AreNumbered : Shown → Path → Type 0
AreNumbered shown path = map (path_at shown) (children_of shown path) ≡ paths_below path 0 (length (children_of shown path))

numbered_of : (rows : List Row) → IsTree rows → (n : ℕ) → IsNumber (parents_of rows) n → AreNumbered (shown_of rows) (path_at (shown_of rows) n)
numbered_of rows t n number =
    let places = places_of_rows rows in
    let P : List Path → Type 0 = λ ps. map (under ps) (children_from (under ps n) 0 places) ≡ paths_below (under ps n) 0 (length (children_from (under ps n) 0 places)) in
    subst P (sym (row_paths rows)) (children_numbered rows t n number (length rows) 0 (omega arith))

pub numbered_in : (rows : List Row) (shown : Shown) → IsTree rows → shown_of rows ≡ shown → (n : ℕ) → (n < length shown.places) ⊎ (n ≡ none) → AreNumbered shown (path_at shown n)
numbered_in rows shown t view n within =
    let P : Shown → Type 0 = λ s. AreNumbered s (path_at s n) in
    let many = shown_many rows in
    let parents = parents_many rows in
    let same = ap (λ (s : Shown). length s.places) view in
    subst P view (numbered_of rows t n (elim within [ inl h ↦ inl (omega (arith, h, many, parents, same)) | inr h ↦ inr h ]))
