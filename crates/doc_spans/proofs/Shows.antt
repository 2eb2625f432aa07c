-- What a row of a tree shows.
use Rattle.std.proofs.Common.{◌≡◌, ℕ, zero, suc, ◌+◌, ◌-◌, ◌<◌, ◌≤◌, Bool, true, false, cond, ◌&&◌, List, [], ◌∷◌, ◌++◌, length, take, drop, Option, Some, None, refl, sym, ◌∙◌, ap, subst, subst₂, arith, nat_eq, get_or, ◌⊎◌, inl, inr}
use Rattle.std.proofs.lemmas.Option.{none-some, same_Some}
use Rattle.std.proofs.lemmas.Bool.{ne_eqb, eq-eqb, eqb-true}
use Rattle.std.proofs.lemmas.Bool.Decides.{eqb_tells}
use Rattle.std.specs.Option.{option_map_or}
use Rattle.std.specs.Prelude.{map, slice_get, IsTrue}
use Rattle.document_model.specs.Tree.{Path}
use Rattle.document_model.specs.Places.{Place}
use Rattle.std.specs.Str.{bytes_eq}
use Rattle.xml_items.proofs.AsciiTexts.{iff_same}
use Rattle.doc_spans.specs.declared.rows.Row.{Row}
use Rattle.doc_spans.specs.declared.rows.Kind.{Kind}
use Rattle.doc_spans.specs.View.{none, siblings, under, paths_of, parents_of, place_of_row, placed, places_of_rows, kinds_of_rows, next_from, Distinct, IsTree}
use Rattle.doc_spans.specs.Shown.{Shown, shown_of, path_at, outer_path, is_child, children_from, children_of, later_children, IsChild, ShowsRow}
use Rattle.doc_spans.proofs.Each.{each_get}
use Rattle.doc_spans.proofs.View.{get_past, get_inside, parents_many, paths_many, has_paths, under_get, snoc_some}
use Rattle.doc_spans.proofs.Builds.{row_paths, places_many, many}
use Rattle.doc_spans.proofs.Links.{get_row_parent}

-- Children by paths.

child_same : (outer : Path) (i : ℕ) → is_child outer (outer ++ i ∷ []) ≡ true
child_same [] i = refl
child_same (k ∷ outer) i = ap (λ b. b && is_child outer (outer ++ i ∷ [])) (eq-eqb k k refl) ∙ child_same outer i

child_apart : (outer other : Path) (i : ℕ) → (outer ≡ other → ⊥) → is_child outer (other ++ i ∷ []) ≡ false
child_apart [] [] i h = absurd (h refl)
child_apart [] (j ∷ []) i h = refl
child_apart [] (j ∷ l ∷ other) i h = refl
child_apart (k ∷ outer) [] i h = none_below (nat_eq k i) outer
  where
    none_below : (b : Bool) (outer : Path) → (b && is_child outer []) ≡ false
    none_below true [] = refl
    none_below true (l ∷ outer) = refl
    none_below false outer = refl
child_apart (k ∷ outer) (j ∷ other) i h = elim (eqb_tells k j) [
  | inl t ↦ ap (λ b. b && is_child outer (other ++ i ∷ [])) t.0 ∙ child_apart outer other i (λ e. h (λ x. (t.1 x ∷ e x)))
  | inr t ↦ ap (λ b. b && is_child outer (other ++ i ∷ [])) t.0
]

pub outer_more : (path : Path) (i : ℕ) → outer_path (path ++ i ∷ []) ≡ path
outer_more [] i = refl
outer_more (k ∷ []) i = refl
outer_more (k ∷ j ∷ path) i = ap (λ p. k ∷ p) (outer_more (j ∷ path) i)

-- Numbers by paths.

distinct_get : (xs : List Path) (a b : ℕ) (x : Path) → Distinct xs → slice_get xs a ≡ Some x → slice_get xs b ≡ Some x → a ≡ b
distinct_get [] a b x d e f = absurd (none-some x e)
distinct_get (y ∷ xs) zero zero x d e f = refl
distinct_get (y ∷ xs) zero (suc b) x d e f = absurd (each_get (λ z. z ≡ y → ⊥) xs b x d.0 f (sym (same_Some y x e)))
distinct_get (y ∷ xs) (suc a) zero x d e f = absurd (each_get (λ z. z ≡ y → ⊥) xs a x d.0 e (sym (same_Some y x f)))
distinct_get (y ∷ xs) (suc a) (suc b) x d e f = ap suc (distinct_get xs a b x d.1 e f)

abbrev pub IsNumber : List ℕ → ℕ → Type 0
IsNumber ps a = (a < length ps) ⊎ (a ≡ none)

pub few_parents : (rows : List Row) → IsTree rows → length (parents_of rows) < none
few_parents rows t = let n = parents_many rows in omega (arith, n, t.few)

under_none : (rows : List Row) → IsTree rows → under (paths_of (parents_of rows)) none ≡ []
under_none rows t =
    let m = paths_many (parents_of rows) in
    let f = few_parents rows t in
    ap (λ o. option_map_or (λ path. path) o []) (get_past (paths_of (parents_of rows)) none (omega (arith, m, f)))

under_some : (rows : List Row) → IsTree rows → (a : ℕ) → a < length (parents_of rows) → under (paths_of (parents_of rows)) a ≡ [] → ⊥
under_some rows t a h e =
    let ps = parents_of rows in
    let m = paths_many ps in
    let f = few_parents rows t in
    let here : (q : ℕ) × (slice_get ps a ≡ Some q) = get_some ps a h in
    snoc_some (under (paths_of ps) here.0) (siblings here.0 (take a ps))
    (same_Some _ _ (sym (has_paths ps t.before (omega (arith, f)) a here.0 here.1) ∙ under_get (paths_of ps) a (omega (arith, m, h))) ∙ e)
  where
    get_some : (ps : List ℕ) (a : ℕ) → a < length ps → (q : ℕ) × (slice_get ps a ≡ Some q)
    get_some [] a h = absurd (omega arith)
    get_some (q ∷ ps) zero h = (q, refl)
    get_some (q ∷ ps) (suc a) h = get_some ps a (omega (arith, h))

under_same : (rows : List Row) → IsTree rows → (a b : ℕ) → IsNumber (parents_of rows) a → IsNumber (parents_of rows) b
    → under (paths_of (parents_of rows)) a ≡ under (paths_of (parents_of rows)) b → a ≡ b
under_same rows t a b (inl h) (inl k) e =
    let m = paths_many (parents_of rows) in
    distinct_get (paths_of (parents_of rows)) a b _ t.distinct (under_get (paths_of (parents_of rows)) a (omega (arith, m, h)) ∙ ap Some e) (under_get (paths_of (parents_of rows)) b (omega (arith, m, k)))
under_same rows t a b (inl h) (inr k) e = absurd (under_some rows t a h (e ∙ ap (under (paths_of (parents_of rows))) k ∙ under_none rows t))
under_same rows t a b (inr h) (inl k) e = absurd (under_some rows t b k (sym e ∙ ap (under (paths_of (parents_of rows))) h ∙ under_none rows t))
under_same rows t a b (inr h) (inr k) e = h ∙ sym k

-- a place is a child of a number's path exactly where the number is its parent
pub child_of : (rows : List Row) → IsTree rows → (n k p : ℕ) (path : Path) → IsNumber (parents_of rows) n → slice_get (parents_of rows) k ≡ Some p → slice_get (paths_of (parents_of rows)) k ≡ Some path
    → is_child (under (paths_of (parents_of rows)) n) path ≡ nat_eq p n
child_of rows t n k p path number e f =
    let ps = parents_of rows in
    let few = few_parents rows t in
    let is : path ≡ under (paths_of ps) p ++ siblings p (take k ps) ∷ [] = same_Some path _ (sym f ∙ has_paths ps t.before (omega (arith, few)) k p e) in
    let parent : IsNumber ps p = elim (t.before k p e) [ inl h ↦ (let i = get_inside ps k p e in inl (omega (arith, h, i))) | inr h ↦ inr h ] in
    ap (is_child (under (paths_of ps) n)) is
    ∙ elim (eqb_tells p n) [
      | inl s ↦ ap (λ a. is_child (under (paths_of ps) n) (under (paths_of ps) a ++ siblings p (take k ps) ∷ [])) s.1
          ∙ child_same (under (paths_of ps) n) (siblings p (take k ps)) ∙ sym s.0
      | inr s ↦ child_apart (under (paths_of ps) n) (under (paths_of ps) p) (siblings p (take k ps)) (λ same. s.1 (sym (under_same rows t n p number parent same))) ∙ sym s.0
    ]

-- Going on to the next child.

pub drop_get : {X : Type 0} (xs : List X) (j : ℕ) (x : X) → slice_get xs j ≡ Some x → drop j xs ≡ x ∷ drop (suc j) xs
drop_get [] j x e = absurd (none-some x e)
drop_get (y ∷ xs) zero x e = ap (λ z. z ∷ xs) (same_Some y x e)
drop_get (y ∷ xs) (suc j) x e = drop_get xs j x e

pub drop_past : {X : Type 0} (xs : List X) (j : ℕ) → length xs ≤ j → drop j xs ≡ []
drop_past [] zero h = refl
drop_past [] (suc j) h = refl
drop_past (x ∷ xs) zero h = absurd (omega arith)
drop_past (x ∷ xs) (suc j) h = drop_past xs j (omega (arith, h))

pub get_or_past : {X : Type 0} (xs : List X) (j : ℕ) → ((x : X) × (slice_get xs j ≡ Some x)) ⊎ (length xs ≤ j)
get_or_past [] j = inr (omega arith)
get_or_past (x ∷ xs) zero = inl (x, refl)
get_or_past (x ∷ xs) (suc j) = elim (get_or_past xs j) [ inl h ↦ inl h | inr h ↦ inr (omega (arith, h)) ]

pub skip_to : (outer : Path) (places : List Place) (n j m : ℕ) → j + n ≡ m
    → ((i : ℕ) (place : Place) → j ≤ i → i < m → slice_get places i ≡ Some place → is_child outer place.path ≡ false)
    → children_from outer j (drop j places) ≡ children_from outer m (drop m places)
skip_to outer places zero j m e h = let same : j ≡ m = omega (arith, e) in ap (λ i. children_from outer i (drop i places)) same
skip_to outer places (suc n) j m e h = elim (get_or_past places j) [
  | inl found ↦
      ap (children_from outer j) (drop_get places j found.0 found.1)
      ∙ ap (λ b. cond b (j ∷ children_from outer (suc j) (drop (suc j) places)) (children_from outer (suc j) (drop (suc j) places)))
      (h j found.0 (omega arith) (omega (arith, e)) found.1)
      ∙ skip_to outer places n (suc j) m (omega (arith, e)) (λ i place k l f. h i place (omega (arith, k)) l f)
  | inr past ↦ ap (children_from outer j) (drop_past places j past) ∙ sym (ap (children_from outer m) (drop_past places m (omega (arith, past, e))))
]

-- what `next_from` finds
next_before : (p : ℕ) (ps : List ℕ) (k i q : ℕ) → slice_get ps i ≡ Some q → k + i < next_from p k ps → q ≡ p → ⊥
next_before p [] k i q e h same = absurd (none-some q e)
next_before p (x ∷ ps) k zero q e h same = (
    let n : next_from p k (x ∷ ps) ≡ k = ap (λ b. cond b k (next_from p (suc k) ps)) (eq-eqb x p (same_Some x q e ∙ same)) in omega (arith, n, h)
    )
next_before p (x ∷ ps) k (suc i) q e h same = elim (eqb_tells x p) [
  | inl t ↦ (let n : next_from p k (x ∷ ps) ≡ k = ap (λ b. cond b k (next_from p (suc k) ps)) t.0 in omega (arith, n, h))
  | inr t ↦ (
      let n : next_from p k (x ∷ ps) ≡ next_from p (suc k) ps = ap (λ b. cond b k (next_from p (suc k) ps)) t.0 in
      next_before p ps (suc k) i q e (omega (arith, n, h)) same
      )
]

next_hits : (p : ℕ) (ps : List ℕ) (k : ℕ) → (next_from p k ps ≡ none) ⊎ ((i : ℕ) × (next_from p k ps ≡ k + i) × (slice_get ps i ≡ Some p))
next_hits p [] k = inl refl
next_hits p (x ∷ ps) k = elim (eqb_tells x p) [
  | inl t ↦ inr (0, ap (λ b. cond b k (next_from p (suc k) ps)) t.0 ∙ (let a : k ≡ k + 0 = omega arith in a), ap Some t.1)
  | inr t ↦
      let n : next_from p k (x ∷ ps) ≡ next_from p (suc k) ps = ap (λ b. cond b k (next_from p (suc k) ps)) t.0 in
      elim (next_hits p ps (suc k)) [
        | inl h ↦ inl (n ∙ h)
        | inr h ↦ inr (suc h.0, n ∙ h.1 ∙ (let a : suc k + h.0 ≡ k + suc h.0 = omega arith in a), h.2)
      ]
]

get_drop : (xs : List ℕ) (k i : ℕ) → slice_get (drop k xs) i ≡ slice_get xs (k + i)
get_drop xs zero i = ap (slice_get xs) (let a : i ≡ 0 + i = omega arith in a)
get_drop [] (suc k) i = refl
get_drop (x ∷ xs) (suc k) i = get_drop xs k i ∙ ap (slice_get (x ∷ xs)) (let a : suc (k + i) ≡ suc k + i = omega arith in a)

-- the path of a place
pub path_of_place : (rows : List Row) (i : ℕ) (place : Place) → slice_get (places_of_rows rows) i ≡ Some place → slice_get (paths_of (parents_of rows)) i ≡ Some place.path
path_of_place rows i place e = ap (λ l. slice_get l i) (sym (row_paths rows)) ∙ mapped (places_of_rows rows) i e
  where
    mapped : (ps : List Place) (i : ℕ) → slice_get ps i ≡ Some place → slice_get (map (λ x. x.path) ps) i ≡ Some place.path
    mapped [] i e = absurd (none-some place e)
    mapped (x ∷ ps) zero e = let f : Place → Option Path = λ y. Some y.path in ap f (same_Some x place e)
    mapped (x ∷ ps) (suc i) e = mapped ps i e

pub path_is : (rows : List Row) (k : ℕ) → path_at (shown_of rows) k ≡ under (paths_of (parents_of rows)) k
path_is rows k = ap (λ l. under l k) (row_paths rows)

get_placed : (rows : List Row) (ps : List Path) (k : ℕ) (row : Row) (path : Path) → slice_get rows k ≡ Some row → slice_get ps k ≡ Some path → slice_get (placed rows ps) k ≡ Some (place_of_row path row)
get_placed [] ps k row path e f = absurd (none-some row e)
get_placed (r ∷ rows) [] k row path e f = absurd (none-some path f)
get_placed (r ∷ rows) (q ∷ ps) zero row path e f = (λ i. Some (place_of_row (same_Some q path f i) (same_Some r row e i)))
get_placed (r ∷ rows) (q ∷ ps) (suc k) row path e f = get_placed rows ps k row path e f

get_kind : (rows : List Row) (k : ℕ) (row : Row) → slice_get rows k ≡ Some row → slice_get (kinds_of_rows rows) k ≡ Some row.kind
get_kind [] k row e = absurd (none-some row e)
get_kind (r ∷ rows) zero row e = let f : Row → Option Kind = λ x. Some x.kind in ap f (same_Some r row e)
get_kind (r ∷ rows) (suc k) row e = get_kind rows k row e

child_outer : (outer path : Path) → is_child outer path ≡ true → outer ≡ outer_path path
child_outer [] [] e = cc
child_outer [] (k ∷ []) e = refl
child_outer [] (k ∷ j ∷ path) e = cc
child_outer (k ∷ outer) [] e = cc
child_outer (k ∷ outer) (j ∷ []) e = absurd (nothing (nat_eq k j) outer e)
  where
    nothing : (b : Bool) (outer : Path) → (b && is_child outer []) ≡ true → ⊥
    nothing true [] e = cc
    nothing true (l ∷ outer) e = cc
    nothing false outer e = cc
child_outer (k ∷ outer) (j ∷ l ∷ path) e = elim (eqb_tells k j) [
  | inl t ↦ (let rest = child_outer outer (l ∷ path) (sym (ap (λ b. b && is_child outer (l ∷ path)) t.0) ∙ e) in (λ i. (t.1 i ∷ rest i)))
  | inr t ↦ (let f : false ≡ true = sym (ap (λ b. b && is_child outer (l ∷ path)) t.0) ∙ e in (cc))
]

child_where : (shown : Shown) (outer : Path) (k : ℕ) → ((place : Place) → slice_get shown.places k ≡ Some place → is_child outer place.path ≡ true) → IsChild shown outer k
child_where shown outer k h = by_place (slice_get shown.places k) h
  where
    by_place : (o : Option Place) → ((place : Place) → o ≡ Some place → is_child outer place.path ≡ true) → IsTrue (option_map_or (λ place. is_child outer place.path) o true)
    by_place None h = refl
    by_place (Some place) h = h place refl

-- the children of a number from a place on, where no child stands before another number
pub next_child : (rows : List Row) → IsTree rows → (n j : ℕ) → IsNumber (parents_of rows) n → j ≤ length rows
    → (let m = next_from n j (drop j (parents_of rows)) in
    (later_children (shown_of rows) (under (paths_of (parents_of rows)) n) j ≡ later_children (shown_of rows) (under (paths_of (parents_of rows)) n) m)
    × IsChild (shown_of rows) (under (paths_of (parents_of rows)) n) m)
next_child rows t n j number inside = (
  skip_to (under (paths_of (parents_of rows)) n) (places_of_rows rows) (next_from n j (drop j (parents_of rows)) - j) j (next_from n j (drop j (parents_of rows)))
      (upto j (next_from n j (drop j (parents_of rows))) far) between,
  child_where (shown_of rows) (under (paths_of (parents_of rows)) n) (next_from n j (drop j (parents_of rows))) hit,
)
  where
    upto : (a b : ℕ) → a ≤ b → a + (b - a) ≡ b
    upto a b h = omega (arith, h)

    far : j ≤ next_from n j (drop j (parents_of rows))
    far = elim (next_hits n (drop j (parents_of rows)) j) [ inl h ↦ omega (arith, h, inside, t.few) | inr h ↦ omega (arith, h.1) ]

    between : (i : ℕ) (place : Place) → j ≤ i → i < next_from n j (drop j (parents_of rows)) → slice_get (places_of_rows rows) i ≡ Some place
        → is_child (under (paths_of (parents_of rows)) n) place.path ≡ false
    between i place l h e = elim (get_or_past (parents_of rows) i) [
      | inl found ↦
          let at : slice_get (drop j (parents_of rows)) (i - j) ≡ Some found.0 = get_drop (parents_of rows) j (i - j) ∙ ap (slice_get (parents_of rows)) (upto j i l) ∙ found.1 in
          child_of rows t n i found.0 place.path number found.1 (path_of_place rows i place e)
          ∙ ne_eqb found.0 n (next_before n (drop j (parents_of rows)) j (i - j) found.0 at (omega (arith, h, upto j i l)))
      | inr past ↦ absurd (
          let k = get_inside (paths_of (parents_of rows)) i place.path (path_of_place rows i place e) in
          let m = paths_many (parents_of rows) in omega (arith, past, k, m)
          )
    ]

    hit : (place : Place) → slice_get (places_of_rows rows) (next_from n j (drop j (parents_of rows))) ≡ Some place → is_child (under (paths_of (parents_of rows)) n) place.path ≡ true
    hit place e = elim (next_hits n (drop j (parents_of rows)) j) [
      | inl h ↦ absurd (
          let k = get_inside (paths_of (parents_of rows)) (next_from n j (drop j (parents_of rows))) place.path (path_of_place rows (next_from n j (drop j (parents_of rows))) place e) in
          let m = paths_many (parents_of rows) in
          let f = few_parents rows t in omega (arith, h, k, m, f)
          )
      | inr h ↦
          child_of rows t n (next_from n j (drop j (parents_of rows))) n place.path number
          (ap (slice_get (parents_of rows)) h.1 ∙ sym (get_drop (parents_of rows) j h.0) ∙ h.2) (path_of_place rows (next_from n j (drop j (parents_of rows))) place e)
          ∙ eq-eqb n n refl
    ]

-- What a row shows.
pub shows_row : (rows : List Row) → IsTree rows → (k : ℕ) (row : Row) → slice_get rows k ≡ Some row → ShowsRow (shown_of rows) k row
shows_row rows t k row e = record {
  place = get_placed rows (paths_of (parents_of rows)) k row (path_at (shown_of rows) k) e (here ∙ ap Some (sym (path_is rows k)));
  kind = get_kind rows k row e;
  parent = path_is rows row.parent ∙ sym (outer_more (under (paths_of (parents_of rows)) row.parent) (siblings row.parent (take k (parents_of rows)))) ∙ ap outer_path (sym whole ∙ sym (path_is rows k));
  next = λ outer child. next_one outer child;
}
  where
    inside : k < length (parents_of rows)
    inside = get_inside (parents_of rows) k row.parent (get_row_parent rows k row e)

    here : slice_get (paths_of (parents_of rows)) k ≡ Some (under (paths_of (parents_of rows)) k)
    here = let m = paths_many (parents_of rows) in under_get (paths_of (parents_of rows)) k (omega (arith, m, inside))

    whole : under (paths_of (parents_of rows)) k ≡ under (paths_of (parents_of rows)) row.parent ++ siblings row.parent (take k (parents_of rows)) ∷ []
    whole =
        let f = few_parents rows t in
        same_Some _ _ (sym here ∙ has_paths (parents_of rows) t.before (omega (arith, f)) k row.parent (get_row_parent rows k row e))

    number : IsNumber (parents_of rows) row.parent
    number = elim (t.before k row.parent (get_row_parent rows k row e)) [ inl h ↦ inl (omega (arith, h, inside)) | inr h ↦ inr h ]

    place : slice_get (places_of_rows rows) k ≡ Some (place_of_row (under (paths_of (parents_of rows)) k) row)
    place = get_placed rows (paths_of (parents_of rows)) k row (under (paths_of (parents_of rows)) k) e here

    next_one : (outer : Path) → IsChild (shown_of rows) outer k
        → (later_children (shown_of rows) outer k ≡ k ∷ later_children (shown_of rows) outer row.next) × IsChild (shown_of rows) outer row.next
    next_one outer child =
        let is : is_child outer (under (paths_of (parents_of rows)) k) ≡ true = sym (ap (λ o. option_map_or (λ x. is_child outer x.path) o true) place) ∙ child in
        let same : outer ≡ under (paths_of (parents_of rows)) row.parent =
        child_outer outer _ is ∙ ap outer_path whole ∙ outer_more (under (paths_of (parents_of rows)) row.parent) (siblings row.parent (take k (parents_of rows))) in
        let m = parents_many rows in
        let after = next_child rows t row.parent (suc k) number (omega (arith, m, inside)) in
        let link = t.linked k row e in
        let P : Path → Type 0 = λ o. (later_children (shown_of rows) o (suc k) ≡ later_children (shown_of rows) o row.next) × IsChild (shown_of rows) o row.next in
        let Q : ℕ → Type 0 = λ n. (later_children (shown_of rows) (under (paths_of (parents_of rows)) row.parent) (suc k) ≡ later_children (shown_of rows) (under (paths_of (parents_of rows)) row.parent) n)
        × IsChild (shown_of rows) (under (paths_of (parents_of rows)) row.parent) n in
        let behind : (later_children (shown_of rows) outer (suc k) ≡ later_children (shown_of rows) outer row.next) × IsChild (shown_of rows) outer row.next = subst P (sym same) (subst Q (sym link) after) in (
          ap (children_from outer k) (drop_get (places_of_rows rows) k _ place)
              ∙ ap (λ b. cond b (k ∷ later_children (shown_of rows) outer (suc k)) (later_children (shown_of rows) outer (suc k))) is
              ∙ ap (λ l. k ∷ l) behind.0,
          behind.1,
        )

-- Where the children of a number begin.
pub first_child : (rows : List Row) → IsTree rows → (n : ℕ) → IsNumber (parents_of rows) n → (m : ℕ) → next_from n 0 (parents_of rows) ≡ m
    → (children_of (shown_of rows) (path_at (shown_of rows) n) ≡ later_children (shown_of rows) (path_at (shown_of rows) n) m) × IsChild (shown_of rows) (path_at (shown_of rows) n) m
first_child rows t n number m e =
    let P : Path → ℕ → Type 0 = λ o k. (later_children (shown_of rows) o 0 ≡ later_children (shown_of rows) o k) × IsChild (shown_of rows) o k in
    subst₂ P (sym (path_is rows n)) e (next_child rows t n 0 number (omega arith))

-- the first child stands right behind, and the first node of all has number 0
pub first_is_next : (rows : List Row) → IsTree rows → (n : ℕ) → n < length rows → slice_get (parents_of rows) (suc n) ≡ Some n → next_from n 0 (parents_of rows) ≡ suc n
first_is_next rows t n inside e =
    let few = few_parents rows t in
    let m = parents_many rows in
    let none_before : suc n < next_from n 0 (parents_of rows) → ⊥ = λ h. next_before n (parents_of rows) 0 (suc n) n e (omega (arith, h)) refl in
    elim (next_hits n (parents_of rows) 0) [
      | inl h ↦ absurd (none_before (omega (arith, h, inside, few, m)))
      | inr h ↦ elim (t.before h.0 n h.2) [
        | inl k ↦ is (next_from n 0 (parents_of rows)) none_before (omega (arith, h.1, k))
        | inr k ↦ absurd (omega (arith, k, inside, few, m))
      ]
    ]
  where
    is : (a : ℕ) → (suc n < a → ⊥) → n < a → a ≡ suc n
    is a h k = omega (arith, h, k)

pub first_of_all : (rows : List Row) → IsTree rows → 0 < length rows → next_from none 0 (parents_of rows) ≡ 0
first_of_all [] t h = absurd (omega arith)
first_of_all (row ∷ rows) t h = elim (t.before 0 row.parent refl) [
  | inl k ↦ absurd (omega (arith, k))
  | inr k ↦ ap (λ b. cond b 0 (next_from none 1 (parents_of rows))) (eq-eqb row.parent none k)
]

pub first_is_none : (rows : List Row) → IsTree rows → (n : ℕ) → n < length rows → (slice_get (parents_of rows) (suc n) ≡ Some n → ⊥) → next_from n 0 (parents_of rows) ≡ none
first_is_none rows t n inside e = elim (next_hits n (parents_of rows) 0) [
  | inl h ↦ h
  | inr h ↦ (let m = parents_many rows in absurd (e (t.first h.0 n h.2 (omega (arith, m, inside)))))
]

pub shown_many : (rows : List Row) → length (shown_of rows).places ≡ length rows
shown_many rows = places_many rows (paths_of (parents_of rows)) (many rows)

pub get_from : (rows : List Row) (k : ℕ) (row : Row) → k < length rows → row ≡ get_or rows k row → slice_get rows k ≡ Some row
get_from [] k row h e = absurd (omega arith)
get_from (first ∷ rows) zero row h e = let f : Row → Option Row = λ r. Some r in ap f (sym e)
get_from (first ∷ rows) (suc k) row h e = get_from rows k row (omega (arith, h)) e

pub parent_from : (rows : List Row) (k : ℕ) (row : Row) → k < length rows → row ≡ get_or rows k row → slice_get (parents_of rows) k ≡ Some row.parent
parent_from rows k row h e = get_row_parent rows k row (get_from rows k row h e)

-- where the children of a number begin, as a tree sees it
abbrev pub Begin : Shown → ℕ → ℕ → Type 0
Begin shown n m = (children_of shown (path_at shown n) ≡ later_children shown (path_at shown n) m) × IsChild shown (path_at shown n) m

pub begin_next : (rows : List Row) (shown : Shown) → IsTree rows → shown_of rows ≡ shown → (n k : ℕ) (row : Row) → n < length rows → k ≡ suc n → k < length rows
    → row ≡ get_or rows k row → row.parent ≡ n → Begin shown n k
begin_next rows shown t view n k row h e inside at is =
    let m = parents_many rows in
    let P : Shown → Type 0 = λ s. Begin s n k in
    let found : slice_get (parents_of rows) (suc n) ≡ Some n = ap (slice_get (parents_of rows)) (sym e) ∙ parent_from rows k row inside at ∙ ap Some is in
    subst P view (first_child rows t n (inl (omega (arith, h, m))) k (first_is_next rows t n h found ∙ sym e))

pub begin_none : (rows : List Row) (shown : Shown) → IsTree rows → shown_of rows ≡ shown → (n : ℕ) → n < length rows → (slice_get (parents_of rows) (suc n) ≡ Some n → ⊥) → Begin shown n none
begin_none rows shown t view n h apart =
    let m = parents_many rows in
    let P : Shown → Type 0 = λ s. Begin s n none in
    subst P view (first_child rows t n (inl (omega (arith, h, m))) none (first_is_none rows t n h apart))

pub not_next : (rows : List Row) (n k : ℕ) (row : Row) → k ≡ suc n → k < length rows → row ≡ get_or rows k row → (row.parent ≡ n → ⊥) → slice_get (parents_of rows) (suc n) ≡ Some n → ⊥
not_next rows n k row e inside at apart f =
    apart (same_Some row.parent n (sym (parent_from rows k row inside at) ∙ ap (slice_get (parents_of rows)) e ∙ f))

pub not_behind : (rows : List Row) (n k : ℕ) → k ≡ suc n → length rows ≤ k → slice_get (parents_of rows) (suc n) ≡ Some n → ⊥
not_behind rows n k e past f = let i = get_inside (parents_of rows) (suc n) n f in let m = parents_many rows in omega (arith, i, m, e, past)

pub begin_top : (rows : List Row) (shown : Shown) → IsTree rows → shown_of rows ≡ shown → (n : ℕ) → n ≡ none → Begin shown n 0
begin_top [] shown t view n e = let P : Shown → Type 0 = λ s. Begin s n 0 in subst P view (refl, refl)
begin_top (row ∷ rows) shown t view n e =
    let P : Shown → ℕ → Type 0 = λ s k. Begin s k 0 in
    subst₂ P view (sym e) (first_child (row ∷ rows) t none (inr refl) 0 (first_of_all (row ∷ rows) t (omega arith)))

-- no number has the path of the document
pub top_path : (rows : List Row) → IsTree rows → path_at (shown_of rows) none ≡ []
top_path rows t = path_is rows none ∙ under_none rows t

-- two numbers of one node are one number
pub same_number : (rows : List Row) (shown : Shown) → IsTree rows → shown_of rows ≡ shown → (a b : ℕ) → a < length shown.places → b < length shown.places
    → nat_eq a b ≡ bytes_eq (path_at shown a) (path_at shown b)
same_number rows shown t view a b h k =
    let P : Shown → Type 0 = λ s. nat_eq a b ≡ bytes_eq (path_at s a) (path_at s b) in
    let e = ap (λ (s : Shown). length s.places) view in
    let many = shown_many rows in
    let parents = parents_many rows in
    subst P view (iff_same (nat_eq a b) (path_at (shown_of rows) a) (path_at (shown_of rows) b) (λ same. ap (path_at (shown_of rows)) (eqb-true a b same))
    (λ paths. eq-eqb a b (under_same rows t a b (inl (omega (arith, h, e, many, parents))) (inl (omega (arith, k, e, many, parents))) (sym (path_is rows a) ∙ paths ∙ path_is rows b))))
