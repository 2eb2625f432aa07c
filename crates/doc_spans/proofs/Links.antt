-- The links of the rows while they are built.
use Rattle.std.proofs.Common.{◌≡◌, ℕ, zero, suc, ◌+◌, ◌<◌, ◌≤◌, Bool, true, false, cond, List, [], ◌∷◌, ◌++◌, length, drop, Option, Some, refl, sym, ◌∙◌, ap, subst, arith, length-append, length-drop, ◌⊎◌, inl, inr}
use Rattle.std.proofs.lemmas.Option.{none-some, same_Some}
use Rattle.std.proofs.lemmas.Bool.{ne_eqb, eq-eqb}
use Rattle.std.proofs.lemmas.Bool.Decides.{eqb_tells}
use Rattle.std.specs.Prelude.{slice_get}
use Rattle.document_model.specs.Items.{Piece}
use Rattle.doc_spans.specs.declared.rows.Row.{Row}
use Rattle.doc_spans.specs.declared.rows.Kind.{Kind}
use Rattle.doc_spans.specs.declared.rows.Kind.TheVariants.{Element}
use Rattle.doc_spans.specs.Marks.{size, items_of, open_path}
use Rattle.doc_spans.specs.Building as building
use Rattle.doc_spans.specs.Building.{State, with_next, with_end, parent_of}
use Rattle.doc_spans.specs.View.{none, siblings, paths_of, parents_of, next_from, AreBefore, AreLinked, FirstIsNext}
use Rattle.doc_spans.proofs.Marks.{within_self}
use Rattle.doc_spans.proofs.Steps.{child_count}
use Rattle.doc_spans.proofs.View.{get_front, get_last, get_inside, get_either, parents_more, parents_many, parents_next, parents_end, next_many, end_many, get_parent, drop_front, drop_one_more, siblings_split, under_get, paths_many}
use Rattle.doc_spans.proofs.Builds.{Builds, Next, IsNothing, IsLeaf, IsStart, builds_nothing, builds_leaf, builds_start, new_row, rows_with, rows_parents, rows_length, current_is}
use Rattle.doc_spans.proofs.EndedRows.{IsEnd, GoesOn, builds_on, builds_end}

-- the last child of the open element, if it has one
abbrev pub LastChild : List ℕ → ℕ → ℕ → Type 0
LastChild parents current previous =
    ((siblings current parents ≡ 0) × (previous ≡ none)) ⊎ ((slice_get parents previous ≡ Some current) × (siblings current (drop (suc previous) parents) ≡ 0))

pub record Links (s : State) (pieces : List Piece) : Type 0 where
  pub linked : AreLinked s.rows
  pub first : FirstIsNext (parents_of s.rows)
  pub last : LastChild (parents_of s.rows) s.current s.previous
  pub opened : siblings s.current (parents_of s.rows) ≡ 0 → s.current < length s.rows → suc s.current ≡ length s.rows

-- One row.

pub get_row_parent : (rows : List Row) (k : ℕ) (row : Row) → slice_get rows k ≡ Some row → slice_get (parents_of rows) k ≡ Some row.parent
get_row_parent [] k row e = absurd (none-some row e)
get_row_parent (first ∷ rows) zero row e = let f : Row → Option ℕ = λ r. Some r.parent in ap f (same_Some first row e)
get_row_parent (first ∷ rows) (suc k) row e = get_row_parent rows k row e

get_next : (j n : ℕ) (rows : List Row) (k : ℕ) (row : Row) → slice_get (with_next j n rows) k ≡ Some row
    → ((k ≡ j) × (row.next ≡ n) × (slice_get (parents_of rows) k ≡ Some row.parent)) ⊎ ((k ≡ j → ⊥) × (slice_get rows k ≡ Some row))
get_next j n [] k row e = absurd (none-some row e)
get_next zero n (first ∷ rows) zero row e =
    let is = same_Some (record first { next = n }) row e in
    let f : Row → Option ℕ = λ r. Some r.parent in
    let g : Row → ℕ = λ r. r.next in inl (refl, sym (ap g is), ap f is)
get_next zero n (first ∷ rows) (suc k) row e = inr (λ h. omega (arith, h), e)
get_next (suc j) n (first ∷ rows) zero row e = inr (λ h. omega (arith, h), e)
get_next (suc j) n (first ∷ rows) (suc k) row e = elim (get_next j n rows k row e) [
  | inl h ↦ inl (ap suc h.0, h.1, h.2)
  | inr h ↦ inr (λ f. h.0 (omega (arith, f)), h.1)
]

get_ended : (j n : ℕ) (rows : List Row) (k : ℕ) (row : Row) → slice_get (with_end j n rows) k ≡ Some row
    → (old : Row) × (slice_get rows k ≡ Some old) × (old.parent ≡ row.parent) × (old.next ≡ row.next)
get_ended j n [] k row e = absurd (none-some row e)
get_ended zero n (first ∷ rows) zero row e =
    let is = same_Some (record first { end = n }) row e in
    let f : Row → ℕ = λ r. r.parent in
    let g : Row → ℕ = λ r. r.next in (first, refl, ap f is, ap g is)
get_ended zero n (first ∷ rows) (suc k) row e = (row, e, refl, refl)
get_ended (suc j) n (first ∷ rows) zero row e = (row, e, refl, refl)
get_ended (suc j) n (first ∷ rows) (suc k) row e = get_ended j n rows k row e

-- Siblings behind.

pub siblings_has : (ps : List ℕ) (k j p : ℕ) → slice_get ps j ≡ Some p → k ≤ j → 0 < siblings p (drop k ps)
siblings_has ps zero j p e h = let n = siblings_split ps j p e in omega (arith, n)
siblings_has [] (suc k) j p e h = absurd (none-some p e)
siblings_has (q ∷ ps) (suc k) zero p e h = absurd (omega arith)
siblings_has (q ∷ ps) (suc k) (suc j) p e h = siblings_has ps k j p e (omega (arith, h))

siblings_some : (ps : List ℕ) (p : ℕ) → 0 < siblings p ps → (k : ℕ) × (slice_get ps k ≡ Some p)
siblings_some [] p h = absurd (omega arith)
siblings_some (q ∷ ps) p h = elim (eqb_tells q p) [
  | inl t ↦ (0, ap Some t.1)
  | inr t ↦ let n : siblings p (q ∷ ps) ≡ siblings p ps = ap (λ b. cond b (suc (siblings p ps)) (siblings p ps)) t.0 in
      let found = siblings_some ps p (omega (arith, h, n)) in (suc found.0, found.1)
]

next_last : (p k : ℕ) (xs : List ℕ) → siblings p xs ≡ 0 → next_from p k (xs ++ p ∷ []) ≡ k + length xs
next_last p k [] e = ap (λ b. cond b k none) (eq-eqb p p refl) ∙ (let a : k ≡ k + 0 = omega arith in a)
next_last p k (x ∷ xs) e = elim (eqb_tells x p) [
  | inl t ↦ absurd (let n : siblings p (x ∷ xs) ≡ suc (siblings p xs) = ap (λ b. cond b (suc (siblings p xs)) (siblings p xs)) t.0 in omega (arith, n, e))
  | inr t ↦
      let n : siblings p (x ∷ xs) ≡ siblings p xs = ap (λ b. cond b (suc (siblings p xs)) (siblings p xs)) t.0 in
      ap (λ b. cond b k (next_from p (suc k) (xs ++ p ∷ []))) t.0
      ∙ next_last p (suc k) xs (sym n ∙ e)
      ∙ (let a : suc k + length xs ≡ k + suc (length xs) = omega arith in a)
]

next_same : (p k : ℕ) (xs : List ℕ) (q : ℕ) → (0 < siblings p xs) ⊎ (q ≡ p → ⊥) → next_from p k (xs ++ q ∷ []) ≡ next_from p k xs
next_same p k [] q (inl h) = absurd (omega arith)
next_same p k [] q (inr h) = ap (λ b. cond b k none) (ne_eqb q p h)
next_same p k (x ∷ xs) q h = elim (eqb_tells x p) [
  | inl t ↦ ap (λ b. cond b k (next_from p (suc k) (xs ++ q ∷ []))) t.0 ∙ sym (ap (λ b. cond b k (next_from p (suc k) xs)) t.0)
  | inr t ↦
      let n : siblings p (x ∷ xs) ≡ siblings p xs = ap (λ b. cond b (suc (siblings p xs)) (siblings p xs)) t.0 in
      let rest : (0 < siblings p xs) ⊎ (q ≡ p → ⊥) = elim h [ inl some ↦ inl (omega (arith, some, n)) | inr apart ↦ inr apart ] in
      ap (λ b. cond b k (next_from p (suc k) (xs ++ q ∷ []))) t.0
      ∙ next_same p (suc k) xs q rest
      ∙ sym (ap (λ b. cond b k (next_from p (suc k) xs)) t.0)
]

-- One more row.

linked_more : (rows : List Row) (previous : ℕ) (new : Row) → length rows < none → new.next ≡ none → AreLinked rows → LastChild (parents_of rows) new.parent previous
    → AreLinked (with_next previous (length rows) rows ++ new ∷ [])
linked_more rows previous new few last_one linked which k row e =
    let ps = parents_of rows in
    let same : parents_of (with_next previous (length rows) rows ++ new ∷ []) ≡ ps ++ new.parent ∷ [] =
    parents_more (with_next previous (length rows) rows) new ∙ ap (λ l. l ++ new.parent ∷ []) (parents_next previous (length rows) rows) in
    let n = parents_many rows in
    let m = next_many previous (length rows) rows in
    let P : List ℕ → Type 0 = λ l. row.next ≡ next_from row.parent (suc k) (drop (suc k) l) in
    subst P (sym same) (elim (get_either (with_next previous (length rows) rows) new k row e) [
      | inl old ↦
          let Q : List ℕ → Type 0 = λ l. row.next ≡ next_from row.parent (suc k) l in
          let inside : suc k ≤ length ps = omega (arith, n, m, old.0) in
          subst Q (sym (drop_front ps (new.parent ∷ []) (suc k) inside)) (elim (get_next previous (length rows) rows k row old.1) [
            | inl here ↦ elim which [
              | inl no_child ↦ absurd (omega (arith, here.0, no_child.1, old.0, m, few))
              | inr child ↦
                  let is : row.parent ≡ new.parent = same_Some row.parent new.parent (sym here.2 ∙ ap (slice_get ps) here.0 ∙ child.0) in
                  let none_later : siblings row.parent (drop (suc k) ps) ≡ 0 = ap (λ p. siblings p (drop (suc k) ps)) is ∙ ap (λ j. siblings new.parent (drop (suc j) ps)) here.0 ∙ child.1 in
                  here.1
                  ∙ (let a : length rows ≡ suc k + length (drop (suc k) ps) = omega (arith, length-drop (suc k) ps, n, inside) in a)
                  ∙ sym (next_last row.parent (suc k) (drop (suc k) ps) none_later)
                  ∙ ap (λ q. next_from row.parent (suc k) (drop (suc k) ps ++ q ∷ [])) is
            ]
            | inr there ↦
                let parent = get_row_parent rows k row there.1 in
                let reason : (0 < siblings row.parent (drop (suc k) ps)) ⊎ (new.parent ≡ row.parent → ⊥) = elim (eqb_tells new.parent row.parent) [
                  | inr t ↦ inr t.1
                  | inl t ↦ inl (elim which [
                    | inl no_child ↦ absurd (
                        let s = siblings_split ps k row.parent parent in
                        let z : siblings row.parent ps ≡ 0 = sym (ap (λ p. siblings p ps) t.1) ∙ no_child.0 in omega (arith, s, z)
                        )
                    | inr child ↦ later k there.0 ps row.parent parent (child.0 ∙ ap Some t.1) (sym (ap (λ p. siblings p (drop (suc previous) ps)) t.1) ∙ child.1)
                  ])
                ] in
                linked k row there.1 ∙ sym (next_same row.parent (suc k) (drop (suc k) ps) new.parent reason)
          ])
      | inr at ↦
          let f : Row → ℕ = λ r. r.next in
          sym (ap f at.1) ∙ last_one ∙ sym (ap (next_from row.parent (suc k)) (ap (λ j. drop (suc j) (ps ++ new.parent ∷ [])) (at.0 ∙ m ∙ sym n) ∙ drop_one_more ps new.parent))
    ])
  where
    later : (k : ℕ) → (k ≡ previous → ⊥) → (ps : List ℕ) (p : ℕ) → slice_get ps k ≡ Some p → slice_get ps previous ≡ Some p → siblings p (drop (suc previous) ps) ≡ 0 → 0 < siblings p (drop (suc k) ps)
    later k apart ps p e f zero_later = elim (order k previous) [
      | inl h ↦ siblings_has ps (suc k) previous p f h
      | inr h ↦ elim (order previous k) [
        | inl g ↦ absurd (let some = siblings_has ps (suc previous) k p e g in omega (arith, some, zero_later))
        | inr g ↦ absurd (apart (omega (arith, h, g)))
      ]
    ]
      where
        order : (a b : ℕ) → (a < b) ⊎ (b ≤ a)
        order zero zero = inr (omega arith)
        order zero (suc b) = inl (omega arith)
        order (suc a) zero = inr (omega arith)
        order (suc a) (suc b) = elim (order a b) [ inl h ↦ inl (omega (arith, h)) | inr h ↦ inr (omega (arith, h)) ]

first_more : (ps : List ℕ) (current : ℕ) → length ps < none → AreBefore ps → FirstIsNext ps → (current ≡ none) ⊎ ((current < length ps) × (siblings current ps ≡ 0 → suc current ≡ length ps))
    → FirstIsNext (ps ++ current ∷ [])
first_more ps current few before first which k n e inside =
    let long = length-append ps (current ∷ []) in
    let from_old : (j : ℕ) → slice_get ps j ≡ Some n → slice_get (ps ++ current ∷ []) (suc n) ≡ Some n = λ j g. elim (before j n g) [
      | inl h ↦
          let i = get_inside ps j n g in
          let found = first j n g (omega (arith, h, i)) in get_front ps (current ∷ []) (suc n) (get_inside ps (suc n) n found) ∙ found
      | inr h ↦ absurd (omega (arith, h, inside, long, few))
    ] in
    elim (get_either ps current k n e) [
      | inl old ↦ from_old k old.1
      | inr new ↦ elim which [
        | inl no_number ↦ absurd (omega (arith, new.1, no_number, inside, long, few))
        | inr number ↦ by_count (siblings current ps) refl number.1 new.1 from_old
      ]
    ]
  where
    by_count : (c : ℕ) → siblings current ps ≡ c → (siblings current ps ≡ 0 → suc current ≡ length ps) → current ≡ n
        → ((j : ℕ) → slice_get ps j ≡ Some n → slice_get (ps ++ current ∷ []) (suc n) ≡ Some n) → slice_get (ps ++ current ∷ []) (suc n) ≡ Some n
    by_count zero c last is from_old = ap (slice_get (ps ++ current ∷ [])) (ap suc (sym is) ∙ last c) ∙ get_last ps current ∙ ap Some is
    by_count (suc m) c last is from_old = let found = siblings_some ps current (omega (arith, c)) in from_old found.0 (found.1 ∙ ap Some is)

-- Steps.

linked_end : (rows : List Row) (k n : ℕ) → AreLinked rows → AreLinked (with_end k n rows)
linked_end rows k n linked j row e =
    let found = get_ended k n rows j row e in
    sym found.3 ∙ linked j found.0 found.1
    ∙ (λ i. next_from (found.2 i) (suc j) (drop (suc j) (sym (parents_end k n rows) i)))

links_nothing : (s : State) (pieces : List Piece) (piece : Piece) (at : ℕ) → Links s pieces → Links (record s { at = at }) (piece ∷ pieces)
links_nothing s pieces piece at l = record { linked = l.linked; first = l.first; last = l.last; opened = l.opened }

links_on : (s : State) (pieces : List Piece) (piece : Piece) (at : ℕ) → Links s pieces → Links (building.gone_on at s) (piece ∷ pieces)
links_on s pieces piece at l =
    let same = sym (parents_end s.previous at s.rows) in
    let P : List ℕ → Type 0 = FirstIsNext in
    let Q : List ℕ → Type 0 = λ ps. LastChild ps s.current s.previous in
    let long = end_many s.previous at s.rows in
    record {
      linked = linked_end s.rows s.previous at l.linked;
      first = subst P same l.first;
      last = subst Q same l.last;
      opened = λ e h. l.opened (ap (siblings s.current) same ∙ e) (omega (arith, h, long)) ∙ sym long;
    }

few_rows : (s : State) (pieces : List Piece) → Builds s pieces → length s.rows < none
few_rows s pieces b = omega (arith, b.few, b.small)

links_new : (s : State) (pieces : List Piece) (kind : Kind) (end : ℕ) → Builds s pieces → Links s pieces
    → AreLinked (rows_with s kind end) × FirstIsNext (parents_of (rows_with s kind end))
links_new s pieces kind end b l =
    let P : List ℕ → Type 0 = FirstIsNext in
    let few = few_rows s pieces b in
    let n = parents_many s.rows in (
      linked_more s.rows s.previous (new_row s kind end) few refl l.linked l.last,
      subst P (sym (rows_parents s kind end))
          (first_more (parents_of s.rows) s.current (omega (arith, few, n)) b.before l.first
          (elim (current_is s pieces b) [ inl h ↦ inr (omega (arith, h, n), λ e. l.opened e h ∙ sym n) | inr h ↦ inl h ])),
    )

-- the new row is the last child
last_new : (s : State) (kind : Kind) (end : ℕ) → (slice_get (parents_of (rows_with s kind end)) (length s.rows) ≡ Some s.current)
    × (siblings s.current (drop (suc (length s.rows)) (parents_of (rows_with s kind end))) ≡ 0)
last_new s kind end =
    let ps = parents_of s.rows in
    let n = parents_many s.rows in (
      ap (λ l. slice_get l (length s.rows)) (rows_parents s kind end) ∙ ap (slice_get (ps ++ s.current ∷ [])) (sym n) ∙ get_last ps s.current,
      ap (λ l. siblings s.current (drop (suc (length s.rows)) l)) (rows_parents s kind end)
          ∙ ap (λ j. siblings s.current (drop (suc j) (ps ++ s.current ∷ []))) (sym n)
          ∙ ap (siblings s.current) (drop_one_more ps s.current),
    )

links_leaf : (s : State) (pieces : List Piece) (piece : Piece) (kind : Kind) (end : ℕ) (t : Bool) → Builds s pieces → Links s pieces
    → Links (record (building.begun kind end s) { in_text = t }) (piece ∷ pieces)
links_leaf s pieces piece kind end t b l =
    let new = links_new s pieces kind end b l in
    let last = last_new s kind end in
    record {
      linked = new.0;
      first = new.1;
      last = inr last;
      opened = λ e h. absurd (let n = siblings_split (parents_of (rows_with s kind end)) (length s.rows) s.current last.0 in omega (arith, n, e));
    }

links_start : (s : State) (pieces : List Piece) (piece : Piece) (end : ℕ) → Builds s pieces → Links s pieces
    → Builds (record (building.begun Element end s) { current = length s.rows; previous = none; in_text = false }) (piece ∷ pieces)
    → child_count (items_of (piece ∷ pieces)) ≡ 0
    → Links (record (building.begun Element end s) { current = length s.rows; previous = none; in_text = false }) (piece ∷ pieces)
links_start s pieces piece end b l later e =
    let new = links_new s pieces Element end b l in
    let n = rows_length s Element end in
    record {
      linked = new.0;
      first = new.1;
      last = inl (later.count ∙ e, refl);
      opened = λ f h. omega (arith, n);
    }

links_end : (s : State) (pieces : List Piece) (piece : Piece) (end : ℕ) → Builds s pieces → Links s pieces → IsEnd pieces piece
    → Links (record { rows = with_end s.current end s.rows; current = parent_of s.current s.rows; previous = s.current; in_text = false; at = end }) (piece ∷ pieces)
links_end s pieces piece end b l i =
    let same = sym (parents_end s.current end s.rows) in
    let ps = parents_of s.rows in
    let p = parent_of s.current s.rows in
    let P : List ℕ → Type 0 = FirstIsNext in
    let Q : List ℕ → Type 0 = λ x. (slice_get x s.current ≡ Some p) × (siblings p (drop (suc s.current) x) ≡ 0) in
    let inside : s.current < length s.rows = b.deep (omega (arith, i.level)) in
    let m = paths_many ps in
    let n = parents_many s.rows in
    let is_parent : slice_get ps s.current ≡ Some p = get_parent s.current s.rows inside in
    let here : slice_get (paths_of ps) s.current ≡ Some (open_path (items_of pieces)) = under_get (paths_of ps) s.current (omega (arith, m, n, inside)) ∙ ap Some b.outer in
    record {
      linked = linked_end s.rows s.current end l.linked;
      first = subst P same l.first;
      last = inr (subst Q same (is_parent, b.last s.current p (open_path (items_of pieces)) is_parent here (within_self (open_path (items_of pieces)))));
      opened = λ e h. absurd (let c = siblings_split ps s.current p is_parent in let z : siblings p ps ≡ 0 = ap (siblings p) same ∙ e in omega (arith, c, z));
    }

-- The rows, and their links.

abbrev pub Built : State → List Piece → Type 0
Built s pieces = Builds s pieces × Links s pieces

pub built_nothing : (s : State) (pieces : List Piece) (piece : Piece) → Built s pieces → Next pieces piece → IsNothing pieces piece → s.in_text ≡ false
    → Built (record s { at = size (piece ∷ pieces) }) (piece ∷ pieces)
built_nothing s pieces piece b n i quiet = (builds_nothing s pieces piece b.0 n i quiet, links_nothing s pieces piece (size (piece ∷ pieces)) b.1)

pub built_leaf : (s : State) (pieces : List Piece) (piece : Piece) (kind : Kind) (t : Bool) → Built s pieces → Next pieces piece → IsLeaf pieces piece kind t
    → Built (record (building.begun kind (size (piece ∷ pieces)) s) { in_text = t }) (piece ∷ pieces)
built_leaf s pieces piece kind t b n i = (builds_leaf s pieces piece kind t b.0 n i, links_leaf s pieces piece kind (size (piece ∷ pieces)) t b.0 b.1)

pub built_start : (s : State) (pieces : List Piece) (piece : Piece) → Built s pieces → Next pieces piece → IsStart pieces piece
    → Built (record (building.begun Element (size (piece ∷ pieces)) s) { current = length s.rows; previous = none; in_text = false }) (piece ∷ pieces)
built_start s pieces piece b n i =
    let later = builds_start s pieces piece b.0 n i in (later, links_start s pieces piece (size (piece ∷ pieces)) b.0 b.1 later i.count)

pub built_on : (s : State) (pieces : List Piece) (piece : Piece) → Built s pieces → Next pieces piece → GoesOn pieces piece → s.in_text ≡ true
    → Built (building.gone_on (size (piece ∷ pieces)) s) (piece ∷ pieces)
built_on s pieces piece b n i going = (builds_on s pieces piece b.0 n i going, links_on s pieces piece (size (piece ∷ pieces)) b.1)

pub built_end : (s : State) (pieces : List Piece) (piece : Piece) → Built s pieces → Next pieces piece → IsEnd pieces piece
    → Built (record { rows = with_end s.current (size (piece ∷ pieces)) s.rows; current = parent_of s.current s.rows; previous = s.current; in_text = false; at = size (piece ∷ pieces) }) (piece ∷ pieces)
built_end s pieces piece b n i = (builds_end s pieces piece b.0 n i, links_end s pieces piece (size (piece ∷ pieces)) b.0 b.1 i)
