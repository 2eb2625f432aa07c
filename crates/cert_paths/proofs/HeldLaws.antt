-- What a pool shows, by how it is kept.
use Rattle.std.proofs.Common.{◌≡◌, ℕ, zero, suc, ◌+◌, ◌<◌, ◌≤◌, ◌==◌, true, false, List, [], ◌∷◌, ◌++◌, length, map, slice_get, Some, arith, refl, sym, ap, subst, ◌∙◌, ⊎_elim, ◌⊎◌, inl, inr, if◌then◌else◌, length-append}
use Rattle.std.proofs.lemmas.Bool.{cases_eq, cases_lt, eq-eqb, ne_eqb}
use Rattle.std.proofs.lemmas.Option.{slice_get_within}
use Rattle.der_values.specs.Fits.{IsObject}
use Rattle.acceptance.specs.Certificates.{Part, Certificate, Crl, certificate, crl, other}
use Rattle.cert_paths.specs.Pool.{numbers_from, part_numbers}
use Rattle.cert_paths.specs.Held.{Entry, part_of, held_part, part_at, parts_below, layout_of, IsHeld}

-- lists with one more item at the end
pub get_before : {A : Type 0} (xs : List A) (x : A) (i : ℕ) → i < length xs → slice_get (xs ++ x ∷ []) i ≡ slice_get xs i
get_before [] x i lt = absurd (omega arith)
get_before (y ∷ xs) x zero lt = refl
get_before (y ∷ xs) x (suc i) lt = get_before xs x i (omega arith)

pub get_last : {A : Type 0} (xs : List A) (x : A) (i : ℕ) → i ≡ length xs → slice_get (xs ++ x ∷ []) i ≡ Some x
get_last [] x zero e = refl
get_last [] x (suc i) e = absurd (omega arith)
get_last (y ∷ xs) x zero e = absurd (omega arith)
get_last (y ∷ xs) x (suc i) e = get_last xs x i (omega arith)

-- an item of the longer list is an item of the list, or the last
pub get_cases : {A : Type 0} (xs : List A) (x y : A) (i : ℕ) → slice_get (xs ++ x ∷ []) i ≡ Some y → (slice_get xs i ≡ Some y) ⊎ ((i ≡ length xs) × (y ≡ x))
get_cases {A} xs x y i e =
    ⊎_elim
    (λ lt. inl (sym (get_before xs x i lt) ∙ e))
    (λ ge.
    let within : i < length (xs ++ x ∷ []) = slice_get_within (xs ++ x ∷ []) i y e in
    let here : i ≡ length xs = let l = length-append xs (x ∷ []) in omega arith in
    let is : Some x ≡ Some y = sym (get_last xs x i here) ∙ e in
    inr (here, cc))
    (cases_lt i (length xs))

pub length-parts_below : (n : ℕ) (es : List Entry) → length (parts_below n es) ≡ n
unfolding parts_below
length-parts_below zero es = refl
length-parts_below (suc n) es = let l = length-append (parts_below n es) (part_at n es ∷ []) in let h = length-parts_below n es in omega arith

pub get-parts_below : (n : ℕ) (es : List Entry) (i : ℕ) → i < n → slice_get (parts_below n es) i ≡ Some (part_at i es)
unfolding parts_below
get-parts_below zero es i lt = absurd (omega arith)
get-parts_below (suc n) es i lt =
    let long = length-parts_below n es in
    ⊎_elim
    (λ before. get_before (parts_below n es) (part_at n es) i (omega arith) ∙ get-parts_below n es i before)
    (λ from.
    let here : i ≡ n = omega arith in
    get_last (parts_below n es) (part_at n es) i (omega arith) ∙ ap (λ k. Some (part_at k es)) (sym here))
    (cases_lt i n)

same_number : {A : Type 0} (m n : ℕ) (x y : A) → m ≡ n → (if m == n then x else y) ≡ x
same_number m n x y e = rw (eq-eqb m n e) refl

other_number : {A : Type 0} (m n : ℕ) (x y : A) → (m ≡ n → ⊥) → (if m == n then x else y) ≡ y
other_number m n x y ne = rw (ne_eqb m n ne) refl

-- no entry has this number
abbrev pub IsFree : ℕ → List Entry → Type 0
IsFree n es = (k : ℕ) (e : Entry) → slice_get es k ≡ Some e → e.1.number ≡ n → ⊥

abbrev pub AreApart : List Entry → Type 0
AreApart es = (j k : ℕ) (d e : Entry) → slice_get es j ≡ Some d → slice_get es k ≡ Some e → d.1.number ≡ e.1.number → j ≡ k

pub part_at-free : (n : ℕ) (es : List Entry) → IsFree n es → part_at n es ≡ other
part_at-free n [] free = refl
part_at-free n (e ∷ es) free =
    other_number e.1.number n (held_part e) (part_at n es) (free 0 e refl) ∙ part_at-free n es (λ k d at. free (suc k) d at)

pub part_at-held : (es : List Entry) (k : ℕ) (e : Entry) → AreApart es → slice_get es k ≡ Some e → part_at e.1.number es ≡ held_part e
part_at-held [] k e apart at = cc
part_at-held (d ∷ es) zero e apart at =
    let same : d ≡ e = cc in
    same_number d.1.number e.1.number (held_part d) (part_at e.1.number es) (ap (λ (x : Entry). x.1.number) same) ∙ ap held_part same
part_at-held (d ∷ es) (suc k) e apart at =
    other_number d.1.number e.1.number (held_part d) (part_at e.1.number es) (λ q. let no : 0 ≡ suc k = apart 0 (suc k) d e refl at q in absurd (omega arith))
    ∙ part_at-held es k e (λ i j x y at_i at_j q. let z = apart (suc i) (suc j) x y at_i at_j q in omega arith) at

-- a part stands where some entry says
pub record Held (n : ℕ) (es : List Entry) (p : Part) : Type 0 where
  pub k : ℕ
  pub e : Entry
  pub at : slice_get es k ≡ Some e
  pub number : e.1.number ≡ n
  pub part : held_part e ≡ p

pub held_at : (n : ℕ) (es : List Entry) (p : Part) → (p ≡ other → ⊥) → part_at n es ≡ p → Held n es p
held_at n [] p some is = absurd (some (sym is))
held_at n (e ∷ es) p some is =
    ⊎_elim
    (λ same. record { k = 0; e = e; at = refl; number = same; part = sym (same_number e.1.number n (held_part e) (part_at n es) same) ∙ is })
    (λ ne.
    let h = held_at n es p some (sym (other_number e.1.number n (held_part e) (part_at n es) ne) ∙ is) in
    record { k = suc h.k; e = h.e; at = h.at; number = h.number; part = h.part })
    (cases_eq e.1.number n)

pub part_at-more : (n : ℕ) (es : List Entry) (e : Entry) → (e.1.number ≡ n → ⊥) → part_at n (es ++ e ∷ []) ≡ part_at n es
part_at-more n [] e ne = other_number e.1.number n (held_part e) other ne
part_at-more n (d ∷ es) e ne = ap (λ (p : Part). if d.1.number == n then held_part d else p) (part_at-more n es e ne)

pub part_at-new : (n : ℕ) (es : List Entry) (e : Entry) → e.1.number ≡ n → IsFree n es → part_at n (es ++ e ∷ []) ≡ held_part e
part_at-new n [] e is free = same_number e.1.number n (held_part e) other is
part_at-new n (d ∷ es) e is free =
    other_number d.1.number n (held_part d) (part_at n (es ++ e ∷ [])) (free 0 d refl) ∙ part_at-new n es e is (λ k x at. free (suc k) x at)

pub parts_below-more : (n : ℕ) (es : List Entry) (e : Entry) → n ≤ e.1.number → parts_below n (es ++ e ∷ []) ≡ parts_below n es
unfolding parts_below
parts_below-more zero es e le = refl
parts_below-more (suc n) es e le =
    let first = parts_below-more n es e (omega arith) in
    let here = part_at-more n es e (λ q. omega arith) in
    ap (λ (ps : List Part). ps ++ part_at n (es ++ e ∷ []) ∷ []) first ∙ ap (λ (p : Part). parts_below n es ++ p ∷ []) here

pub parts_below-next : (n : ℕ) (es : List Entry) → parts_below (n + 1) es ≡ parts_below n es ++ part_at n es ∷ []
unfolding parts_below
parts_below-next n es = let e : n + 1 ≡ suc n = omega arith in ap (λ k. parts_below k es) e

numbers-other : (n : ℕ) (pool : List Part) → numbers_from n (pool ++ other ∷ []) ≡ numbers_from n pool
numbers-other n [] = refl
numbers-other n (other ∷ pool) = numbers-other (suc n) pool
numbers-other n (certificate c ∷ pool) = ap (λ ns. n ∷ ns) (numbers-other (suc n) pool)
numbers-other n (crl l ∷ pool) = ap (λ ns. n ∷ ns) (numbers-other (suc n) pool)

numbers-certificate : (n : ℕ) (pool : List Part) (c : Certificate) → numbers_from n (pool ++ certificate c ∷ []) ≡ numbers_from n pool ++ (n + length pool) ∷ []
numbers-certificate n [] c = let e : n + 0 ≡ n = omega arith in ap (λ k. k ∷ []) (sym e)
numbers-certificate n (other ∷ pool) c = numbers-certificate (suc n) pool c ∙ ap (λ k. numbers_from (suc n) pool ++ k ∷ []) (omega arith)
numbers-certificate n (certificate d ∷ pool) c = ap (λ ns. n ∷ ns) (numbers-certificate (suc n) pool c) ∙ ap (λ k. n ∷ (numbers_from (suc n) pool ++ k ∷ [])) (omega arith)
numbers-certificate n (crl l ∷ pool) c = ap (λ ns. n ∷ ns) (numbers-certificate (suc n) pool c) ∙ ap (λ k. n ∷ (numbers_from (suc n) pool ++ k ∷ [])) (omega arith)

numbers-crl : (n : ℕ) (pool : List Part) (c : Crl) → numbers_from n (pool ++ crl c ∷ []) ≡ numbers_from n pool ++ (n + length pool) ∷ []
numbers-crl n [] c = let e : n + 0 ≡ n = omega arith in ap (λ k. k ∷ []) (sym e)
numbers-crl n (other ∷ pool) c = numbers-crl (suc n) pool c ∙ ap (λ k. numbers_from (suc n) pool ++ k ∷ []) (omega arith)
numbers-crl n (certificate d ∷ pool) c = ap (λ ns. n ∷ ns) (numbers-crl (suc n) pool c) ∙ ap (λ k. n ∷ (numbers_from (suc n) pool ++ k ∷ [])) (omega arith)
numbers-crl n (crl l ∷ pool) c = ap (λ ns. n ∷ ns) (numbers-crl (suc n) pool c) ∙ ap (λ k. n ∷ (numbers_from (suc n) pool ++ k ∷ [])) (omega arith)

part_numbers-other : (pool : List Part) → part_numbers (pool ++ other ∷ []) ≡ part_numbers pool
unfolding part_numbers
part_numbers-other pool = numbers-other 0 pool

part_numbers-held : (pool : List Part) (e : Entry) → part_numbers (pool ++ held_part e ∷ []) ≡ part_numbers pool ++ length pool ∷ []
unfolding part_numbers
part_numbers-held pool e =
    let zero' : 0 + length pool ≡ length pool = omega arith in
    elim e.1.is_list as (λ b. numbers_from 0 (pool ++ part_of b e.0.items ∷ []) ≡ numbers_from 0 pool ++ length pool ∷ []) [
      | true ↦ numbers-crl 0 pool _ ∙ ap (λ k. numbers_from 0 pool ++ k ∷ []) zero'
      | false ↦ numbers-certificate 0 pool _ ∙ ap (λ k. numbers_from 0 pool ++ k ∷ []) zero'
    ]

pub nothing_next : (objects : ℕ) (es : List Entry) → IsHeld objects es → part_at objects es ≡ other
nothing_next objects es held = part_at-free objects es (λ k e at q. let lt = held.below k e at in omega arith)

-- the pool after one more object that isn't kept
pub taken : (objects : ℕ) (es : List Entry) → IsHeld objects es → parts_below (objects + 1) es ≡ parts_below objects es ++ other ∷ []
taken objects es held = parts_below-next objects es ∙ ap (λ (p : Part). parts_below objects es ++ p ∷ []) (nothing_next objects es held)

pub IsHeld-taken : (objects : ℕ) (es : List Entry) → IsHeld objects es → IsHeld (objects + 1) es
IsHeld-taken objects es held = record {
  below = λ k e at. let lt = held.below k e at in omega arith;
  apart = held.apart;
  distinct = held.distinct;
  whole = held.whole;
  order = ap part_numbers (taken objects es held) ∙ part_numbers-other (parts_below objects es) ∙ held.order;
}

-- the pool after one more part
pub added : (objects : ℕ) (es : List Entry) (e : Entry) → IsHeld objects es → e.1.number ≡ objects →
    parts_below (objects + 1) (es ++ e ∷ []) ≡ parts_below objects es ++ held_part e ∷ []
added objects es e held is =
    parts_below-next objects (es ++ e ∷ [])
    ∙ ap (λ (ps : List Part). ps ++ part_at objects (es ++ e ∷ []) ∷ []) (parts_below-more objects es e (omega arith))
    ∙ ap (λ (p : Part). parts_below objects es ++ p ∷ []) (part_at-new objects es e is (λ k d at q. let lt = held.below k d at in omega arith))

map_last : (es : List Entry) (e : Entry) → map (λ (x : Entry). x.1.number) (es ++ e ∷ []) ≡ map (λ (x : Entry). x.1.number) es ++ e.1.number ∷ []
map_last [] e = refl
map_last (d ∷ es) e = ap (λ ns. d.1.number ∷ ns) (map_last es e)

pub IsHeld-added : (objects : ℕ) (es : List Entry) (e : Entry) → IsHeld objects es → e.1.number ≡ objects → IsObject (layout_of e.1.is_list) e.0.items →
    ((k : ℕ) (d : Entry) → slice_get es k ≡ Some d → d.0.items ≡ e.0.items → ⊥) → IsHeld (objects + 1) (es ++ e ∷ [])
IsHeld-added objects es e held is whole fresh = record {
  below = λ k d at. ⊎_elim (λ old. let lt = held.below k d old in omega arith) (λ q. let same = ap (λ (x : Entry). x.1.number) q.1 in omega arith) (get_cases es e d k at);
  apart = λ j k x y at_j at_k same.
      ⊎_elim
      (λ old_j. ⊎_elim
      (λ old_k. held.apart j k x y old_j old_k same)
      (λ new_k. let lt = held.below j x old_j in let e' = ap (λ (z : Entry). z.1.number) new_k.1 in absurd (omega arith))
      (get_cases es e y k at_k))
      (λ new_j. ⊎_elim
      (λ old_k. let lt = held.below k y old_k in let e' = ap (λ (z : Entry). z.1.number) new_j.1 in absurd (omega arith))
      (λ new_k. new_j.0 ∙ sym new_k.0)
      (get_cases es e y k at_k))
      (get_cases es e x j at_j);
  distinct = λ j k x y at_j at_k same.
      ⊎_elim
      (λ old_j. ⊎_elim
      (λ old_k. held.distinct j k x y old_j old_k same)
      (λ new_k. absurd (fresh j x old_j (same ∙ ap (λ (z : Entry). z.0.items) new_k.1)))
      (get_cases es e y k at_k))
      (λ new_j. ⊎_elim
      (λ old_k. absurd (fresh k y old_k (sym same ∙ ap (λ (z : Entry). z.0.items) new_j.1)))
      (λ new_k. new_j.0 ∙ sym new_k.0)
      (get_cases es e y k at_k))
      (get_cases es e x j at_j);
  whole = λ k d at. ⊎_elim (λ old. held.whole k d old) (λ q. subst (λ (x : Entry). IsObject (layout_of x.1.is_list) x.0.items) (sym q.1) whole) (get_cases es e d k at);
  order =
      ap part_numbers (added objects es e held is) ∙ part_numbers-held (parts_below objects es) e
      ∙ ap (λ (ns : List ℕ). ns ++ length (parts_below objects es) ∷ []) held.order
      ∙ ap (λ n. map (λ (x : Entry). x.1.number) es ++ n ∷ []) (length-parts_below objects es ∙ sym is)
      ∙ sym (map_last es e);
}

-- an entry's part stands at its number
pub stands_there : (objects : ℕ) (es : List Entry) (k : ℕ) (e : Entry) → IsHeld objects es → slice_get es k ≡ Some e → slice_get (parts_below objects es) e.1.number ≡ Some (held_part e)
stands_there objects es k e held at =
    get-parts_below objects es e.1.number (held.below k e at) ∙ ap Some (part_at-held es k e held.apart at)

-- a part that stands there is an entry's
pub is_held : (objects : ℕ) (es : List Entry) (n : ℕ) (p : Part) → (p ≡ other → ⊥) → slice_get (parts_below objects es) n ≡ Some p → Held n es p
is_held objects es n p some at =
    let lt : n < objects = let l = length-parts_below objects es in let w = slice_get_within (parts_below objects es) n p at in omega arith in
    let is : Some (part_at n es) ≡ Some p = sym (get-parts_below objects es n lt) ∙ at in
    held_at n es p some cc
