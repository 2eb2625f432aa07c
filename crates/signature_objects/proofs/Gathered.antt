-- A set of bytes, and the bytes that were met.
use Rattle.std.proofs.Common.{◌≡◌, ℕ, ◌+◌, Bool, true, false, cond, not, ◌||◌, List, [], ◌∷◌, ◌++◌, drop, length, ◌≤◌, slice_get, Some, Bor, Ordering, is_eq, refl, sym, ap, ◌∙◌, arith}
use Rattle.std.specs.BTreeSet.{BTreeSet, Updates, btree_set_len, contains, contains_by}
use Rattle.std.specs.Cmp.Lexicographic.{slice_cmp}
use Rattle.std.specs.List.{list_any}
use Rattle.std.specs.Ordering.{nat_cmp}
use Rattle.std.specs.Str.{bytes_eq}
use Rattle.std.proofs.lemmas.List.{at_drop_more, drop_all, length-append}
use Rattle.std.proofs.lemmas.Option.{get_or_from_slice_get, slice_get_within}
use Rattle.std.proofs.lemmas.Map.Text.{is_eq-slice_cmp}
use Rattle.std.proofs.lemmas.Slice.Eq.{bytes_eq-Decides}
use Rattle.signature_model.proofs.Lists.{not_both}
use Rattle.signature_objects.specs.Met.{HasMet, with_all, with_bytes}

abbrev pub Bytes : Type 0
Bytes = Bor (List ℕ)

-- the order of bytes
abbrev pub order : Bytes → Bytes → Ordering
order a b = slice_cmp nat_cmp a.now b.now

same_bytes : (a b : List ℕ) → bytes_eq a b ≡ bytes_eq b a
same_bytes a b = by_tests (bytes_eq a b) (bytes_eq b a) refl refl
  where
    by_tests : (s t : Bool) → bytes_eq a b ≡ s → bytes_eq b a ≡ t → bytes_eq a b ≡ bytes_eq b a
    by_tests true t e f = e ∙ sym ((bytes_eq-Decides b a).1 (sym ((bytes_eq-Decides a b).0 e)))
    by_tests false true e f = absurd (not_both (sym ((bytes_eq-Decides a b).1 (sym ((bytes_eq-Decides b a).0 f))) ∙ e))
    by_tests false false e f = e ∙ sym f

any_last : (q b : List ℕ) (all : List (List ℕ)) → list_any (bytes_eq q) (all ++ b ∷ []) ≡ (bytes_eq q b || list_any (bytes_eq q) all)
any_last q b [] = refl
any_last q b (x ∷ all) = ap (λ r. bytes_eq q x || r) (any_last q b all) ∙ turned (bytes_eq q x) (bytes_eq q b) (list_any (bytes_eq q) all)
  where
    turned : (s t r : Bool) → (s || (t || r)) ≡ (t || (s || r))
    turned true true r = refl
    turned true false r = refl
    turned false true r = refl
    turned false false r = refl

-- which bytes are among those that were met, with some more
pub with_one : (q b : List ℕ) (all : List (List ℕ)) → cond (bytes_eq b q) true (list_any (bytes_eq q) all) ≡ list_any (bytes_eq q) (with_bytes all b)
with_one q b all = by_there (list_any (bytes_eq b) all) refl
  where
    by_same : (s : Bool) → bytes_eq b q ≡ s → list_any (bytes_eq b) all ≡ true → cond s true (list_any (bytes_eq q) all) ≡ list_any (bytes_eq q) all
    by_same true e there = sym (ap (λ x. list_any (bytes_eq x) all) (sym ((bytes_eq-Decides b q).0 e)) ∙ there)
    by_same false e there = refl

    flat : (s r : Bool) → cond s true r ≡ (s || r)
    flat true r = refl
    flat false r = refl

    by_there : (t : Bool) → list_any (bytes_eq b) all ≡ t → cond (bytes_eq b q) true (list_any (bytes_eq q) all) ≡ list_any (bytes_eq q) (cond t all (all ++ b ∷ []))
    by_there true there = by_same (bytes_eq b q) refl there
    by_there false there =
        flat (bytes_eq b q) (list_any (bytes_eq q) all) ∙ ap (λ s. s || list_any (bytes_eq q) all) (same_bytes b q) ∙ sym (any_last q b all)

-- how many there are then
pub many_with : (b : List ℕ) (all : List (List ℕ)) → length all + cond (not (list_any (bytes_eq b) all)) 1 0 ≡ length (with_bytes all b)
many_with b all = by_there (list_any (bytes_eq b) all)
  where
    by_there : (t : Bool) → length all + cond (not t) 1 0 ≡ length (cond t all (all ++ b ∷ []))
    by_there true = omega arith
    by_there false = sym (length-append all (b ∷ []))

-- a set that some bytes were put into
pub met_one : (set new : BTreeSet Bytes) (k : Bytes) (added : Bool) (all : List (List ℕ)) → added ≡ not (contains order set k) → Updates order set new k true
    → btree_set_len new ≡ btree_set_len set + cond added 1 0 → HasMet set all → HasMet new (with_bytes all k.now)
met_one set new k added all is updates len met = record {
  has = λ q.
      updates.0 (record { ref_ptr = (0, 0); now = q })
      ∙ ap (λ b. cond b true (contains_by (λ x. slice_cmp nat_cmp q x.now) set)) (is_eq-slice_cmp k.now q)
      ∙ ap (λ r. cond (bytes_eq k.now q) true r) (met.has q) ∙ with_one q k.now all;
  many =
      len ∙ ap (λ n. n + cond added 1 0) met.many
      ∙ ap (λ b. length all + cond b 1 0) (is ∙ ap not (met.has k.now)) ∙ many_with k.now all;
}

-- Lists that are met one after another, by number.

pub one_more : (met xs : List (List ℕ)) (i : ℕ) (x : List ℕ) → slice_get xs i ≡ Some x → with_all met (drop i xs) ≡ with_all (with_bytes met x) (drop (i + 1) xs)
one_more met xs i x at =
    at_drop_more (with_all met) xs i x (slice_get_within xs i x at)
    ∙ ap (λ b. with_all (with_bytes met b) (drop (i + 1) xs)) (get_or_from_slice_get xs i x x at)

pub no_more : (met xs : List (List ℕ)) (i : ℕ) → length xs ≤ i → with_all met (drop i xs) ≡ met
no_more met xs i h = ap (with_all met) (drop_all i xs h)

-- nothing was met
pub none_met : (set : BTreeSet Bytes) → set.keys ≡ [] → HasMet set []
none_met set e = record {
  has = λ q. ap (λ keys. list_any (λ (k : Bytes). is_eq (slice_cmp nat_cmp q k.now)) keys) e;
  many = ap length e;
}
