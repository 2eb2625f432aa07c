-- Elements at the front of a content that begin with elements which all differ.
use Rattle.std.proofs.Common.{◌≡◌, ℕ, zero, suc, ◌+◌, ◌-◌, ◌<◌, ◌≤◌, ◌⊎◌, inl, inr, ⊎_elim, Bool, true, false, List, [], ◌∷◌, ◌++◌, length, map, slice_get, Option, Some, None, Result, Ok, Err, get_or, refl, sym, ap, subst, ◌∙◌, arith, append_assoc, length-append, true≢false}
use Rattle.std.specs.Prelude.{◌||◌, is_ok}
use Rattle.std.specs.List.{list_any, Contains}
use Rattle.std.specs.List.Sorted.{IsSorted, IsPermutation, IsBinarySearchResult}
use Rattle.std.specs.Cmp.Lexicographic.{slice_cmp}
use Rattle.std.specs.Ordering.{nat_cmp}
use Rattle.std.specs.declared.cmp.Ordering.TheVariants.{Equal}
use Rattle.std.proofs.lemmas.Cmp.{nat_list_cmp_total, tied_itself}
use Rattle.std.proofs.lemmas.List.Sorted.{searchable_from_sorted, Contains-permutation}
use Rattle.std.proofs.lemmas.List.Elements.{Contains-get_or}
use Rattle.std.specs.Str.{bytes_eq}
use Rattle.std.proofs.lemmas.Bool.{cases_lt}
use Rattle.std.proofs.lemmas.List.{append-nil, map-append, length-map}
use Rattle.std.proofs.lemmas.Option.{slice_get_within, slice_get-get_or, get_or_from_slice_get}
use Rattle.std.proofs.lemmas.Slice.Eq.{bytes_eq-Decides}
use denote.Ref.{Bor}
use Rattle.der_values.specs.Element.{Element, elements}
use Rattle.der_values.specs.Rules.{first_in}
use Rattle.der_values.specs.Distinct.{octets, firsts, AreApart, Has, IsBlock, IsOutside, ArePassed, AreOutside}

pub get_front : {A : Type 0} (xs ys : List A) (i : ℕ) → i < length xs → slice_get (xs ++ ys) i ≡ slice_get xs i
get_front [] ys i lt = absurd (omega arith)
get_front (x ∷ xs) ys zero lt = refl
get_front (x ∷ xs) ys (suc i) lt = get_front xs ys i (omega arith)

pub get_back : {A : Type 0} (xs ys : List A) (k : ℕ) → slice_get (xs ++ ys) (length xs + k) ≡ slice_get ys k
get_back [] ys k = ap (slice_get ys) (omega arith)
get_back (x ∷ xs) ys k = let e : length (x ∷ xs) + k ≡ suc (length xs + k) = omega arith in rw e (get_back xs ys k)

-- an element of a list with one more is one of the list, or the last
get_cases : {A : Type 0} (xs : List A) (x y : A) (i : ℕ) → slice_get (xs ++ x ∷ []) i ≡ Some y → (slice_get xs i ≡ Some y) ⊎ ((i ≡ length xs) × (x ≡ y))
get_cases [] x y zero e = inr (refl, cc)
get_cases [] x y (suc i) e = cc
get_cases (z ∷ xs) x y zero e = inl e
get_cases (z ∷ xs) x y (suc i) e = ⊎_elim (λ old. inl old) (λ new. inr (ap suc new.0, new.1)) (get_cases xs x y i e)

get_last : {A : Type 0} (xs : List A) (x : A) → slice_get (xs ++ x ∷ []) (length xs) ≡ Some x
get_last [] x = refl
get_last (z ∷ xs) x = get_last xs x

pub not_among : (items : List (Bor (List ℕ))) (x : List ℕ) → list_any (λ (y : Bor (List ℕ)). bytes_eq y.now x) items ≡ false → Has (map octets items) x → ⊥
not_among [] x none (k, at) = cc
not_among (y ∷ items) x none (k, at) =
    elim (bytes_eq y.now x) as (λ b. bytes_eq y.now x ≡ b → (b || list_any (λ (z : Bor (List ℕ)). bytes_eq z.now x) items) ≡ false → (k : ℕ) → slice_get (map octets (y ∷ items)) k ≡ Some x → ⊥) [
      | true ↦ λ q i. absurd (true≢false i)
      | false ↦ λ q i n. differs y items x q (λ m there. not_among items x i (m, there)) n
    ] refl none k at
  where
    differs : (y : Bor (List ℕ)) (items : List (Bor (List ℕ))) (x : List ℕ) → bytes_eq y.now x ≡ false → ((m : ℕ) → slice_get (map octets items) m ≡ Some x → ⊥) → (n : ℕ) → slice_get (map octets (y ∷ items)) n ≡ Some x → ⊥
    differs y items x q rest zero at = let same : y.now ≡ x = cc in true≢false (sym ((bytes_eq-Decides y.now x).1 same) ∙ q)
    differs y items x q rest (suc n) at = rest n at

got_map : (items : List (Bor (List ℕ))) (k : ℕ) (x : List ℕ) → slice_get (map octets items) k ≡ Some x → (b : Bor (List ℕ)) × (slice_get items k ≡ Some b) × (b.now ≡ x)
got_map [] k x at = cc
got_map (y ∷ items) zero x at = (y, refl, cc)
got_map (y ∷ items) (suc k) x at = got_map items k x at

get_map : (items : List (Bor (List ℕ))) (k : ℕ) (b : Bor (List ℕ)) → slice_get items k ≡ Some b → slice_get (map octets items) k ≡ Some b.now
get_map [] k b at = cc
get_map (y ∷ items) zero b at = let same : y ≡ b = cc in ap (λ (z : Bor (List ℕ)). Some z.now) same
get_map (y ∷ items) (suc k) b at = get_map items k b at

-- what a search doesn't find isn't there
pub not_found : (items : List (Bor (List ℕ))) (x : List ℕ) (r : Result ℕ ℕ) → IsSorted (λ (a b : Bor (List ℕ)). slice_cmp nat_cmp (octets a) (octets b)) items →
    IsBinarySearchResult (λ (y : Bor (List ℕ)). slice_cmp nat_cmp y.now x) items r → is_ok r ≡ false → Has (map octets items) x → ⊥
not_found items x (Ok i) sorted is miss has = true≢false miss
not_found items x (Err i) sorted is miss (k, at) =
    let point = is (searchable_from_sorted nat_list_cmp_total octets items x sorted) in
    let (b, at_b, same) = got_map items k x at in
    let here = get_or_from_slice_get items k b b at_b in
    let tied : slice_cmp nat_cmp (get_or items k b).now x ≡ Equal = ap (λ (y : Bor (List ℕ)). slice_cmp nat_cmp y.now x) here ∙ ap (λ (y : List ℕ). slice_cmp nat_cmp y x) same ∙ tied_itself nat_list_cmp_total x in
    ⊎_elim
    (λ before. let less = point.0 k b (omega arith) before in cc)
    (λ from. let more = point.1 k b from (slice_get_within items k b at_b) in cc)
    (cases_lt k i)

-- a block holds what it held before it was sorted
pub has_permuted : (xs ys : List (Bor (List ℕ))) (x : List ℕ) → IsPermutation xs ys → Has (map octets xs) x → Has (map octets ys) x
has_permuted xs ys x moved (k, at) =
    let (b, at_b, same) = got_map xs k x at in
    let there : Contains xs b = subst (Contains xs) (get_or_from_slice_get xs k b b at_b) (Contains-get_or xs k b (slice_get_within xs k b at_b)) in
    let (n, lt, is) = Contains-permutation xs ys b moved there in
    (n, get_map ys n b (slice_get-get_or ys n b lt ∙ ap Some is) ∙ ap Some same)

pub no_block : (old : List Element) → IsBlock 0 old old []
no_block old = record { passed = []; split = refl; full = refl; apart = λ i k x lt within. absurd (omega arith); holds = λ x has. has }

joined : (passed : List Element) (e : Element) → map first_in (passed ++ e ∷ []) ≡ map first_in passed ++ first_in e ∷ []
joined passed e = map-append first_in passed (e ∷ [])

pub block_more : (count : ℕ) (old new after : List Element) (names : List (List ℕ)) (e : Element) → IsBlock count old new names → new ≡ e ∷ after → (Has names (first_in e) → ⊥) →
    IsBlock (count + 1) old after (names ++ first_in e ∷ [])
block_more count old new after names e block is fresh =
    let full = block.full in
    let long = length-map block.passed first_in in record {
      passed = block.passed ++ e ∷ [];
      split = block.split ∙ ap (λ (xs : List Element). block.passed ++ xs) is ∙ sym (append_assoc block.passed (e ∷ []) after);
      full = let l = length-append block.passed (e ∷ []) in omega arith;
      apart = λ i k x lt within at_i at_k.
          let in_i : slice_get (map first_in block.passed ++ first_in e ∷ []) i ≡ Some x = ap (λ (l : List (List ℕ)). slice_get l i) (sym (joined block.passed e)) ∙ at_i in
          let in_k : slice_get (map first_in block.passed ++ first_in e ∷ []) k ≡ Some x = ap (λ (l : List (List ℕ)). slice_get l k) (sym (joined block.passed e)) ∙ at_k in
          ⊎_elim
          (λ old_k.
          let k_in = slice_get_within (map first_in block.passed) k x old_k in
          ⊎_elim
          (λ old_i. block.apart i k x lt (omega arith) old_i old_k)
          (λ new_i. let here = new_i.0 in omega arith)
          (get_cases (map first_in block.passed) (first_in e) x i in_i))
          (λ new_k.
          ⊎_elim
          (λ old_i. fresh (subst (Has names) (sym new_k.1) (block.holds x (i, old_i))))
          (λ new_i. let a = new_i.0 in let b = new_k.0 in omega arith)
          (get_cases (map first_in block.passed) (first_in e) x i in_i))
          (get_cases (map first_in block.passed) (first_in e) x k in_k);
      holds = λ x (k, at).
          let in_k : slice_get (map first_in block.passed ++ first_in e ∷ []) k ≡ Some x = ap (λ (l : List (List ℕ)). slice_get l k) (sym (joined block.passed e)) ∙ at in
          ⊎_elim
          (λ old. let (n, there) = block.holds x (k, old) in (n, get_front names (first_in e ∷ []) n (slice_get_within names n x there) ∙ there))
          (λ new. (length names, get_last names (first_in e) ∙ ap Some new.1))
          (get_cases (map first_in block.passed) (first_in e) x k in_k);
    }

pub outside_more : (count : ℕ) (old new after : List Element) (names : List (List ℕ)) (e : Element) → AreOutside count old new names → new ≡ e ∷ after → (Has names (first_in e) → ⊥) →
    AreOutside (count + 1) old after names
outside_more count old new after names e so_far is fresh =
    let full = so_far.full in record {
      passed = so_far.passed ++ e ∷ [];
      split = so_far.split ∙ ap (λ (xs : List Element). so_far.passed ++ xs) is ∙ sym (append_assoc so_far.passed (e ∷ []) after);
      full = let l = length-append so_far.passed (e ∷ []) in omega arith;
      outside = λ x (k, at).
          let in_k : slice_get (map first_in so_far.passed ++ first_in e ∷ []) k ≡ Some x = ap (λ (l : List (List ℕ)). slice_get l k) (sym (joined so_far.passed e)) ∙ at in
          ⊎_elim
          (λ before. so_far.outside x (k, before))
          (λ new has. fresh (subst (Has names) (sym new.1) has))
          (get_cases (map first_in so_far.passed) (first_in e) x k in_k);
    }

pub none_outside : (old : List Element) (names : List (List ℕ)) → AreOutside 0 old old names
none_outside old names = record { passed = []; split = refl; full = refl; outside = λ x (k, at). cc }

pub is_outside : (count : ℕ) (old new : List Element) (names : List (List ℕ)) → AreOutside count old new names → IsOutside count names old
is_outside count old new names are j x lt at has =
    let full = are.full in
    let long = length-map are.passed first_in in
    let split : map first_in old ≡ map first_in are.passed ++ map first_in new = ap (map first_in) are.split ∙ map-append first_in are.passed new in
    are.outside x (j, sym (get_front (map first_in are.passed) (map first_in new) j (omega arith)) ∙ ap (λ (l : List (List ℕ)). slice_get l j) (sym split) ∙ at) has

-- where the elements end any number is outside
pub all_outside : (count most : ℕ) (old new : List Element) (names : List (List ℕ)) → AreOutside count old new names → new ≡ [] → IsOutside most names old
all_outside count most old new names are none j x lt at has =
    let full = are.full in
    let long = length-map are.passed first_in in
    let split : map first_in old ≡ map first_in are.passed = ap (map first_in) (are.split ∙ ap (λ (xs : List Element). are.passed ++ xs) none) ∙ ap (map first_in) (append-nil are.passed) in
    are.outside x (j, ap (λ (l : List (List ℕ)). slice_get l j) (sym split) ∙ at) has

pub none_passed : (content : List ℕ) (until : ℕ) → ArePassed content (elements content) 0 until
none_passed content until = record { passed = []; split = refl; full = refl; apart = λ i k x lt. absurd (omega arith) }

pub passed_more : (content : List ℕ) (left after : List Element) (count size until outside until' : ℕ) (names : List (List ℕ)) → ArePassed content left count until → IsBlock size left after names →
    IsOutside outside names after → until' ≤ until → until' ≤ count + size + outside → ArePassed content after (count + size) until'
passed_more content left after count size until outside until' names so_far block out le le' =
    let full = so_far.full in
    let size_is = block.full in
    let long = length-map so_far.passed first_in in
    let wide = length-map block.passed first_in in
    let split : elements content ≡ so_far.passed ++ (block.passed ++ after) = so_far.split ∙ ap (λ (xs : List Element). so_far.passed ++ xs) block.split in
    let names_are : firsts content ≡ map first_in so_far.passed ++ (map first_in block.passed ++ map first_in after) =
    ap (map first_in) split ∙ map-append first_in so_far.passed (block.passed ++ after) ∙ ap (λ (l : List (List ℕ)). map first_in so_far.passed ++ l) (map-append first_in block.passed after) in
    let behind : (k : ℕ) (x : List ℕ) → count ≤ k → slice_get (firsts content) k ≡ Some x → slice_get (map first_in block.passed ++ map first_in after) (k - count) ≡ Some x =
    λ k x from at. let e : k ≡ length (map first_in so_far.passed) + (k - count) = omega arith in
    sym (get_back (map first_in so_far.passed) (map first_in block.passed ++ map first_in after) (k - count)) ∙ ap (slice_get (map first_in so_far.passed ++ (map first_in block.passed ++ map first_in after))) (sym e) ∙ ap (λ (l : List (List ℕ)). slice_get l k) (sym names_are) ∙ at in
    record {
      passed = so_far.passed ++ block.passed;
      split = split ∙ sym (append_assoc so_far.passed block.passed after);
      full = let l = length-append so_far.passed block.passed in omega arith;
      apart = λ i k x low lt high at_i at_k.
          ⊎_elim
          (λ before. so_far.apart i k x before lt (omega arith) at_i at_k)
          (λ from.
          let in_i : slice_get (map first_in block.passed) (i - count) ≡ Some x =
          sym (get_front (map first_in block.passed) (map first_in after) (i - count) (omega arith)) ∙ behind i x from at_i in
          ⊎_elim
          (λ inside.
          let in_k : slice_get (map first_in block.passed) (k - count) ≡ Some x =
          sym (get_front (map first_in block.passed) (map first_in after) (k - count) (omega arith)) ∙ behind k x (omega arith) at_k in
          block.apart (i - count) (k - count) x (omega arith) (omega arith) in_i in_k)
          (λ past.
          let e : k - count ≡ length (map first_in block.passed) + (k - (count + size)) = omega arith in
          let in_k : slice_get (map first_in after) (k - (count + size)) ≡ Some x =
          sym (get_back (map first_in block.passed) (map first_in after) (k - (count + size))) ∙ ap (slice_get (map first_in block.passed ++ map first_in after)) (sym e) ∙ behind k x (omega arith) at_k in
          out (k - (count + size)) x (omega arith) in_k (block.holds x (i - count, in_i)))
          (cases_lt k (count + size)))
          (cases_lt i count);
    }

pub passed_apart : (content : List ℕ) (left : List Element) (count until least : ℕ) → ArePassed content left count until → least ≤ count → least ≤ until → AreApart least (firsts content)
passed_apart content left count until least so_far le le' i k x lt within at_i at_k = so_far.apart i k x (omega arith) lt (omega arith) at_i at_k
