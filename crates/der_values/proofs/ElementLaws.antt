-- What is taken apart at the front of some bytes is an element, and an element is taken apart at the front of bytes.
use Rattle.std.proofs.Common.{◌≡◌, ◌≢◌, ℕ, suc, ◌+◌, ◌-◌, ◌≤◌, ◌⊎◌, inl, inr, Bool, true, false, cond, List, [], ◌∷◌, ◌++◌, length, take, drop, Option, Some, None, refl, sym, ap, subst, ◌∙◌, arith, append_assoc}
use Rattle.std.specs.Prelude.{bit_and, nat_lt, ◌==◌}
use Rattle.std.proofs.lemmas.List.{length-take, length-drop, length-append, take-append-drop}
use Rattle.std.proofs.Math.Seq.{take-append_seam, drop-append_seam, take-append-add, take-add}
use Rattle.std.proofs.lemmas.Bool.{ltb-false, ltb-true, lt-ltb, le-ltb, eqb-false, ne_eqb}
use Rattle.der_values.specs.Element.{Element, element_at, sized, size_at, long_size, number_of, first_is_zero}
use Rattle.der_values.specs.Fits.{IsElement, IsShortLength, IsLongLength}
use Rattle.der_values.proofs.Steps.{cond_some}

-- a condition that gave a value didn't hold
cond_no : {A : Type 0} (b : Bool) (o : Option A) (x : A) → cond b None o ≡ Some x → b ≡ false
cond_no true o x e = absurd cc
cond_no false o x e = refl

-- ---- from bytes to elements

abbrev SaysLength : List ℕ → ℕ × ℕ → Type 0
SaysLength bytes s = (s.1 ≤ length bytes) × (IsShortLength (take s.1 bytes) s.0 ⊎ IsLongLength (take s.1 bytes) s.0)

take_more : {A : Type 0} (n : ℕ) (x : A) (xs : List A) → take (1 + n) (x ∷ xs) ≡ x ∷ take n xs
take_more n x xs = let k : 1 + n ≡ suc n = omega arith in rw k refl

some_same : {A : Type 0} (x y : A) → Some x ≡ Some y → x ≡ y
some_same x y is = cc

pair : (n by : ℕ) (s : ℕ × ℕ) → Some (n, by) ≡ Some s → (n, by) ≡ s
pair n by s is = cc

long_says : (first : ℕ) (bs : List ℕ) (s : ℕ × ℕ) → 128 ≤ first → long_size (first - 128) bs ≡ Some s → SaysLength (first ∷ bs) s
unfolding long_size
long_says first bs s at_least is =
    let count : ℕ = first - 128 in
    let t1 = cond_no (nat_lt count 1) _ s is in let i1 = cond_some (nat_lt count 1) _ s is in
    let t2 = cond_no (nat_lt 8 count) _ s i1 in let i2 = cond_some (nat_lt 8 count) _ s i1 in
    let t3 = cond_no (nat_lt (length bs) count) _ s i2 in let i3 = cond_some (nat_lt (length bs) count) _ s i2 in
    let t4 = cond_no (first_is_zero (take count bs)) _ s i3 in let i4 = cond_some (first_is_zero (take count bs)) _ s i3 in
    let t5 = cond_no (nat_lt (number_of (take count bs)) 128) _ s i4 in let i5 = cond_some (nat_lt (number_of (take count bs)) 128) _ s i4 in
    let some : 1 ≤ count = ltb-false _ _ t1 in
    let most : count ≤ 8 = ltb-false _ _ t2 in
    let inside : count ≤ length bs = ltb-false _ _ t3 in
    let len : length (take count bs) ≡ count = omega (arith, length-take count bs) in
    let first_is : first ≡ 128 + length (take count bs) = omega arith in
    subst (SaysLength (first ∷ bs)) (pair (number_of (take count bs)) (1 + count) s i5) (
      omega arith,
      inr (record {
        digits = take count bs;
        spelled = take_more count first bs ∙ ap (λ (b : ℕ). b ∷ take count bs) first_is;
        some = omega arith;
        most = omega arith;
        minimal = t4;
        value = refl;
        long = ltb-false _ _ t5;
      }),
    )

size_says : (bytes : List ℕ) (s : ℕ × ℕ) → size_at bytes ≡ Some s → SaysLength bytes s
unfolding size_at
size_says [] s is = absurd cc
size_says (b ∷ bs) s is =
    elim (nat_lt b 128) as (λ t. nat_lt b 128 ≡ t → cond t (Some (b, 1)) (long_size (b - 128) bs) ≡ Some s → SaysLength (b ∷ bs) s) [
      | true ↦ λ q i. subst (SaysLength (b ∷ bs)) (pair b 1 s i) (omega arith, inl (ltb-true _ _ q, refl))
      | false ↦ λ q i. long_says b bs s (ltb-false _ _ q) i
    ] refl is

-- The element at the front, and what stands behind it.
pub record IsFront (bytes : List ℕ) (e : Element) : Type 0 where
  pub rest : List ℕ
  pub split : bytes ≡ e.whole ++ rest
  pub is_element : IsElement e

sized_front : (tag : ℕ) (bytes : List ℕ) (s : ℕ × ℕ) (e : Element) → SaysLength bytes s → bit_and tag 31 ≢ 31 → sized tag bytes (Some s) ≡ Some e → IsFront (tag ∷ bytes) e
sized_front tag bytes s e says one_byte is =
    let inside : s.1 + s.0 ≤ length bytes = ltb-false _ _ (cond_no (nat_lt (length bytes) (s.1 + s.0)) _ e is) in
    let taken : Element = record { tag = tag; content = take s.0 (drop s.1 bytes); whole = take (1 + s.1 + s.0) (tag ∷ bytes) } in
    let same : taken ≡ e = some_same taken e (cond_some (nat_lt (length bytes) (s.1 + s.0)) _ e is) in
    let sum : 1 + s.1 + s.0 ≡ 1 + (s.1 + s.0) = omega arith in
    let whole : take (1 + s.1 + s.0) (tag ∷ bytes) ≡ tag ∷ take (s.1 + s.0) bytes = rw sum (take_more (s.1 + s.0) tag bytes) in
    let len : length (take s.0 (drop s.1 bytes)) ≡ s.0 = omega (arith, length-take s.0 (drop s.1 bytes), length-drop s.1 bytes) in
    subst (IsFront (tag ∷ bytes)) same (record {
      rest = drop (s.1 + s.0) bytes;
      split = rw whole (ap (λ (xs : List ℕ). tag ∷ xs) (sym (take-append-drop (s.1 + s.0) bytes)));
      is_element = record {
        octets = take s.1 bytes;
        spelled = whole ∙ ap (λ (xs : List ℕ). tag ∷ xs) (take-add s.1 s.0 bytes);
        says = rw len says.1;
        one_byte = one_byte;
      };
    })

pub element_front : (bytes : List ℕ) (e : Element) → element_at bytes ≡ Some e → IsFront bytes e
unfolding element_at
element_front [] e is = absurd cc
element_front (tag ∷ bytes) e is =
    let one_byte : bit_and tag 31 ≢ 31 = eqb-false _ _ (cond_no (bit_and tag 31 == 31) _ e is) in
    elim (size_at bytes) as (λ o. size_at bytes ≡ o → sized tag bytes o ≡ Some e → IsFront (tag ∷ bytes) e) [
      | None ↦ λ q i. absurd cc
      | Some s ↦ λ q i. sized_front tag bytes s e (size_says bytes s q) one_byte i
    ] refl (cond_some (bit_and tag 31 == 31) _ e is)

-- ---- from elements to bytes

short_again : (octets : List ℕ) (n : ℕ) (more : List ℕ) → IsShortLength octets n → size_at (octets ++ more) ≡ Some (n, length octets)
unfolding size_at
short_again octets n more says = rw (says.1, lt-ltb n 128 says.0) refl

long_again : (octets : List ℕ) (n : ℕ) (more : List ℕ) → IsLongLength octets n → size_at (octets ++ more) ≡ Some (n, length octets)
unfolding size_at long_size
long_again octets n more says =
    let digits = says.digits in
    let some = says.some in
    let most = says.most in
    let count : 128 + length digits - 128 ≡ length digits = omega arith in
    let first : nat_lt (128 + length digits) 128 ≡ false = le-ltb _ _ (omega arith) in
    let t1 : nat_lt (length digits) 1 ≡ false = le-ltb _ _ (omega arith) in
    let t2 : nat_lt 8 (length digits) ≡ false = le-ltb _ _ (omega arith) in
    let t3 : nat_lt (length (digits ++ more)) (length digits) ≡ false = le-ltb _ _ (omega (arith, length-append digits more)) in
    let t5 : nat_lt n 128 ≡ false = le-ltb _ _ says.long in
    let size : 1 + length digits ≡ suc (length digits) = omega arith in
    rw (says.spelled, first, count, t1, t2, t3, take-append_seam digits more, says.minimal, says.value, t5) (ap (λ (k : ℕ). Some (n, k)) size)

size_again : (octets : List ℕ) (n : ℕ) (more : List ℕ) → IsShortLength octets n ⊎ IsLongLength octets n → size_at (octets ++ more) ≡ Some (n, length octets)
size_again octets n more (inl says) = short_again octets n more says
size_again octets n more (inr says) = long_again octets n more says

same_element : (e : Element) (content whole : List ℕ) → content ≡ e.content → whole ≡ e.whole → record { tag = e.tag; content = content; whole = whole } ≡ e
same_element e content whole c w = rw (c, w) refl

at_its_tag : (e : Element) (rest : List ℕ) (is : IsElement e) → element_at (e.tag ∷ (is.octets ++ (e.content ++ rest))) ≡ Some e
unfolding element_at
at_its_tag e rest is =
    let octets = is.octets in
    let n : ℕ = length e.content in
    let k : ℕ = length octets in
    let bytes : List ℕ = octets ++ (e.content ++ rest) in
    let size = size_again octets n (e.content ++ rest) is.says in
    let tag : (bit_and e.tag 31 == 31) ≡ false = ne_eqb _ _ is.one_byte in
    let inside : nat_lt (length bytes) (k + n) ≡ false = le-ltb _ _ (omega (arith, length-append octets (e.content ++ rest), length-append e.content rest)) in
    let content : take n (drop k bytes) ≡ e.content = rw drop-append_seam (take-append_seam e.content rest) in
    let sum : 1 + k + n ≡ 1 + (k + n) = omega arith in
    let whole : take (1 + k + n) (e.tag ∷ bytes) ≡ e.whole =
    rw sum (take_more (k + n) e.tag bytes) ∙ ap (λ (xs : List ℕ). e.tag ∷ xs) (take-append-add octets (e.content ++ rest) n ∙ ap (λ (xs : List ℕ). octets ++ xs) (take-append_seam e.content rest)) ∙ sym is.spelled in
    rw (tag, size, inside) (ap Some (same_element e _ _ content whole))

pub element_again : (e : Element) (rest : List ℕ) → IsElement e → element_at (e.whole ++ rest) ≡ Some e
element_again e rest is =
    let joined : (is.octets ++ e.content) ++ rest ≡ is.octets ++ (e.content ++ rest) = append_assoc is.octets e.content rest in
    ap element_at (ap (λ (xs : List ℕ). xs ++ rest) is.spelled ∙ ap (λ (xs : List ℕ). e.tag ∷ xs) joined) ∙ at_its_tag e rest is
