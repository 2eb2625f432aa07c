-- Texts of bytes that are common in texts: their characters all stand for themselves.
use Rattle.std.proofs.Common.{◌≡◌, ℕ, suc, ◌+◌, ◌<◌, ◌≤◌, Bool, true, false, ◌||◌, nat_eq, nat_le, nat_lt, List, [], ◌∷◌, length, get_or, refl, sym, ◌∙◌, ap, arith}
use Rattle.std.proofs.lemmas.Bool.{and_parts, and_from, false≢true, eqb-true}
use Rattle.std.proofs.lemmas.Bool.Decides.{nat_tests}
use Rattle.std.proofs.lemmas.List.Folds.{list_all-append}
use Rattle.std.proofs.lemmas.Str.{encode_ascii, scalars-chars, encodes-chars}
use Rattle.std.specs.Char.{encode_utf8, IsScalar}
use Rattle.std.specs.Prelude.{encode_utf8_all}
use Rattle.std.specs.Str.{IsUtf8, chars}
use Rattle.std.specs.List.{list_all}
use Rattle.httparse.specs.Pieces.{AllPassBetween, IsRunIn}
use lib.Utf8.{encode, scalar, scalars}
use Rattle.xml_items.specs.Runs.{is_ordinary, is_common, is_text}
use Rattle.xml_items.proofs.TextCharacters.{ordinary_text}

-- One character.

low_common : (c : ℕ) → c < 128 → is_common c ≡ true → is_ordinary c ≡ true
low_common c h e = go (is_ordinary c) (nat_le 128 c) (not_high c h) (and_parts (is_ordinary c || nat_le 128 c) _ e).0
  where
    not_high : (c : ℕ) → c < 128 → nat_le 128 c ≡ false
    not_high c h = grind (arith, nat_tests)

    go : (a b : Bool) → b ≡ false → (a || b) ≡ true → a ≡ true
    go true b f g = refl
    go false true f g = sym f
    go false false f g = g

not_first : list_all is_common (encode 0xFFFE) ≡ false
unfolding encode
not_first = refl

not_second : list_all is_common (encode 0xFFFF) ≡ false
unfolding encode
not_second = refl

wide_text : (c : ℕ) → 128 ≤ c → IsScalar c → nat_eq c 0xFFFE ≡ false → nat_eq c 0xFFFF ≡ false → is_text c ≡ true
wide_text c h s e f = grind (arith, nat_tests)

one : (c : ℕ) → IsScalar c → list_all is_common (encode_utf8 c) ≡ true → is_text c ≡ true
one c s h = by_size (nat_lt c 128) refl
  where
    low : nat_lt c 128 ≡ true → c < 128
    low e = grind (arith, nat_tests)

    high : nat_lt c 128 ≡ false → 128 ≤ c
    high e = grind (arith, nat_tests)

    by_second : 128 ≤ c → nat_eq c 0xFFFE ≡ false → (t : Bool) → nat_eq c 0xFFFF ≡ t → is_text c ≡ true
    by_second w e true f = absurd (false≢true (sym not_second ∙ ap (λ x. list_all is_common (encode x)) (sym (eqb-true c 0xFFFF f)) ∙ h))
    by_second w e false f = wide_text c w s e f

    by_first : 128 ≤ c → (t : Bool) → nat_eq c 0xFFFE ≡ t → is_text c ≡ true
    by_first w true e = absurd (false≢true (sym not_first ∙ ap (λ x. list_all is_common (encode x)) (sym (eqb-true c 0xFFFE e)) ∙ h))
    by_first w false e = by_second w e (nat_eq c 0xFFFF) refl

    by_size : (t : Bool) → nat_lt c 128 ≡ t → is_text c ≡ true
    by_size true e =
        let common : list_all is_common (c ∷ []) ≡ true = ap (list_all is_common) (sym (encode_ascii c (low e))) ∙ h in
        ordinary_text c (low_common c (low e) (and_parts (is_common c) true common).0)
    by_size false e = by_first (high e) (nat_eq c 0xFFFE) refl

-- All of them.

each : (cs : List ℕ) → scalars cs ≡ true → list_all is_common (encode_utf8_all cs) ≡ true → list_all is_text cs ≡ true
each [] s h = refl
each (c ∷ cs) s h =
    let t = and_parts (scalar c) (scalars cs) s in
    let both = and_parts (list_all is_common (encode_utf8 c)) (list_all is_common (encode_utf8_all cs)) (sym (list_all-append is_common (encode_utf8 c) (encode_utf8_all cs)) ∙ h) in
    and_from _ _ (one c t.0 both.0) (each cs t.1 both.1)

pub common_text : (text : List ℕ) → IsUtf8 text → list_all is_common text ≡ true → list_all is_text (chars text) ≡ true
common_text text u h = each (chars text) (scalars-chars text u) (ap (list_all is_common) (encodes-chars text u) ∙ h)

-- Runs.

pub from_between : (p : ℕ → Bool) (xs : List ℕ) → ((k : ℕ) → 0 ≤ k → k < length xs → p (get_or xs k 0) ≡ true) → list_all p xs ≡ true
from_between p [] h = refl
from_between p (x ∷ xs) h = and_from _ _ (h 0 (omega arith) (omega arith)) (from_between p xs (λ k low high. h (suc k) (omega arith) (omega (arith, high))))

pub sixteen_more : (p : ℕ → Bool) (d : List ℕ) (at n : ℕ) → AllPassBetween p d 0 at → IsRunIn p d at 16 n → 16 ≤ n → AllPassBetween p d 0 (at + 16)
sixteen_more p d at n before run all k low high = by_place (nat_lt k at) refl
  where
    by_place : (t : Bool) → nat_lt k at ≡ t → p (get_or d k 0) ≡ true
    by_place true e = before k low (let f : k < at = grind (arith, nat_tests) in f)
    by_place false e = run.0.1 k (let f : at ≤ k = grind (arith, nat_tests) in f) (omega (arith, high, all))

pub next_more : (p : ℕ → Bool) (d : List ℕ) (at : ℕ) → AllPassBetween p d 0 at → p (get_or d at 0) ≡ true → AllPassBetween p d 0 (at + 1)
next_more p d at before one k low high = by_place (nat_eq k at) refl
  where
    by_place : (t : Bool) → nat_eq k at ≡ t → p (get_or d k 0) ≡ true
    by_place true e = ap (λ x. p (get_or d x 0)) (eqb-true k at e) ∙ one
    by_place false e = before k low (let f : k < at = grind (arith, nat_tests) in f)
