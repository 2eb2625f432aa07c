-- The number that digits name, cut off at a limit.
use Rattle.std.proofs.Common.{◌≡◌, ℕ, ◌+◌, ◌*◌, ◌<◌, ◌≤◌, min, Bool, true, false, not, nat_le, ◌&&◌, ◌||◌, ◌⊎◌, inl, inr, Some, None, List, [], ◌∷◌, ◌++◌, reverse, refl, sym, ap, ◌∙◌, append_assoc, arith}
use Rattle.std.specs.Str.{IsUtf8, chars}
use Rattle.std.specs.Char.{encode_utf8}
use Rattle.std.proofs.lemmas.Bool.{cases_lt, and_right, lt-leb, false≢true}
use Rattle.std.proofs.lemmas.List.{reverse-append}
use Rattle.std.proofs.lemmas.Str.{chars-nil, IsUtf8-nil, IsUtf8-append}
use Rattle.std.specs.List.{list_all}
use Rattle.std.proofs.Math.Bool.{and-false}
use Rattle.document_model.specs.Characters.{is_char, in_ranges, is_empty}
use Rattle.document_model.specs.Items.{digit, number, numbered, when}
use Rattle.xml_items.proofs.Fronts.{chars_with_last, first_utf8}

abbrev pub too_large : ℕ
too_large = 0x11_0000

-- n is the number of the digits before rest, or the limit
pub record Counted (base n : ℕ) (text rest : List ℕ) : Type 0 where
  pub front : List ℕ
  pub joined : front ++ rest ≡ text
  pub utf8 : IsUtf8 front
  pub counted : n ≡ min (number base (reverse (chars front))) too_large

pub counted_none : (base : ℕ) (text : List ℕ) → Counted base 0 text text
counted_none base text = record { front = []; joined = refl; utf8 = IsUtf8-nil; counted = rw chars-nil refl }

capped : (a d base : ℕ) → 0 < base → min (min a too_large * base + d) too_large ≡ min (d + base * a) too_large
capped a d base h = grind arith

pub counted_more : (base n : ℕ) (text rest next : List ℕ) (c : ℕ) → 0 < base → Counted base n text rest → IsUtf8 rest → rest ≡ encode_utf8 c ++ next
    → Counted base (min (n * base + digit c) too_large) text next
counted_more base n text rest next c h w u e =
    let f : chars (w.front ++ encode_utf8 c) ≡ chars w.front ++ c ∷ [] = chars_with_last w.front rest next c w.utf8 u e in
    let r : reverse (chars w.front ++ c ∷ []) ≡ c ∷ reverse (chars w.front) = reverse-append (chars w.front) (c ∷ []) in
    record {
      front = w.front ++ encode_utf8 c;
      joined = append_assoc w.front (encode_utf8 c) next ∙ ap (λ x. w.front ++ x) (sym e) ∙ w.joined;
      utf8 = IsUtf8-append w.front (encode_utf8 c) w.utf8 (first_utf8 rest next c u e);
      counted = rw (f, r) (ap (λ x. min (x * base + digit c) too_large) w.counted ∙ capped (number base (reverse (chars w.front))) (digit c) base h);
    }

-- a number above each range lies in none

above : (lo hi n : ℕ) (b : Bool) → hi < n → b ≡ false → ((nat_le lo n && nat_le n hi) || b) ≡ false
above lo hi n b h e = rw (and_right (nat_le lo n) (nat_le n hi) (lt-leb n hi h), e) refl

no_char_above : (n : ℕ) → too_large ≤ n → is_char n ≡ false
no_char_above n h =
    above 0x9 0xA n _ (omega arith) (above 0xD 0xD n _ (omega arith) (above 0x20 0xD7FF n _ (omega arith) (above 0xE000 0xFFFD n _ (omega arith) (above 0x10000 0x10FFFF n _ (omega arith) refl))))

same_char : (a : ℕ) → when (is_char (min a too_large)) (min a too_large) ≡ when (is_char a) a
same_char a = go (cases_lt a too_large)
  where
    go : ((a < too_large) ⊎ (too_large ≤ a)) → when (is_char (min a too_large)) (min a too_large) ≡ when (is_char a) a
    go (inl h) = let e : min a too_large ≡ a = omega arith in rw e refl
    go (inr h) = let e : min a too_large ≡ too_large = omega arith in rw (e, no_char_above a h) refl

pub numbered_when : (base n : ℕ) (rs : List (ℕ × ℕ)) (cs : List ℕ) → n ≡ min (number base (reverse cs)) too_large
    → numbered base rs cs ≡ when (not (is_empty cs) && list_all (in_ranges rs) cs && is_char n) n
numbered_when base n rs cs e = go (not (is_empty cs) && list_all (in_ranges rs) cs)
  where
    go : (b : Bool) → when (b && is_char (number base (reverse cs))) (number base (reverse cs)) ≡ when (b && is_char n) n
    go false = refl
    go true = rw e (sym (same_char (number base (reverse cs))))

pub numbered_empty : (base : ℕ) (rs : List (ℕ × ℕ)) (cs : List ℕ) → is_empty cs ≡ true → numbered base rs cs ≡ None
numbered_empty base rs [] e = refl
numbered_empty base rs (c ∷ cs) e = absurd (false≢true e)

pub numbered_other : (base : ℕ) (rs : List (ℕ × ℕ)) (cs : List ℕ) → list_all (in_ranges rs) cs ≡ false → numbered base rs cs ≡ None
numbered_other base rs cs e = rw (e, and-false (not (is_empty cs))) refl

pub numbered_above : (base n : ℕ) (rs : List (ℕ × ℕ)) (cs : List ℕ) → n ≡ min (number base (reverse cs)) too_large → is_char n ≡ false → numbered base rs cs ≡ None
numbered_above base n rs cs e h = numbered_when base n rs cs e ∙ rw (h, and-false (not (is_empty cs) && list_all (in_ranges rs) cs)) refl

pub numbered_some : (base n : ℕ) (rs : List (ℕ × ℕ)) (cs : List ℕ) → n ≡ min (number base (reverse cs)) too_large → is_empty cs ≡ false → list_all (in_ranges rs) cs ≡ true → is_char n ≡ true
    → numbered base rs cs ≡ Some n
numbered_some base n rs cs e f g h = numbered_when base n rs cs e ∙ rw (f, g, h) refl
