-- Texts that begin or end with an ASCII text, as bytes and as characters.
use Rattle.std.proofs.Common.{◌≡◌, ℕ, zero, suc, ◌-◌, ◌<◌, Bool, true, false, nat_eq, nat_lt, nat_le, ◌==◌, List, [], ◌∷◌, ◌++◌, length, take, drop, reverse, Option, Some, None, option_map, refl, sym, ap, ◌∙◌, subst, arith, length-append, MatchOption, map, cond, ◌&&◌}
use Rattle.std.proofs.lemmas.Bool.Decides.{nat_tests}
use Rattle.std.specs.Str.{IsUtf8, IsAscii, chars, IsCharBoundary, bytes_eq}
use Rattle.std.specs.List.{list_all, starts_with, ends_with}
use Rattle.std.specs.Char.{encode_utf8, to_ascii_lowercase}
use Rattle.std.specs.Cmp.Lexicographic.{same_text, bytes_decides}
use Rattle.std.specs.Prelude.{encode_utf8_all}
use Rattle.std.proofs.Math.Seq.{take-append_seam, drop-append_seam, take-nil}
use Rattle.std.proofs.lemmas.Bool.{and_parts, ltb-true, le-leb, ne_eqb, both_ways}
use Rattle.std.proofs.lemmas.List.{append-nil, take-append-drop, reverse-append, reverse-reverse, length-take-le}
use Rattle.std.proofs.lemmas.Str.{chars-nil, chars-append, chars_past_char, encodes-chars, encodes-append, encodes-IsAscii, chars-IsAscii, IsUtf8-from_ascii, IsUtf8-take, IsUtf8-drop, IsCharBoundary-at_seam, IsCharBoundary-from_take}
use Rattle.document_model.specs.Characters.{span, between, contains, is_empty, is_white}
use Rattle.document_model.specs.Items.{without_space_behind, lower_case}
use Rattle.xml_items.specs.Texts.{is_ascii, HasEnd}

pub ascii_from : (text : List ℕ) → is_ascii text ≡ true → IsAscii text
ascii_from [] h i = lit
  where
    lit : 0 < 128
    lit = omega arith
ascii_from (b ∷ text) h zero = ltb-true b 128 (and_parts _ _ h).0
ascii_from (b ∷ text) h (suc i) = ascii_from text (and_parts (nat_lt b 128) (is_ascii text) h).1 i

pub same_bool : (a b : Bool) → (a ≡ true → b ≡ true) → (b ≡ true → a ≡ true) → a ≡ b
same_bool true b f g = sym (f refl)
same_bool false true f g = g refl
same_bool false false f g = refl

pub same_from : (xs ys : List ℕ) → xs ≡ ys → bytes_eq xs ys ≡ true
same_from xs ys e = (bytes_decides xs ys).1 e

pub starts_split : (p xs : List ℕ) → starts_with nat_eq xs p ≡ true → xs ≡ p ++ drop (length p) xs
starts_split p xs h = let e : p ≡ take (length p) xs = same_text p (take (length p) xs) (sym h) in
    sym (take-append-drop (length p) xs) ∙ ap (λ x. x ++ drop (length p) xs) (sym e)

pub starts_front : (p ys : List ℕ) → starts_with nat_eq (p ++ ys) p ≡ true
starts_front p ys = same_from p (take (length p) (p ++ ys)) (sym (take-append_seam p ys))

pub ends_split : (c xs : List ℕ) → ends_with nat_eq xs c ≡ true → xs ≡ take (length xs - length c) xs ++ c
ends_split c xs h = let e : c ≡ drop (length xs - length c) xs = same_text c (drop (length xs - length c) xs) (sym h) in
    sym (take-append-drop (length xs - length c) xs) ∙ ap (λ x. take (length xs - length c) xs ++ x) (sym e)

length_before : (xs c : List ℕ) → length (xs ++ c) - length c ≡ length xs
length_before xs c = omega (arith, length-append xs c)

pub ends_front : (xs c : List ℕ) → ends_with nat_eq (xs ++ c) c ≡ true
ends_front xs c = same_from c (drop (length (xs ++ c) - length c) (xs ++ c)) (sym (ap (λ n. drop n (xs ++ c)) (length_before xs c) ∙ drop-append_seam xs c))

-- characters and bytes

pub chars_behind : (p ys : List ℕ) → is_ascii p ≡ true → chars (p ++ ys) ≡ p ++ chars ys
chars_behind p ys a = let ascii = ascii_from p a in chars-append p ys (IsUtf8-from_ascii p ascii) ∙ ap (λ x. x ++ chars ys) (chars-IsAscii p ascii)

pub utf8_behind : (p ys : List ℕ) → IsUtf8 (p ++ ys) → IsUtf8 p → IsUtf8 ys
utf8_behind p ys u v =
    let at : IsCharBoundary (p ++ ys) (length p) = IsCharBoundary-from_take (p ++ ys) (length p) u (omega (arith, length-append p ys)) (subst IsUtf8 (sym (take-append_seam p ys)) v) in
    subst IsUtf8 (drop-append_seam p ys) (IsUtf8-drop (p ++ ys) (length p) u at)

pub utf8_before : (xs c : List ℕ) → IsUtf8 (xs ++ c) → IsUtf8 c → IsUtf8 xs
utf8_before xs c u v = subst IsUtf8 (take-append_seam xs c) (IsUtf8-take (xs ++ c) (length xs) u (IsCharBoundary-at_seam (xs ++ c) xs c refl v))

pub chars_before : (xs c : List ℕ) → is_ascii c ≡ true → IsUtf8 (xs ++ c) → chars (xs ++ c) ≡ chars xs ++ c
chars_before xs c a u =
    let ascii = ascii_from c a in
    chars-append xs c (utf8_before xs c u (IsUtf8-from_ascii c ascii)) ∙ ap (λ x. chars xs ++ x) (chars-IsAscii c ascii)

-- what characters begin with, the bytes do
pub bytes_behind : (p cs xs : List ℕ) → is_ascii p ≡ true → IsUtf8 xs → chars xs ≡ p ++ cs → xs ≡ p ++ encode_utf8_all cs
bytes_behind p cs xs a u e = sym (encodes-chars xs u) ∙ ap encode_utf8_all e ∙ encodes-append p cs ∙ ap (λ x. x ++ encode_utf8_all cs) (encodes-IsAscii p (ascii_from p a))

pub bytes_before : (cs c xs : List ℕ) → is_ascii c ≡ true → IsUtf8 xs → chars xs ≡ cs ++ c → xs ≡ encode_utf8_all cs ++ c
bytes_before cs c xs a u e = sym (encodes-chars xs u) ∙ ap encode_utf8_all e ∙ encodes-append cs c ∙ ap (λ x. encode_utf8_all cs ++ x) (encodes-IsAscii c (ascii_from c a))

pub chars_start : (p xs : List ℕ) → is_ascii p ≡ true → IsUtf8 xs → starts_with nat_eq (chars xs) p ≡ starts_with nat_eq xs p
chars_start p xs a u = same_bool _ _
    (λ h. let e = bytes_behind p (drop (length p) (chars xs)) xs a u (starts_split p (chars xs) h) in
    ap (λ x. starts_with nat_eq x p) e ∙ starts_front p (encode_utf8_all (drop (length p) (chars xs))))
    (λ h. let e : chars xs ≡ p ++ chars (drop (length p) xs) = ap chars (starts_split p xs h) ∙ chars_behind p (drop (length p) xs) a in
    ap (λ x. starts_with nat_eq x p) e ∙ starts_front p (chars (drop (length p) xs)))

pub chars_same : (p xs : List ℕ) → is_ascii p ≡ true → IsUtf8 xs → bytes_eq (chars xs) p ≡ bytes_eq xs p
chars_same p xs a u = same_bool _ _
    (λ h. same_from xs p (bytes_behind p [] xs a u (same_text (chars xs) p (sym h) ∙ sym (append-nil p)) ∙ append-nil p))
    (λ h. same_from (chars xs) p (ap chars (same_text xs p (sym h)) ∙ chars-IsAscii p (ascii_from p a)))

pub chars_empty : (xs : List ℕ) → length xs ≡ 0 → chars xs ≡ []
chars_empty [] e = chars-nil
chars_empty (x ∷ xs) e = absurd (omega arith)

pub empty_chars : (xs : List ℕ) → IsUtf8 xs → is_empty (chars xs) ≡ (length xs == 0)
empty_chars [] u = rw chars-nil refl
empty_chars (x ∷ xs) u = go (chars (x ∷ xs)) refl
  where
    go : (cs : List ℕ) → chars (x ∷ xs) ≡ cs → is_empty cs ≡ (length (x ∷ xs) == 0)
    go [] e = let n : [] ≡ x ∷ xs = ap encode_utf8_all (sym e) ∙ encodes-chars (x ∷ xs) u in cc
    go (d ∷ ds) e = sym (ne_eqb (length (x ∷ xs)) 0 (λ h. omega arith))

-- between

pub between_no_end : (p c rest text : List ℕ) → is_ascii p ≡ true → is_ascii c ≡ true → IsUtf8 text → text ≡ p ++ rest → (HasEnd rest c → ⊥) → between p c (chars text) ≡ None
between_no_end p c rest text a b u e h =
    let v : IsUtf8 rest = utf8_behind p rest (subst IsUtf8 e u) (IsUtf8-from_ascii p (ascii_from p a)) in
    let whole : chars text ≡ p ++ chars rest = ap chars e ∙ chars_behind p rest a in
    let no_end : ends_with nat_eq (chars rest) c ≡ false = is_false (ends_with nat_eq (chars rest) c)
    (λ t. h (encode_utf8_all (take (length (chars rest) - length c) (chars rest)), bytes_before _ c rest b v (ends_split c (chars rest) t))) in
    rw (whole, starts_front p (chars rest), drop-append_seam p (chars rest), no_end) refl
  where
    is_false : (t : Bool) → (t ≡ true → ⊥) → t ≡ false
    is_false true h = absurd (h refl)
    is_false false h = refl

pub between_some : (p c text inside : List ℕ) → is_ascii p ≡ true → is_ascii c ≡ true → IsUtf8 text → text ≡ p ++ (inside ++ c) → between p c (chars text) ≡ Some (chars inside)
between_some p c text inside a b u e =
    let v : IsUtf8 (inside ++ c) = utf8_behind p (inside ++ c) (subst IsUtf8 e u) (IsUtf8-from_ascii p (ascii_from p a)) in
    let whole : chars text ≡ p ++ (chars inside ++ c) = ap chars e ∙ chars_behind p (inside ++ c) a ∙ ap (λ x. p ++ x) (chars_before inside c b v) in
    let le : nat_le (length c) (length (chars inside ++ c)) ≡ true = le-leb _ _ (omega (arith, length-append (chars inside) c)) in
    rw (whole, starts_front p (chars inside ++ c), drop-append_seam p (chars inside ++ c), ends_front (chars inside) c, le, length_before (chars inside) c, take-append_seam (chars inside) c) refl

-- contains

pub contains_starts : (cs part : List ℕ) → starts_with nat_eq cs part ≡ true → contains cs part ≡ true
contains_starts [] part h = let e : part ≡ take (length part) [] = same_text part (take (length part) []) (sym h) in rw (e ∙ take-nil (length part)) refl
contains_starts (c ∷ cs) part h = rw h refl

pub contains_further : (part rest next : List ℕ) (c : ℕ) → is_ascii part ≡ true → IsUtf8 rest → rest ≡ encode_utf8 c ++ next → starts_with nat_eq rest part ≡ false
    → contains (chars rest) part ≡ contains (chars next) part
contains_further part rest next c a u e h =
    let r : chars rest ≡ c ∷ chars next = chars_past_char rest next c u e in
    let no_start : starts_with nat_eq (c ∷ chars next) part ≡ false = ap (λ x. starts_with nat_eq x part) (sym r) ∙ chars_start part rest a u ∙ h in
    rw (r, no_start) refl

pub contains_nowhere : (part rest : List ℕ) → 0 < length part → length rest ≡ 0 → contains (chars rest) part ≡ false
contains_nowhere [] rest h e = absurd (omega arith)
contains_nowhere (x ∷ part) [] h e = rw chars-nil refl
contains_nowhere (x ∷ part) (y ∷ rest) h e = absurd (omega arith)

-- runs

pub all_in_span : (p : ℕ → Bool) (cs : List ℕ) → list_all p cs ≡ is_empty (span p cs).1
all_in_span p [] = refl
all_in_span p (c ∷ cs) = go (p c) refl (all_in_span p cs)
  where
    go : (t : Bool) → p c ≡ t → list_all p cs ≡ is_empty (span p cs).1 → list_all p (c ∷ cs) ≡ is_empty (span p (c ∷ cs)).1
    go true e behind = rw e behind
    go false e behind = rw e refl

-- white space behind

one_char : (t text : List ℕ) (c : ℕ) → IsUtf8 t → IsUtf8 text → text ≡ t ++ encode_utf8 c → chars text ≡ chars t ++ c ∷ []
one_char t text c u v e =
    let w : IsUtf8 (encode_utf8 c) = utf8_behind t (encode_utf8 c) (subst IsUtf8 e v) u in
    ap chars e ∙ chars-append t (encode_utf8 c) u ∙ ap (λ cs. chars t ++ cs) (chars_past_char (encode_utf8 c) [] c w (sym (append-nil (encode_utf8 c))) ∙ ap (λ cs. c ∷ cs) chars-nil)

pub less_space_behind : (t text : List ℕ) (c : ℕ) → IsUtf8 t → IsUtf8 text → text ≡ t ++ encode_utf8 c → is_white c ≡ true → without_space_behind (chars text) ≡ without_space_behind (chars t)
less_space_behind t text c u v e h =
    let r : reverse (chars t ++ c ∷ []) ≡ c ∷ reverse (chars t) = reverse-append (chars t) (c ∷ []) in
    rw (one_char t text c u v e, r, h) refl

pub no_space_behind : (t text : List ℕ) (c : ℕ) → IsUtf8 t → IsUtf8 text → text ≡ t ++ encode_utf8 c → is_white c ≡ false → without_space_behind (chars text) ≡ chars text
no_space_behind t text c u v e h =
    let r : reverse (chars t ++ c ∷ []) ≡ c ∷ reverse (chars t) = reverse-append (chars t) (c ∷ []) in
    let back : reverse (c ∷ reverse (chars t)) ≡ chars t ++ c ∷ [] = ap reverse (sym r) ∙ reverse-reverse (chars t ++ c ∷ []) in
    rw (one_char t text c u v e, r, h) back

pub nothing_behind : (text : List ℕ) → length text ≡ 0 → without_space_behind (chars text) ≡ chars text
nothing_behind [] e = rw chars-nil refl
nothing_behind (x ∷ text) e = absurd (omega arith)

-- where a text may be cut

pub boundary_behind : (p xs : List ℕ) → is_ascii p ≡ true → IsUtf8 xs → starts_with nat_eq xs p ≡ true → IsCharBoundary xs (length p)
boundary_behind p xs a u h =
    let e : xs ≡ p ++ drop (length p) xs = starts_split p xs h in
    IsCharBoundary-from_take xs (length p) u (omega (arith, ap length e, length-append p (drop (length p) xs)))
    (subst IsUtf8 (same_text p (take (length p) xs) (sym h)) (IsUtf8-from_ascii p (ascii_from p a)))

pub boundary_before : (c xs : List ℕ) → is_ascii c ≡ true → IsUtf8 xs → ends_with nat_eq xs c ≡ true → IsCharBoundary xs (length xs - length c)
boundary_before c xs a u h =
    let e : xs ≡ take (length xs - length c) xs ++ c = ends_split c xs h in
    let n : length (take (length xs - length c) xs) ≡ length xs - length c = length-take-le (length xs - length c) xs (omega arith) in
    subst (IsCharBoundary xs) n (IsCharBoundary-at_seam xs (take (length xs - length c) xs) c e (IsUtf8-from_ascii c (ascii_from c a)))

pub not_start : (p xs : List ℕ) → is_ascii p ≡ true → IsUtf8 xs → starts_with nat_eq xs p ≡ false → starts_with nat_eq (chars xs) p ≡ false
not_start p xs a u h = chars_start p xs a u ∙ h

pub not_end : (c xs : List ℕ) → ends_with nat_eq xs c ≡ false → HasEnd xs c → ⊥
not_end c xs h w = both_ways (ends_with nat_eq xs c) h (ap (λ x. ends_with nat_eq x c) w.1 ∙ ends_front w.0 c)

-- what the two halves of `between` give
pub between_from : {B : Type 0} (now : B → List ℕ) (p c rest text : List ℕ) (inside : Option B) → is_ascii p ≡ true → is_ascii c ≡ true → IsUtf8 text → text ≡ p ++ rest
    → MatchOption inside (HasEnd rest c → ⊥) (λ x. rest ≡ now x ++ c) → between p c (chars text) ≡ option_map (λ x. chars (now x)) inside
between_from now p c rest text None a b u e m = between_no_end p c rest text a b u e m
between_from now p c rest text (Some x) a b u e m = between_some p c text (now x) a b u (e ∙ ap (λ r. p ++ r) m)

-- `between` on characters

pub between_at : (p c x : List ℕ) → between p c (p ++ (x ++ c)) ≡ Some x
between_at p c x =
    let le : nat_le (length c) (length (x ++ c)) ≡ true = le-leb _ _ (omega (arith, length-append x c)) in
    rw (starts_front p (x ++ c), drop-append_seam p (x ++ c), ends_front x c, le, length_before x c, take-append_seam x c) refl

some_from : {A : Type 0} (b : Bool) (x y : A) → cond b (Some x) None ≡ Some y → (b ≡ true) × (x ≡ y)
some_from true x y e = (refl, cc)
some_from false x y e = absurd cc

pub between_whole : (p c whole x : List ℕ) → between p c whole ≡ Some x → whole ≡ p ++ (x ++ c)
between_whole p c whole x e =
    let inside : List ℕ = drop (length p) whole in
    let both = some_from (starts_with nat_eq whole p && ends_with nat_eq inside c && nat_le (length c) (length inside)) (take (length inside - length c) inside) x e in
    let first = and_parts (starts_with nat_eq whole p && ends_with nat_eq inside c) _ both.0 in
    let second = and_parts (starts_with nat_eq whole p) _ first.0 in
    starts_split p whole second.0 ∙ ap (λ y. p ++ y) (ends_split c inside second.1 ∙ ap (λ y. y ++ c) both.1)

-- cases of letters

lower_same : (c : ℕ) → lower_case c ≡ to_ascii_lowercase c
lower_same c = grind (arith, nat_tests)

lowers_same : (cs : List ℕ) → map lower_case cs ≡ map to_ascii_lowercase cs
lowers_same [] = refl
lowers_same (c ∷ cs) = (λ i. lower_same c i ∷ lowers_same cs i)

ascii_lowered : (c : ℕ) → to_ascii_lowercase c < 128 → c < 128
ascii_lowered c h = grind (arith, nat_tests)

ascii_before : (cs : List ℕ) → is_ascii (map to_ascii_lowercase cs) ≡ true → IsAscii cs
ascii_before [] h i = omega arith
ascii_before (c ∷ cs) h zero = ascii_lowered c (ltb-true _ 128 (and_parts _ _ h).0)
ascii_before (c ∷ cs) h (suc i) = ascii_before cs (and_parts (nat_lt (to_ascii_lowercase c) 128) _ h).1 i

pub lowered_same : (p xs : List ℕ) → is_ascii p ≡ true → IsUtf8 xs → bytes_eq (map lower_case (chars xs)) p ≡ bytes_eq (map to_ascii_lowercase xs) p
lowered_same p xs a u = rw lowers_same (same_bool _ _
    (λ h. let e : map to_ascii_lowercase (chars xs) ≡ p = same_text (map to_ascii_lowercase (chars xs)) p (sym h) in
    let ascii : IsAscii (chars xs) = ascii_before (chars xs) (ap is_ascii e ∙ a) in
    let same : chars xs ≡ xs = sym (encodes-IsAscii (chars xs) ascii) ∙ encodes-chars xs u in
    ap (λ x. bytes_eq (map to_ascii_lowercase x) p) (sym same) ∙ h)
    (λ h. let e : map to_ascii_lowercase xs ≡ p = same_text (map to_ascii_lowercase xs) p (sym h) in
    let same : chars xs ≡ xs = chars-IsAscii xs (ascii_before xs (ap is_ascii e ∙ a)) in
    ap (λ x. bytes_eq (map to_ascii_lowercase x) p) same ∙ h))

pub iff_same : (b : Bool) (xs p : List ℕ) → (b ≡ true → xs ≡ p) → (xs ≡ p → b ≡ true) → b ≡ bytes_eq xs p
iff_same b xs p f g = same_bool b (bytes_eq xs p) (λ h. same_from xs p (f h)) (λ h. g (same_text xs p (sym h)))

-- two texts are the same by their bytes where they are by their characters
pub texts_same : (a b : List ℕ) → IsUtf8 a → IsUtf8 b → bytes_eq a b ≡ bytes_eq (chars a) (chars b)
texts_same a b u v = same_bool _ _
    (λ e. same_from (chars a) (chars b) (ap chars (same_text a b (sym e))))
    (λ e. same_from a b (sym (encodes-chars a u) ∙ ap encode_utf8_all (same_text (chars a) (chars b) (sym e)) ∙ encodes-chars b v))
