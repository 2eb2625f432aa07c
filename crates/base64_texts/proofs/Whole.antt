-- A text may end at a stage exactly where it is strict base64.
use Rattle.std.proofs.Common.{◌≡◌, ℕ, zero, suc, ◌+◌, ◌*◌, ◌/◌, ◌%◌, ◌<◌, Bool, true, false, cond, List, [], ◌∷◌, ◌++◌, length, Ok, Err, Some, None, Option, Result, nat_eq, refl, sym, ◌∙◌, ap, subst, arith}
use Rattle.std.proofs.lemmas.Bool.{false≢true, eqb-true}
use Rattle.std.proofs.lemmas.Str.{encodes-IsAscii}
use Rattle.std.proofs.lemmas.Option.{none-some}
use Rattle.std.specs.Prelude.{slice_index, ◌&&◌, encode_utf8_all, is_some}
use Rattle.std.specs.Option.{option_map_or}
use Rattle.std.specs.Result.{result_ok}
use Rattle.std.specs.List.{AllByRecursion}
use Rattle.base64.specs.declared.decode.DecodeError.{DecodeError}
use Rattle.base64.specs.Rfc4648.{encode_symbols, encode_group}
use Rattle.base64.specs.GeneralPurpose.{decode_of, decoded_of, IsBytes, IsStrict}
use Rattle.base64.specs.Engines.{standard}
use Rattle.base64.proofs.EngineFacts.{decode_of_strict, decode_of-encode_of, encode_of-append, IsAscii-encode_of}
use Rattle.signature_model.specs.Base64.{strict, is_strict}
use Rattle.document_model.proofs.Joins.{by_test, some_same}
use Rattle.base64_texts.specs.declared.stages.Stage.{Stage}
use Rattle.base64_texts.specs.declared.stages.Stage.TheVariants.{Start, One, Two, Three, Padding, End, Refused}
use Rattle.base64_texts.specs.Symbols.{value_of, is_padding}
use Rattle.base64_texts.specs.Stages.{after, after_symbol, after_other, after_all, is_whole}
use Rattle.base64_texts.specs.Spelling.{spelled}
use Rattle.base64_texts.proofs.Tables.{symbols, Known, known_place, value_in, symbol_in, low_text, low_encodes, low_bytes}
use Rattle.base64_texts.proofs.Read.{decoded_known}

-- Spellings by groups.

abbrev sym_at : ℕ → ℕ
sym_at i = slice_index symbols i

pub spelled-nil : spelled [] ≡ []
unfolding spelled encode_symbols
spelled-nil = refl

pub spelled-append : (a b : List ℕ) → length a % 3 ≡ 0 → spelled (a ++ b) ≡ spelled a ++ spelled b
unfolding spelled
spelled-append a b h = encode_of-append standard a b h

spelled_one : (a : ℕ) → spelled (a ∷ []) ≡ sym_at (a / 4) ∷ sym_at (a % 4 * 16) ∷ 61 ∷ 61 ∷ []
unfolding spelled encode_symbols
spelled_one a = refl

spelled_two : (a b : ℕ) → spelled (a ∷ b ∷ []) ≡ sym_at (a / 4) ∷ sym_at (a % 4 * 16 + b / 16) ∷ sym_at (b % 16 * 4) ∷ 61 ∷ []
unfolding spelled encode_symbols
spelled_two a b = refl

spelled_three : (a b c : ℕ) → spelled (a ∷ b ∷ c ∷ []) ≡ encode_group symbols a b c
unfolding spelled encode_symbols
spelled_three a b c = refl

pub spelled_group : (a b c : ℕ) (rest : List ℕ) → spelled (a ∷ b ∷ c ∷ rest) ≡ encode_group symbols a b c ++ spelled rest
spelled_group a b c rest = spelled-append (a ∷ b ∷ c ∷ []) rest refl ∙ ap (λ x. x ++ spelled rest) (spelled_three a b c)

-- Each spelling ends at a whole stage.

-- the numbers of the symbols are places of the table
abbrev InTable : List ℕ → Type 0
InTable [] = Unit {0}
InTable (a ∷ []) = a / 4 < 64
InTable (a ∷ b ∷ []) = (a / 4 < 64) × (a % 4 * 16 + b / 16 < 64)
InTable (a ∷ b ∷ c ∷ rest) = ((a / 4 < 64) × (a % 4 * 16 + b / 16 < 64) × (b % 16 * 4 + c / 64 < 64)) × InTable rest

bytes_in_table : (b : List ℕ) → IsBytes b → InTable b
bytes_in_table [] h = tt
bytes_in_table (a ∷ []) h = let ha : a < 256 = h 0 in omega (arith, ha)
bytes_in_table (a ∷ b ∷ []) h =
    let ha : a < 256 = h 0 in
    let hb : b < 256 = h 1 in
    (omega (arith, ha), omega (arith, hb))
bytes_in_table (a ∷ b ∷ c ∷ rest) h =
    let ha : a < 256 = h 0 in
    let hb : b < 256 = h 1 in
    let hc : c < 256 = h 2 in
    ((omega (arith, ha), omega (arith, hb), omega (arith, hc)), bytes_in_table rest (λ i. h (suc (suc (suc i)))))

known_in_table : (b : List ℕ) → AllByRecursion Known (spelled b) → InTable b
known_in_table [] k = tt
known_in_table (a ∷ []) k = known_place (a / 4) (subst (AllByRecursion Known) (spelled_one a) k).0
known_in_table (a ∷ b ∷ []) k = let k : AllByRecursion Known (sym_at (a / 4) ∷ sym_at (a % 4 * 16 + b / 16) ∷ sym_at (b % 16 * 4) ∷ 61 ∷ []) = subst (AllByRecursion Known) (spelled_two a b) k in (known_place (a / 4) k.0, known_place _ k.1.0)
known_in_table (a ∷ b ∷ c ∷ rest) k =
    let k : AllByRecursion Known (encode_group symbols a b c ++ spelled rest) = subst (AllByRecursion Known) (spelled_group a b c rest) k in
    ((known_place _ k.0, known_place _ k.1.0, known_place _ k.1.1.0), known_in_table rest k.1.1.1.1)

by_symbol : (s : Stage) (i : ℕ) → i < 64 → after s (sym_at i) ≡ after_symbol s i
by_symbol s i h = ap (λ o. option_map_or (after_symbol s) o (after_other s (sym_at i))) (value_in i h)

padded : (s : Stage) → after s 61 ≡ after_other s 61
unfolding value_of
padded s = refl

group_passed : (i j k l : ℕ) (cs : List ℕ) → i < 64 → j < 64 → k < 64 → l < 64 → after_all Start (sym_at i ∷ sym_at j ∷ sym_at k ∷ sym_at l ∷ cs) ≡ after_all Start cs
group_passed i j k l cs hi hj hk hl =
    let c3 : List ℕ = sym_at l ∷ cs in
    let c2 : List ℕ = sym_at k ∷ c3 in
    let c1 : List ℕ = sym_at j ∷ c2 in
    ap (λ s. after_all s c1) (by_symbol Start i hi) ∙ ap (λ s. after_all s c2) (by_symbol One j hj)
    ∙ ap (λ s. after_all s c3) (by_symbol (Two (nat_eq (j % 16) 0)) k hk) ∙ ap (λ s. after_all s cs) (by_symbol (Three (nat_eq (k % 4) 0)) l hl)

two_passed : (i j : ℕ) → i < 64 → j < 64 → j % 16 ≡ 0 → after_all Start (sym_at i ∷ sym_at j ∷ 61 ∷ 61 ∷ []) ≡ End
two_passed i j hi hj zero_bits =
    let cs : List ℕ = 61 ∷ 61 ∷ [] in
    let c1 : List ℕ = sym_at j ∷ cs in
    ap (λ s. after_all s c1) (by_symbol Start i hi) ∙ ap (λ s. after_all s cs) (by_symbol One j hj)
    ∙ ap (λ n. after_all (Two (nat_eq n 0)) cs) zero_bits ∙ ap (λ s. after s 61) (padded (Two true)) ∙ padded Padding

three_passed : (i j k : ℕ) → i < 64 → j < 64 → k < 64 → k % 4 ≡ 0 → after_all Start (sym_at i ∷ sym_at j ∷ sym_at k ∷ 61 ∷ []) ≡ End
three_passed i j k hi hj hk zero_bits =
    let cs : List ℕ = 61 ∷ [] in
    let c2 : List ℕ = sym_at k ∷ cs in
    let c1 : List ℕ = sym_at j ∷ c2 in
    ap (λ s. after_all s c1) (by_symbol Start i hi) ∙ ap (λ s. after_all s c2) (by_symbol One j hj)
    ∙ ap (λ s. after_all s cs) (by_symbol (Two (nat_eq (j % 16) 0)) k hk)
    ∙ ap (λ n. after_all (Three (nat_eq n 0)) cs) zero_bits ∙ padded (Three true)

-- the stage behind the spelling of so many octets
abbrev pub behind : ℕ → Stage
behind n = cond (nat_eq (n % 3) 0) Start End

spelling_passed : (b : List ℕ) → InTable b → after_all Start (spelled b) ≡ behind (length b)
spelling_passed [] h = ap (after_all Start) spelled-nil
spelling_passed (a ∷ []) h = ap (after_all Start) (spelled_one a) ∙ two_passed (a / 4) (a % 4 * 16) h (omega arith) (omega arith)
spelling_passed (a ∷ b ∷ []) h = ap (after_all Start) (spelled_two a b) ∙ three_passed (a / 4) (a % 4 * 16 + b / 16) (b % 16 * 4) h.0 h.1 (omega arith) (omega arith)
spelling_passed (a ∷ b ∷ c ∷ rest) h =
    let e : length (a ∷ b ∷ c ∷ rest) % 3 ≡ length rest % 3 = omega arith in
    ap (after_all Start) (spelled_group a b c rest)
    ∙ group_passed (a / 4) (a % 4 * 16 + b / 16) (b % 16 * 4 + c / 64) (c % 64) (spelled rest) h.0.0 h.0.1 h.0.2 (omega arith)
    ∙ spelling_passed rest h.1 ∙ ap (λ n. cond (nat_eq n 0) Start End) (sym e)

pub behind_spelling : (b : List ℕ) → IsBytes b → after_all Start (spelled b) ≡ behind (length b)
behind_spelling b h = spelling_passed b (bytes_in_table b h)

behind_whole : (n : ℕ) → is_whole (behind n) ≡ true
behind_whole n = by_test (λ s. is_whole s ≡ true) (nat_eq (n % 3) 0) Start End (λ e. refl) (λ e. refl)

-- Each text that ends at a whole stage is a spelling.

pub record Spelling (text : List ℕ) : Type 0 where
  pub octets : List ℕ
  pub bytes : IsBytes octets
  pub is : text ≡ spelled octets

pub refused_stays : (cs : List ℕ) → after_all Refused cs ≡ Refused
refused_stays [] = refl
refused_stays (c ∷ cs) = elim (value_of c) as (λ o. after_all (option_map_or (after_symbol Refused) o Refused) cs ≡ Refused) [ None ↦ refused_stays cs | Some v ↦ refused_stays cs ]

not_whole : {R : Type 0} → (cs : List ℕ) → is_whole (after_all Refused cs) ≡ true → R
not_whole cs h = absurd (false≢true (ap is_whole (sym (refused_stays cs)) ∙ h))

-- by what a character is
by_value : {R : Type 0} (s : Stage) (c : ℕ) (cs : List ℕ) → is_whole (after_all (after s c) cs) ≡ true
    → (is_whole (after_all (after_other s c) cs) ≡ true → R) → ((v : ℕ) → value_of c ≡ Some v → is_whole (after_all (after_symbol s v) cs) ≡ true → R) → R
by_value {R} s c cs h other symbol =
    let split : (o : Option ℕ) → value_of c ≡ o → is_whole (after_all (option_map_or (after_symbol s) o (after_other s c)) cs) ≡ true → R =
    λ o. elim o as (λ o. value_of c ≡ o → is_whole (after_all (option_map_or (after_symbol s) o (after_other s c)) cs) ≡ true → R) [ None ↦ λ e w. other w | Some v ↦ λ e w. symbol v e w ] in
    split (value_of c) refl h

end_alone : (cs : List ℕ) → is_whole (after_all End cs) ≡ true → cs ≡ []
end_alone [] h = refl
end_alone (c ∷ cs) h = by_value End c cs h (λ w. not_whole cs w) (λ v e w. not_whole cs w)

left : (a b : Bool) → (a && b) ≡ true → a ≡ true
left true b e = refl
left false b e = absurd (false≢true e)

right : (a b : Bool) → (a && b) ≡ true → b ≡ true
right true b e = e
right false b e = absurd (false≢true e)

-- by whether the padding character stands there, and may
by_padding : {R : Type 0} (c : ℕ) (may : Bool) (to : Stage) (cs : List ℕ) → is_whole (after_all (cond (is_padding c && may) to Refused) cs) ≡ true
    → (c ≡ 61 → may ≡ true → is_whole (after_all to cs) ≡ true → R) → R
by_padding {R} c may to cs h then =
    by_test (λ s. is_whole (after_all s cs) ≡ true → R) (is_padding c && may) to Refused
    (λ e w. then (eqb-true c 61 (left (is_padding c) may e)) (right (is_padding c) may e) w) (λ e w. not_whole cs w) h

-- what of a group has been read: symbols by their values, and padding
data Held : Type 0 where
  Nothing : Held
  First : (i : ℕ) → Held
  Second : (i j : ℕ) → Held
  Third : (i j k : ℕ) → Held
  Padded : (i j : ℕ) → Held

abbrev stage_of : Held → Stage
stage_of Nothing = Start
stage_of (First i) = One
stage_of (Second i j) = Two (nat_eq (j % 16) 0)
stage_of (Third i j k) = Three (nat_eq (k % 4) 0)
stage_of (Padded i j) = Padding

abbrev text_of : Held → List ℕ → List ℕ
text_of Nothing cs = cs
text_of (First i) cs = sym_at i ∷ cs
text_of (Second i j) cs = sym_at i ∷ sym_at j ∷ cs
text_of (Third i j k) cs = sym_at i ∷ sym_at j ∷ sym_at k ∷ cs
text_of (Padded i j) cs = sym_at i ∷ sym_at j ∷ 61 ∷ cs

abbrev IsHeld : Held → Type 0
IsHeld Nothing = Unit {0}
IsHeld (First i) = i < 64
IsHeld (Second i j) = (i < 64) × (j < 64)
IsHeld (Third i j k) = (i < 64) × (j < 64) × (k < 64)
IsHeld (Padded i j) = (i < 64) × (j < 64) × (j % 16 ≡ 0)

bytes_cons : (b : ℕ) (bs : List ℕ) → b < 256 → IsBytes bs → IsBytes (b ∷ bs)
bytes_cons b bs h k zero = h
bytes_cons b bs h k (suc i) = k i

pub bytes_nil : IsBytes []
bytes_nil i = omega arith

four_spelled : (i j k l : ℕ) (cs : List ℕ) → i < 64 → j < 64 → k < 64 → l < 64 → Spelling cs → Spelling (sym_at i ∷ sym_at j ∷ sym_at k ∷ sym_at l ∷ cs)
four_spelled i j k l cs hi hj hk hl rest =
    let a : ℕ = i * 4 + j / 16 in
    let b : ℕ = j % 16 * 16 + k / 4 in
    let c : ℕ = k % 4 * 64 + l in
    let e0 : a / 4 ≡ i = omega arith in
    let e1 : a % 4 * 16 + b / 16 ≡ j = omega arith in
    let e2 : b % 16 * 4 + c / 64 ≡ k = omega arith in
    let e3 : c % 64 ≡ l = omega arith in
    let group : encode_group symbols a b c ≡ sym_at i ∷ sym_at j ∷ sym_at k ∷ sym_at l ∷ [] = rw (e0, e1, e2, e3) refl in
    record {
      octets = a ∷ b ∷ c ∷ rest.octets;
      bytes = bytes_cons a (b ∷ c ∷ rest.octets) (omega arith) (bytes_cons b (c ∷ rest.octets) (omega arith) (bytes_cons c rest.octets (omega arith) rest.bytes));
      is = sym (spelled_group a b c rest.octets ∙ ap (λ x. x ++ spelled rest.octets) group ∙ ap (λ x. sym_at i ∷ sym_at j ∷ sym_at k ∷ sym_at l ∷ x) (sym rest.is));
    }

three_spelled : (i j k : ℕ) → i < 64 → j < 64 → k < 64 → k % 4 ≡ 0 → Spelling (sym_at i ∷ sym_at j ∷ sym_at k ∷ 61 ∷ [])
three_spelled i j k hi hj hk zero_bits =
    let a : ℕ = i * 4 + j / 16 in
    let b : ℕ = j % 16 * 16 + k / 4 in
    let e0 : a / 4 ≡ i = omega arith in
    let e1 : a % 4 * 16 + b / 16 ≡ j = omega arith in
    let e2 : b % 16 * 4 ≡ k = omega arith in
    record {
      octets = a ∷ b ∷ [];
      bytes = bytes_cons a (b ∷ []) (omega arith) (bytes_cons b [] (omega arith) bytes_nil);
      is = sym (spelled_two a b ∙ rw (e0, e1, e2) refl);
    }

two_spelled : (i j : ℕ) → i < 64 → j < 64 → j % 16 ≡ 0 → Spelling (sym_at i ∷ sym_at j ∷ 61 ∷ 61 ∷ [])
two_spelled i j hi hj zero_bits =
    let a : ℕ = i * 4 + j / 16 in
    let e0 : a / 4 ≡ i = omega arith in
    let e1 : a % 4 * 16 ≡ j = omega arith in
    record {
      octets = a ∷ [];
      bytes = bytes_cons a [] (omega arith) bytes_nil;
      is = sym (spelled_one a ∙ rw (e0, e1) refl);
    }

-- a character with a value is the symbol in that place
put : (f : List ℕ → List ℕ) (c v : ℕ) (cs : List ℕ) → value_of c ≡ Some v → Spelling (f (sym_at v ∷ cs)) → Spelling (f (c ∷ cs))
put f c v cs e h = subst (λ (x : ℕ). Spelling (f (x ∷ cs))) (symbol_in c v e).1 h

whole_spelled : (cs : List ℕ) (held : Held) → IsHeld held → is_whole (after_all (stage_of held) cs) ≡ true → Spelling (text_of held cs)
whole_spelled [] Nothing h w = record { octets = []; bytes = bytes_nil; is = sym spelled-nil }
whole_spelled [] (First i) h w = absurd (false≢true w)
whole_spelled [] (Second i j) h w = absurd (false≢true w)
whole_spelled [] (Third i j k) h w = absurd (false≢true w)
whole_spelled [] (Padded i j) h w = absurd (false≢true w)
whole_spelled (c ∷ cs) Nothing h w =
    by_value Start c cs w (λ x. not_whole cs x) (λ v e x. put (λ t. t) c v cs e (whole_spelled cs (First v) (symbol_in c v e).0 x))
whole_spelled (c ∷ cs) (First i) h w =
    by_value One c cs w (λ x. not_whole cs x) (λ v e x. put (text_of (First i)) c v cs e (whole_spelled cs (Second i v) (h, (symbol_in c v e).0) x))
whole_spelled (c ∷ cs) (Second i j) h w =
    by_value (Two (nat_eq (j % 16) 0)) c cs w
    (λ x. by_padding c (nat_eq (j % 16) 0) Padding cs x (λ p may y.
    subst (λ (d : ℕ). Spelling (sym_at i ∷ sym_at j ∷ d ∷ cs)) (sym p) (whole_spelled cs (Padded i j) (h.0, h.1, eqb-true (j % 16) 0 may) y)))
    (λ v e x. put (text_of (Second i j)) c v cs e (whole_spelled cs (Third i j v) (h.0, h.1, (symbol_in c v e).0) x))
whole_spelled (c ∷ cs) (Third i j k) h w =
    by_value (Three (nat_eq (k % 4) 0)) c cs w
    (λ x. by_padding c (nat_eq (k % 4) 0) End cs x (λ p may y.
    subst (λ (ds : List ℕ). Spelling (sym_at i ∷ sym_at j ∷ sym_at k ∷ c ∷ ds)) (sym (end_alone cs y))
    (subst (λ (d : ℕ). Spelling (sym_at i ∷ sym_at j ∷ sym_at k ∷ d ∷ [])) (sym p) (three_spelled i j k h.0 h.1 h.2 (eqb-true (k % 4) 0 may)))))
    (λ v e x. put (text_of (Third i j k)) c v cs e (four_spelled i j k v cs h.0 h.1 h.2 (symbol_in c v e).0 (whole_spelled cs Nothing tt x)))
whole_spelled (c ∷ cs) (Padded i j) h w =
    by_value Padding c cs w
    (λ x. by_test (λ s. is_whole (after_all s cs) ≡ true → Spelling (sym_at i ∷ sym_at j ∷ 61 ∷ c ∷ cs)) (is_padding c) End Refused
    (λ p y. subst (λ (ds : List ℕ). Spelling (sym_at i ∷ sym_at j ∷ 61 ∷ c ∷ ds)) (sym (end_alone cs y))
    (subst (λ (d : ℕ). Spelling (sym_at i ∷ sym_at j ∷ 61 ∷ d ∷ [])) (sym (eqb-true c 61 p)) (two_spelled i j h.0 h.1 h.2)))
    (λ p y. not_whole cs y) x)
    (λ v e x. not_whole cs x)

pub spelling_of : (text : List ℕ) → is_whole (after_all Start text) ≡ true → Spelling text
spelling_of text w = whole_spelled text Nothing tt w

-- Spellings are what is strict.

pub strictness : IsStrict standard
strictness = (refl, refl)

pub strict_spelled : (b : List ℕ) → IsBytes b → strict (spelled b) ≡ Some b
unfolding spelled decoded_of
strict_spelled b h =
    ap (λ s. result_ok (decode_of standard s)) (encodes-IsAscii _ (IsAscii-encode_of standard b))
    ∙ ap (λ (r : Result (List ℕ) DecodeError). result_ok r) (decode_of-encode_of standard b refl h)

decoded : (r : Result (List ℕ) DecodeError) (b : List ℕ) → result_ok r ≡ Some b → r ≡ Ok b
decoded (Ok x) b e = ap (λ (y : List ℕ). Ok y) (some_same x b e)
decoded (Err x) b e = absurd (none-some b e)

strict_whole : (text b : List ℕ) → strict text ≡ Some b → is_whole (after_all Start text) ≡ true
unfolding spelled decoded_of
strict_whole text b e =
    let ok : decode_of standard (encode_utf8_all text) ≡ Ok b = decoded _ b e in
    let low = low_text text (decoded_known _ b ok) in
    let same : encode_utf8_all text ≡ text = low_encodes text low in
    let ok_text : decode_of standard text ≡ Ok b = subst (λ (s : List ℕ). decode_of standard s ≡ Ok b) same ok in
    let is : text ≡ spelled b = decode_of_strict standard text b strictness (low_bytes text low) ok_text in
    let known : AllByRecursion Known (spelled b) = subst (AllByRecursion Known) is (decoded_known text b ok_text) in
    ap (λ t. is_whole (after_all Start t)) is ∙ ap is_whole (spelling_passed b (known_in_table b known)) ∙ behind_whole (length b)

pub strict_text : (text : List ℕ) (h : is_whole (after_all Start text) ≡ true) → strict text ≡ Some (spelling_of text h).octets
strict_text text h = let s = spelling_of text h in ap strict s.is ∙ strict_spelled s.octets s.bytes

is_strict_by : (o : Option (List ℕ)) (w : Bool) → ((b : List ℕ) → o ≡ Some b → w ≡ true) → (w ≡ true → is_some o ≡ true) → is_some o ≡ w
is_strict_by None true f g = g refl
is_strict_by None false f g = refl
is_strict_by (Some b) w f g = sym (f b refl)

pub is_strict_whole : (text : List ℕ) → is_strict text ≡ is_whole (after_all Start text)
is_strict_whole text = is_strict_by (strict text) (is_whole (after_all Start text)) (strict_whole text) (λ w. ap (λ (o : Option (List ℕ)). is_some o) (strict_text text w))
