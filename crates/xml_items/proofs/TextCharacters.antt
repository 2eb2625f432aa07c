-- A character that stands for itself is an item, past ASCII too.
use Rattle.std.proofs.Common.{◌≡◌, ℕ, suc, ◌+◌, ◌/◌, ◌<◌, ◌≤◌, Bool, true, false, not, cond, ◌&&◌, ◌||◌, nat_eq, nat_lt, List, [], ◌∷◌, ◌++◌, length, take, drop, Some, None, refl, sym, ◌∙◌, ap, subst, arith, codes}
use Rattle.std.proofs.lemmas.Bool.{and_parts, and_from, ne_eqb}
use Rattle.std.proofs.lemmas.Bool.Decides.{nat_tests}
use Rattle.std.proofs.lemmas.List.{append-nil}
use Rattle.std.proofs.lemmas.Str.{chars-nil, chars_past_char, encode_ascii, IsUtf8-encode, is_utf8-from_IsUtf8, IsUtf8-from_ascii, chars-IsAscii}
use Rattle.std.proofs.Math.Seq.{take-append_seam, drop-append_seam}
use Rattle.std.specs.Char.{encode_utf8, IsScalar}
use Rattle.std.specs.Str.{IsUtf8, chars, continuation_len}
use Rattle.std.specs.List.{list_all, starts_with}
use lib.Utf8.{encode, next}
use Rattle.document_model.specs.Characters.{characters, is_char, span}
use Rattle.document_model.specs.Items.{character, piece_at, Kind, CommentKind, CdataKind, InstructionKind, EndTagKind, TagKind, ReferenceKind, CharacterKind, kind_at, character_len, item_of, when}
use Rattle.xml_items.specs.Runs.{is_ordinary, is_text}
use Rattle.xml_items.proofs.Pieces.{piece_of}
use Rattle.xml_items.proofs.OrdinaryCharacters.{no_start, ordinary_is, ordinary_piece}
use Rattle.xml_items.proofs.PlainTexts.{ascii_of}

apart : (c n : ℕ) → is_text c ≡ true → is_text n ≡ false → nat_eq c n ≡ false
apart c n e f = ne_eqb c n (λ same. let g : true ≡ false = sym e ∙ ap is_text same ∙ f in (cc))

pub text_no_greater : (c : ℕ) → is_text c ≡ true → nat_eq c 0x3E ≡ false
text_no_greater c e = apart c 0x3E e refl

pub text_no_bracket : (c : ℕ) → is_text c ≡ true → nat_eq 0x5D c ≡ false
text_no_bracket c e = ne_eqb 0x5D c (λ same. let g : true ≡ false = sym e ∙ ap is_text (sym same) in (cc))

text_char : (c : ℕ) → is_text c ≡ true → is_char c ≡ true
text_char c e = grind (arith, nat_tests)

pub text_scalar : (c : ℕ) → is_text c ≡ true → IsScalar c
text_scalar c e = grind (arith, nat_tests)

pub text_ordinary : (c : ℕ) → c < 128 → is_text c ≡ true → is_ordinary c ≡ true
text_ordinary c h e = grind (arith, nat_tests)

pub ordinary_text : (c : ℕ) → is_ordinary c ≡ true → is_text c ≡ true
ordinary_text c e = grind (arith, nat_tests)

text_small : (c : ℕ) → is_text c ≡ true → c < 0x110000
text_small c e = grind (arith, nat_tests)

-- the bytes of a character past ASCII
record Lead (c : ℕ) : Type 0 where
  byte : ℕ
  tail : List ℕ
  spells : encode_utf8 c ≡ byte ∷ tail
  high : 192 ≤ byte
  long : continuation_len byte ≡ length tail
  more : 0 < length tail

two : (c : ℕ) → nat_lt c 128 ≡ false → nat_lt c 2048 ≡ true → encode c ≡ (192 + c / 64) ∷ next c ∷ []
unfolding encode
two c e f = rw (e, f) refl

three : (c : ℕ) → nat_lt c 128 ≡ false → nat_lt c 2048 ≡ false → nat_lt c 65536 ≡ true → encode c ≡ (224 + c / 4096) ∷ next (c / 64) ∷ next c ∷ []
unfolding encode
three c e f g = rw (e, f, g) refl

four : (c : ℕ) → nat_lt c 128 ≡ false → nat_lt c 2048 ≡ false → nat_lt c 65536 ≡ false → encode c ≡ (240 + c / 262144) ∷ next (c / 4096) ∷ next (c / 64) ∷ next c ∷ []
unfolding encode
four c e f g = rw (e, f, g) refl

one_follows : (b : ℕ) → 192 ≤ b → b < 224 → continuation_len b ≡ 1
one_follows b l h = grind (arith, nat_tests)

two_follow : (b : ℕ) → 224 ≤ b → b < 240 → continuation_len b ≡ 2
two_follow b l h = grind (arith, nat_tests)

three_follow : (b : ℕ) → 240 ≤ b → continuation_len b ≡ 3
three_follow b l = grind (arith, nat_tests)

below : (a b : ℕ) → nat_lt a b ≡ true → a < b
below a b e = grind (arith, nat_tests)

not_below : (a b : ℕ) → b ≤ a → nat_lt a b ≡ false
not_below a b e = grind (arith, nat_tests)

lead : (c : ℕ) → 128 ≤ c → Lead c
lead c wide = by_size (nat_lt c 2048) refl (nat_lt c 65536) refl
  where
    no_ascii : nat_lt c 128 ≡ false
    no_ascii = not_below c 128 wide

    by_size : (s : Bool) → nat_lt c 2048 ≡ s → (t : Bool) → nat_lt c 65536 ≡ t → Lead c
    by_size true e t f = record {
      byte = 192 + c / 64;
      tail = next c ∷ [];
      spells = two c no_ascii e;
      high = omega arith;
      long = one_follows (192 + c / 64) (omega arith) (let h = below c 2048 e in omega (arith, h));
      more = omega arith;
    }
    by_size false e true f = record {
      byte = 224 + c / 4096;
      tail = next (c / 64) ∷ next c ∷ [];
      spells = three c no_ascii e f;
      high = omega arith;
      long = two_follow (224 + c / 4096) (omega arith) (let h = below c 65536 f in omega (arith, h));
      more = omega arith;
    }
    by_size false e false f = record {
      byte = 240 + c / 262144;
      tail = next (c / 4096) ∷ next (c / 64) ∷ next c ∷ [];
      spells = four c no_ascii e f;
      high = omega arith;
      long = three_follow (240 + c / 262144) (omega arith);
      more = omega arith;
    }

other : (b n : ℕ) → 192 ≤ b → n < 192 → nat_eq b n ≡ false
other b n l h = ne_eqb b n (λ e. omega (arith, e, l, h))

abbrev by_tests : Bool → Bool → Bool → Bool → Bool → Bool → Kind
by_tests a b c d e f = cond a CommentKind (cond b CdataKind (cond c InstructionKind (cond d EndTagKind (cond e TagKind (cond f ReferenceKind CharacterKind)))))

kind : (b : ℕ) (behind : List ℕ) → 192 ≤ b → kind_at (b ∷ behind) ≡ CharacterKind
kind b behind h =
    let tag : (close : List ℕ) → starts_with nat_eq (b ∷ behind) (0x3C ∷ close) ≡ false = λ close. no_start b behind close 0x3C (other b 0x3C h (omega arith)) in
    let reference = no_start b behind [] 0x26 (other b 0x26 h (omega arith)) in
    (λ i. by_tests (tag (codes "!--") i) (tag (codes "![CDATA[") i) (tag (codes "?") i) (tag (codes "/") i) (tag [] i) (reference i))

len : (b : ℕ) (tail behind : List ℕ) → 192 ≤ b → continuation_len b ≡ length tail → 0 < length tail → character_len (b ∷ (tail ++ behind)) ≡ suc (length tail)
len b [] behind h e m = absurd (omega (arith, m))
len b (x ∷ tail) behind h e m = ap (λ t. cond (t && nat_eq x 0xA) 2 (suc (continuation_len b))) (other b 0xD h (omega arith)) ∙ ap suc e

alone : (c : ℕ) → is_text c ≡ true → characters (encode_utf8 c) ≡ Some (c ∷ [])
alone c e =
    let u = IsUtf8-encode c (text_scalar c e) in
    let same : chars (encode_utf8 c) ≡ c ∷ [] = chars_past_char (encode_utf8 c) [] c u (sym (append-nil (encode_utf8 c))) ∙ ap (λ cs. c ∷ cs) chars-nil in
    ap (λ t. cond (t && list_all is_char (chars (encode_utf8 c))) (Some (chars (encode_utf8 c))) None) (is_utf8-from_IsUtf8 (encode_utf8 c) u)
    ∙ ap (λ x. cond (list_all is_char x) (Some x) None) same
    ∙ ap (λ t. cond (t && true) (Some (c ∷ [])) None) (text_char c e)

literal : (c : ℕ) → is_text c ≡ true → item_of CharacterKind (c ∷ []) ≡ Some (character c)
literal c e =
    let tag = apart c 0x3C e refl in
    let reference = apart c 0x26 e refl in
    let return = apart c 0xD e refl in
    (λ i. when (not (tag i || reference i)) (character (cond (return i) 0xA c)))

wide_piece : (c : ℕ) (behind : List ℕ) → 128 ≤ c → is_text c ≡ true → piece_at (encode_utf8 c ++ behind) ≡ Some (record { text = encode_utf8 c; item = character c }, behind)
wide_piece c behind wide e =
    let l = lead c wide in
    let whole : encode_utf8 c ++ behind ≡ l.byte ∷ (l.tail ++ behind) = ap (λ x. x ++ behind) l.spells in
    let size : length (encode_utf8 c) ≡ suc (length l.tail) = ap length l.spells in
    let long : character_len (encode_utf8 c ++ behind) ≡ length (encode_utf8 c) = ap character_len whole ∙ len l.byte l.tail behind l.high l.long l.more ∙ sym size in
    let there : kind_at (encode_utf8 c ++ behind) ≡ CharacterKind = ap kind_at whole ∙ kind l.byte (l.tail ++ behind) l.high in
    let front = take-append_seam (encode_utf8 c) behind in
    let rest = drop-append_seam (encode_utf8 c) behind in
    piece_of (encode_utf8 c ++ behind) (c ∷ []) CharacterKind (length (encode_utf8 c)) (Some (character c)) (sym there)
    (ap (λ n. (take n (encode_utf8 c ++ behind), drop n (encode_utf8 c ++ behind))) long)
    (ap characters front ∙ alone c e) (literal c e)
    ∙ (λ i. Some (record { text = front i; item = character c }, rest i))

pub text_piece : (c : ℕ) (behind : List ℕ) → is_text c ≡ true → piece_at (encode_utf8 c ++ behind) ≡ Some (record { text = encode_utf8 c; item = character c }, behind)
text_piece c behind e = by_size (nat_lt c 128) refl
  where
    by_size : (t : Bool) → nat_lt c 128 ≡ t → piece_at (encode_utf8 c ++ behind) ≡ Some (record { text = encode_utf8 c; item = character c }, behind)
    by_size true f =
        let low = below c 128 f in
        let one : encode_utf8 c ≡ c ∷ [] = encode_ascii c low in
        ap (λ x. piece_at (x ++ behind)) one ∙ ordinary_piece c behind (text_ordinary c low e) ∙ ap (λ x. Some (record { text = x; item = character c }, behind)) (sym one)
    by_size false f = wide_piece c behind (not_low f) e
      where
        not_low : nat_lt c 128 ≡ false → 128 ≤ c
        not_low g = grind (arith, nat_tests)

-- A run of bytes that stand for themselves is such a text.

span_front : (p : ℕ → Bool) (d : List ℕ) → (take (length (span p d).0) d ≡ (span p d).0) × (list_all p (span p d).0 ≡ true)
span_front p [] = (refl, refl)
span_front p (c ∷ d) = by_test (p c) refl (span_front p d)
  where
    by_test : (t : Bool) → p c ≡ t → (take (length (span p d).0) d ≡ (span p d).0) × (list_all p (span p d).0 ≡ true)
        → (take (length (span p (c ∷ d)).0) (c ∷ d) ≡ (span p (c ∷ d)).0) × (list_all p (span p (c ∷ d)).0 ≡ true)
    by_test true e behind = rw (e, e) (ap (λ x. c ∷ x) behind.0, behind.1)
    by_test false e behind = rw e (refl, refl)

all_text : (bs : List ℕ) → list_all is_ordinary bs ≡ true → list_all is_text bs ≡ true
all_text [] h = refl
all_text (b ∷ bs) h = let both = and_parts (is_ordinary b) (list_all is_ordinary bs) h in and_from _ _ (ordinary_text b both.0) (all_text bs both.1)

pub ordinary_front : (d : List ℕ) (n : ℕ) → n ≡ length (span is_ordinary d).0 → IsUtf8 (take n d) × (list_all is_text (chars (take n d)) ≡ true)
ordinary_front d n e =
    let s = span_front is_ordinary d in
    let same : take n d ≡ (span is_ordinary d).0 = ap (λ k. take k d) e ∙ s.0 in
    let ascii = ascii_of is_ordinary (λ b o. (ordinary_is b o).ascii) (span is_ordinary d).0 s.1 in (
      subst IsUtf8 (sym same) (IsUtf8-from_ascii (span is_ordinary d).0 ascii),
      ap (λ x. list_all is_text (chars x)) same ∙ ap (list_all is_text) (chars-IsAscii (span is_ordinary d).0 ascii) ∙ all_text (span is_ordinary d).0 s.1,
    )

pub no_text : list_all is_text (chars []) ≡ true
no_text = ap (list_all is_text) chars-nil
