-- Tags that hold a name of ASCII and nothing else.
use Rattle.std.proofs.Common.{◌≡◌, ℕ, ◌+◌, ◌-◌, ◌<◌, ◌≤◌, Bool, true, false, not, cond, ◌&&◌, ◌||◌, ◌==◌, nat_eq, nat_lt, List, [], ◌∷◌, ◌++◌, reverse, length, take, drop, get_or, codes, Option, Some, None, is_some, unwrap_or, option_map, option_and_then, refl, sym, ◌∙◌, ap, subst, arith, append_assoc}
use Rattle.std.proofs.lemmas.Bool.{and_parts, and_from, ne_eqb, eq-eqb, false≢true, lt-ltb, ltb-true}
use Rattle.std.proofs.lemmas.Bool.Decides.{nat_tests}
use Rattle.std.proofs.lemmas.List.{take-append-drop, drop_more, reverse-append, reverse-reverse}
use Rattle.std.proofs.lemmas.List.Folds.{list_all-append}
use Rattle.std.proofs.lemmas.Str.{chars-nil, chars-IsAscii, IsUtf8-from_ascii, is_utf8-from_IsUtf8}
use Rattle.std.proofs.Math.Seq.{take-add, drop-drop, take-append_seam, drop-append_seam}
use Rattle.std.specs.Str.{IsUtf8, IsAscii, chars}
use Rattle.std.specs.List.{list_all, starts_with}
use Rattle.document_model.specs.Characters.{in_ranges, characters, is_char, is_white, span, continues_name, starts_name, between}
use Rattle.document_model.specs.Names.{Name, name_of, is_plain_name, is_not_colon}
use Rattle.document_model.specs.Items.{Item, Attribute, piece_at, Kind, CommentKind, CdataKind, InstructionKind, EndTagKind, TagKind, kind_at, cut, item_of, is_quote, through, through_tag, behind_one, pair_at, tag_of, start_tag, empty_tag, end_tag, end_tag_of, or_else, without_space_behind, most_attributes}
use Rattle.xml_items.specs.Found.{name_in, no_name, attributes_in, read_attributes, IsNameText, AreAttributesText}
use Rattle.xml_items.specs.ShortNames.{starts_short, continues_short, is_short_part, in_short, is_quoted, IsShortName}
use Rattle.xml_items.specs.Spans.{StandsAt}
use Rattle.xml_items.specs.Texts.{HasEnd, is_ascii}
use Rattle.xml_items.proofs.AsciiTexts.{between_no_end, between_at, ascii_from, chars_behind, utf8_behind}
use Rattle.xml_items.proofs.OrdinaryCharacters.{no_start}
use Rattle.xml_items.proofs.PlainTexts.{ascii_of}
use Rattle.xml_items.proofs.Attributes.{pair_whole}
use Rattle.xml_items.proofs.Pieces.{piece_of}

-- Bytes of names.

starts_is : (c : ℕ) → starts_short c ≡ true → starts_name c ≡ true
starts_is c e = grind (arith, nat_tests)

continues_is : (c : ℕ) → continues_short c ≡ true → continues_name c ≡ true
continues_is c e = by_start (starts_short c) refl
  where
    or_left : (a b : Bool) → a ≡ true → (a || b) ≡ true
    or_left true b e = refl
    or_left false b e = absurd (false≢true e)

    or_right : (a b : Bool) → b ≡ true → (a || b) ≡ true
    or_right true b e = refl
    or_right false b e = e

    others : starts_short c ≡ false → in_ranges ((0x2D, 0x2E) ∷ (0x30, 0x39) ∷ []) c ≡ true
    others f = grind (arith, nat_tests)

    more : (a b r : Bool) → (a || (b || false)) ≡ true → (a || (b || r)) ≡ true
    more true b r e = refl
    more false true r e = refl
    more false false r e = absurd (false≢true e)

    by_start : (t : Bool) → starts_short c ≡ t → continues_name c ≡ true
    by_start true f = or_left (starts_name c) _ (starts_is c f)
    by_start false f = or_right (starts_name c) _ (more _ _ _ (others f))

starts_in : (c : ℕ) → starts_short c ≡ true → in_short c ≡ true
starts_in c e = grind (arith, nat_tests)

continues_in : (c : ℕ) → continues_short c ≡ true → in_short c ≡ true
continues_in c e = grind (arith, nat_tests)

continues_no_colon : (c : ℕ) → continues_short c ≡ true → is_not_colon c ≡ true
continues_no_colon c e = grind (arith, nat_tests)

starts_no_colon : (c : ℕ) → starts_short c ≡ true → is_not_colon c ≡ true
starts_no_colon c e = grind (arith, nat_tests)

pub in_name_too : (c : ℕ) → in_short c ≡ true → (continues_name c || (c == 0x3A)) ≡ true
in_name_too c e = by_colon (c == 0x3A) refl
  where
    continues : (c == 0x3A) ≡ false → continues_short c ≡ true
    continues f = grind (arith, nat_tests)

    or_true : (a : Bool) → (a || true) ≡ true
    or_true true = refl
    or_true false = refl

    by_colon : (t : Bool) → (c == 0x3A) ≡ t → (continues_name c || (c == 0x3A)) ≡ true
    by_colon true f = ap (λ b. continues_name c || b) f ∙ or_true (continues_name c)
    by_colon false f = ap (λ b. b || (c == 0x3A)) (continues_is c (continues f))

short_ascii : (c : ℕ) → in_short c ≡ true → c < 128
short_ascii c e = grind (arith, nat_tests)

short_char : (c : ℕ) → in_short c ≡ true → is_char c ≡ true
short_char c e = grind (arith, nat_tests)

short_no_white : (c : ℕ) → in_short c ≡ true → is_white c ≡ false
short_no_white c e = grind (arith, nat_tests)

apart : (c n : ℕ) → in_short c ≡ true → in_short n ≡ false → nat_eq c n ≡ false
apart c n e f = ne_eqb c n (λ same. let g : true ≡ false = sym e ∙ ap in_short same ∙ f in (cc))

-- Lists of bytes that pass.

pub all_more : (p q : ℕ → Bool) → ((c : ℕ) → p c ≡ true → q c ≡ true) → (xs : List ℕ) → list_all p xs ≡ true → list_all q xs ≡ true
all_more p q f [] h = refl
all_more p q f (x ∷ xs) h = let both = and_parts (p x) (list_all p xs) h in and_from _ _ (f x both.0) (all_more p q f xs both.1)

pub span_all : (p : ℕ → Bool) (xs : List ℕ) → list_all p xs ≡ true → span p xs ≡ (xs, [])
span_all p [] h = refl
span_all p (x ∷ xs) h = let both = and_parts (p x) (list_all p xs) h in rw (both.0, span_all p xs both.1) refl

pub span_stop : (p : ℕ → Bool) (xs : List ℕ) (y : ℕ) (ys : List ℕ) → list_all p xs ≡ true → p y ≡ false → span p (xs ++ y ∷ ys) ≡ (xs, y ∷ ys)
span_stop p [] y ys h e = rw e refl
span_stop p (x ∷ xs) y ys h e = let both = and_parts (p x) (list_all p xs) h in rw (both.0, span_stop p xs y ys both.1 e) refl

pub span_none : (p : ℕ → Bool) (xs : List ℕ) → list_all (λ c. not (p c)) xs ≡ true → (span p xs).1 ≡ xs
span_none p [] h = refl
span_none p (x ∷ xs) h = let both = and_parts (not (p x)) (list_all (λ c. not (p c)) xs) h in rw (is_false (p x) both.0) refl
  where
    is_false : (b : Bool) → not b ≡ true → b ≡ false
    is_false true e = sym e
    is_false false e = refl

pub all_last : (p : ℕ → Bool) (xs : List ℕ) (x : ℕ) → list_all p xs ≡ true → p x ≡ true → list_all p (xs ++ x ∷ []) ≡ true
all_last p xs x h e = list_all-append p xs (x ∷ []) ∙ and_from _ _ h (and_from _ _ e refl)

pub all_reverse : (p : ℕ → Bool) (xs : List ℕ) → list_all p xs ≡ true → list_all p (reverse xs) ≡ true
all_reverse p [] h = refl
all_reverse p (x ∷ xs) h =
    let both = and_parts (p x) (list_all p xs) h in
    ap (list_all p) (reverse-append (x ∷ []) xs) ∙ all_last p (reverse xs) x (all_reverse p xs both.1) both.0

-- Names.

part_plain : (part : List ℕ) → is_short_part part ≡ true → is_plain_name part ≡ true
part_plain [] h = h
part_plain (c ∷ cs) h = let both = and_parts (starts_short c) (list_all continues_short cs) h in and_from _ _ (starts_is c both.0) (all_more continues_short continues_name continues_is cs both.1)

part_in : (part : List ℕ) → is_short_part part ≡ true → list_all in_short part ≡ true
part_in [] h = refl
part_in (c ∷ cs) h = let both = and_parts (starts_short c) (list_all continues_short cs) h in and_from _ _ (starts_in c both.0) (all_more continues_short in_short continues_in cs both.1)

part_no_colon : (part : List ℕ) → is_short_part part ≡ true → list_all is_not_colon part ≡ true
part_no_colon [] h = refl
part_no_colon (c ∷ cs) h = let both = and_parts (starts_short c) (list_all continues_short cs) h in and_from _ _ (starts_no_colon c both.0) (all_more continues_short is_not_colon continues_no_colon cs both.1)

pub name_of_one : (part : List ℕ) → is_short_part part ≡ true → IsShortName part
name_of_one part h = record { bytes = part_in part h; named = rw (span_all is_not_colon part (part_no_colon part h), part_plain part h) refl }

pub name_of_two : (front behind : List ℕ) → is_short_part front ≡ true → is_short_part behind ≡ true → IsShortName (front ++ 0x3A ∷ behind)
name_of_two front behind h k = record {
  bytes = list_all-append in_short front (0x3A ∷ behind) ∙ and_from _ _ (part_in front h) (part_in behind k);
  named = rw (span_stop is_not_colon front 0x3A behind (part_no_colon front h) refl, part_plain front h, part_plain behind k) refl;
}

pub short_name_ascii : (name : List ℕ) → IsShortName name → IsAscii name
short_name_ascii name h = ascii_of in_short short_ascii name h.bytes

pub short_name_chars : (name : List ℕ) → IsShortName name → chars name ≡ name
short_name_chars name h = chars-IsAscii name (short_name_ascii name h)

-- Where a tag ends.

short_no_quote : (c : ℕ) → in_short c ≡ true → is_quote c ≡ false
short_no_quote c e = (λ i. apart c 0x22 e refl i || apart c 0x27 e refl i)

pub through_name : (name rest : List ℕ) → list_all in_short name ≡ true → through_tag None (name ++ rest) ≡ (name ++ (through_tag None rest).0, (through_tag None rest).1)
through_name [] rest h = refl
through_name (c ∷ name) rest h =
    let both = and_parts (in_short c) (list_all in_short name) h in
    rw (apart c 0x3E both.0 refl, short_no_quote c both.0, through_name name rest both.1) refl

close_name : (name behind : List ℕ) → list_all in_short name ≡ true → through (0x3E ∷ []) (name ++ 0x3E ∷ behind) ≡ (name ++ 0x3E ∷ [], behind)
close_name [] behind h = refl
close_name (c ∷ name) behind h =
    let both = and_parts (in_short c) (list_all in_short name) h in
    rw (no_start c (name ++ 0x3E ∷ behind) [] 0x3E (apart c 0x3E both.0 refl), close_name name behind both.1) refl

-- a name has a first byte
first_of : (name : List ℕ) → IsShortName name → (c : ℕ) × (cs : List ℕ) × (name ≡ c ∷ cs) × (in_short c ≡ true)
first_of [] h = absurd (false≢true h.named)
first_of (c ∷ cs) h = (c, cs, refl, (and_parts (in_short c) (list_all in_short cs) h.bytes).0)

abbrev by_tests : Bool → Bool → Bool → Bool → Kind → Kind
by_tests a b c d k = cond a CommentKind (cond b CdataKind (cond c InstructionKind (cond d EndTagKind k)))

pub tag_kind : (name rest : List ℕ) → IsShortName name → kind_at (0x3C ∷ (name ++ rest)) ≡ TagKind
tag_kind name rest h =
    let f = first_of name h in
    let no : (x : ℕ) (close : List ℕ) → in_short x ≡ false → starts_with nat_eq (f.0 ∷ (f.1 ++ rest)) (x ∷ close) ≡ false = λ x close e. no_start f.0 (f.1 ++ rest) close x (apart f.0 x f.3 e) in
    ap (λ n. kind_at (0x3C ∷ (n ++ rest))) f.2
    ∙ (λ i. by_tests (no 0x21 (codes "--") refl i) (no 0x21 (codes "[CDATA[") refl i) (no 0x3F [] refl i) (no 0x2F [] refl i) TagKind)

-- Its characters.

pub spelled : (text : List ℕ) → list_all (λ c. is_char c && nat_lt c 128) text ≡ true → characters text ≡ Some text
spelled text h =
    let ascii = ascii_of (λ c. is_char c && nat_lt c 128) (λ b e. ltb-true b 128 (and_parts (is_char b) _ e).1) text h in
    let same : chars text ≡ text = chars-IsAscii text ascii in
    ap (λ t. cond (t && list_all is_char (chars text)) (Some (chars text)) None) (is_utf8-from_IsUtf8 text (IsUtf8-from_ascii text ascii))
    ∙ ap (λ x. cond (list_all is_char x) (Some x) None) same
    ∙ ap (λ t. cond t (Some text) None) (all_more (λ c. is_char c && nat_lt c 128) is_char (λ c e. (and_parts (is_char c) _ e).0) text h)

pub short_spelled : (name : List ℕ) → IsShortName name → list_all (λ c. is_char c && nat_lt c 128) name ≡ true
short_spelled name h = all_more in_short (λ c. is_char c && nat_lt c 128) (λ c e. and_from _ _ (short_char c e) (lt-ltb c 128 (short_ascii c e))) name h.bytes

around : (before name close : List ℕ) → list_all (λ c. is_char c && nat_lt c 128) before ≡ true → list_all (λ c. is_char c && nat_lt c 128) close ≡ true → IsShortName name
    → characters (before ++ (name ++ close)) ≡ Some (before ++ (name ++ close))
around before name close a b h =
    spelled (before ++ (name ++ close)) (list_all-append _ before (name ++ close) ∙ and_from _ _ a (list_all-append _ name close ∙ and_from _ _ (short_spelled name h) b))

-- Its name.

pub no_space : (name : List ℕ) → list_all in_short name ≡ true → without_space_behind name ≡ name
no_space name h =
    ap reverse (span_none is_white (reverse name) (all_reverse (λ c. not (is_white c)) name (all_more in_short (λ c. not (is_white c)) (λ c e. ap not (short_no_white c e)) name h)))
    ∙ reverse-reverse name

abbrev pub in_name : ℕ → Bool
in_name = λ c. continues_name c || (c == 0x3A)

named_tag : (make : Name → List Attribute → Item) (name : List ℕ) → IsShortName name → tag_of make name ≡ Some (make (name_in name) [])
named_tag make name h =
    let cut : span in_name (without_space_behind name) ≡ (name, []) = ap (span in_name) (no_space name h.bytes) ∙ span_all in_name name (all_more in_short in_name in_name_too name h.bytes) in
    rw cut (go (name_of name) h.named)
  where
    go : (n : Option Name) → is_some n ≡ true → option_and_then (λ name. Some (make name [])) n ≡ Some (make (unwrap_or n no_name) [])
    go None e = absurd (false≢true e)
    go (Some n) e = refl

-- The three tags.

pub found_in : (kind : Kind) (text behind : List ℕ) (item : Item) → kind_at (text ++ behind) ≡ kind → cut kind (text ++ behind) ≡ (text, behind) → characters text ≡ Some text → item_of kind text ≡ Some item
    → piece_at (text ++ behind) ≡ Some (record { text = text; item = item }, behind)
found_in kind text behind item k e c f =
    let front = take-append_seam text behind in
    let rest = drop-append_seam text behind in
    piece_of (text ++ behind) text kind (length text) (Some item) (sym k) (e ∙ (λ i. (sym front i, sym rest i))) (ap characters front ∙ c) f
    ∙ (λ i. Some (record { text = front i; item = item }, rest i))

-- what ends in `>` alone doesn't end in `/>`
pub no_slash : (name : List ℕ) → list_all in_short name ≡ true → HasEnd (name ++ 0x3E ∷ []) (codes "/>") → ⊥
no_slash name h w =
    let P : ℕ → Bool = λ c. in_short c || (c == 0x3E) in
    let all : list_all P (name ++ 0x3E ∷ []) ≡ true = all_last P name 0x3E (all_more in_short P (λ c e. ap (λ b. b || (c == 0x3E)) e) name h) refl in
    let parts = and_parts (list_all P w.0) _ (sym (list_all-append P w.0 (codes "/>")) ∙ ap (list_all P) (sym w.1) ∙ all) in
    false≢true parts.1

pub start_piece : (name behind : List ℕ) → IsShortName name → piece_at ((0x3C ∷ (name ++ 0x3E ∷ [])) ++ behind) ≡ Some (record { text = 0x3C ∷ (name ++ 0x3E ∷ []); item = start_tag (name_in name) [] }, behind)
start_piece name behind h =
    let text : List ℕ = 0x3C ∷ (name ++ 0x3E ∷ []) in
    let shape : text ++ behind ≡ 0x3C ∷ (name ++ 0x3E ∷ behind) = ap (λ x. 0x3C ∷ x) (append_assoc name (0x3E ∷ []) behind) in
    let ascii : IsAscii text = ascii_of (λ c. is_char c && nat_lt c 128) (λ b e. ltb-true b 128 (and_parts (is_char b) _ e).1) text (and_from _ _ refl (list_all-append _ name (0x3E ∷ []) ∙ and_from _ _ (short_spelled name h) refl)) in
    let no : between (codes "<") (codes "/>") text ≡ None = ap (between (codes "<") (codes "/>")) (sym (chars-IsAscii text ascii))
    ∙ between_no_end (codes "<") (codes "/>") (name ++ 0x3E ∷ []) text refl refl (IsUtf8-from_ascii text ascii) refl (no_slash name h.bytes) in
    let yes : between (codes "<") (codes ">") text ≡ Some name = between_at (codes "<") (codes ">") name in
    found_in TagKind text behind (start_tag (name_in name) [])
    (ap kind_at shape ∙ tag_kind name (0x3E ∷ behind) h)
    (ap (through_tag None) shape ∙ (λ i. (0x3C ∷ (through_name name (0x3E ∷ behind) h.bytes i).0, (through_name name (0x3E ∷ behind) h.bytes i).1)))
    (around (codes "<") name (codes ">") refl refl h)
    ((λ i. or_else (option_and_then (tag_of empty_tag) (no i)) (option_and_then (tag_of start_tag) (yes i))) ∙ named_tag start_tag name h)

pub empty_piece : (name behind : List ℕ) → IsShortName name
    → piece_at ((0x3C ∷ (name ++ 0x2F ∷ 0x3E ∷ [])) ++ behind) ≡ Some (record { text = 0x3C ∷ (name ++ 0x2F ∷ 0x3E ∷ []); item = empty_tag (name_in name) [] }, behind)
empty_piece name behind h =
    let text : List ℕ = 0x3C ∷ (name ++ 0x2F ∷ 0x3E ∷ []) in
    let shape : text ++ behind ≡ 0x3C ∷ (name ++ 0x2F ∷ 0x3E ∷ behind) = ap (λ x. 0x3C ∷ x) (append_assoc name (0x2F ∷ 0x3E ∷ []) behind) in
    let yes : between (codes "<") (codes "/>") text ≡ Some name = between_at (codes "<") (codes "/>") name in
    found_in TagKind text behind (empty_tag (name_in name) [])
    (ap kind_at shape ∙ tag_kind name (0x2F ∷ 0x3E ∷ behind) h)
    (ap (through_tag None) shape ∙ (λ i. (0x3C ∷ (through_name name (0x2F ∷ 0x3E ∷ behind) h.bytes i).0, (through_name name (0x2F ∷ 0x3E ∷ behind) h.bytes i).1)))
    (around (codes "<") name (codes "/>") refl refl h)
    ((λ i. or_else (option_and_then (tag_of empty_tag) (yes i)) (option_and_then (tag_of start_tag) (between (codes "<") (codes ">") text)))
    ∙ ap (λ o. or_else o (option_and_then (tag_of start_tag) (between (codes "<") (codes ">") text))) (named_tag empty_tag name h))

pub end_piece : (name behind : List ℕ) → IsShortName name
    → piece_at ((0x3C ∷ 0x2F ∷ (name ++ 0x3E ∷ [])) ++ behind) ≡ Some (record { text = 0x3C ∷ 0x2F ∷ (name ++ 0x3E ∷ []); item = end_tag (name_in name) }, behind)
end_piece name behind h =
    let text : List ℕ = 0x3C ∷ 0x2F ∷ (name ++ 0x3E ∷ []) in
    let shape : text ++ behind ≡ 0x3C ∷ 0x2F ∷ (name ++ 0x3E ∷ behind) = ap (λ x. 0x3C ∷ 0x2F ∷ x) (append_assoc name (0x3E ∷ []) behind) in
    let yes : between (codes "</") (codes ">") text ≡ Some name = between_at (codes "</") (codes ">") name in
    let close : through (0x3E ∷ []) (0x3C ∷ 0x2F ∷ (name ++ 0x3E ∷ behind)) ≡ (text, behind)
    = (λ i. (0x3C ∷ 0x2F ∷ (close_name name behind h.bytes i).0, (close_name name behind h.bytes i).1)) in
    found_in EndTagKind text behind (end_tag (name_in name))
    (ap kind_at shape)
    (ap (through (0x3E ∷ [])) shape ∙ close)
    (around (codes "</") name (codes ">") refl refl h)
    (ap (option_and_then end_tag_of) yes ∙ ap (λ n. option_map end_tag (name_of n)) (no_space name h.bytes) ∙ go (name_of name) h.named)
  where
    go : (o : Option Name) → is_some o ≡ true → option_map end_tag o ≡ Some (end_tag (unwrap_or o no_name))
    go None e = absurd (false≢true e)
    go (Some n) e = refl

-- Parts of bytes.

abbrev pub part_of : List ℕ → ℕ → ℕ → List ℕ
part_of d a b = take (b - a) (drop a d)

pub join : (d : List ℕ) (a b c : ℕ) → a ≤ b → b ≤ c → part_of d a c ≡ part_of d a b ++ part_of d b c
join d a b c h k =
    let n : c - a ≡ (b - a) + (c - b) = omega (arith, h, k) in
    let m : a + (b - a) ≡ b = omega (arith, h) in
    ap (λ x. take x (drop a d)) n ∙ take-add (b - a) (c - b) (drop a d)
    ∙ ap (λ x. take (b - a) (drop a d) ++ take (c - b) x) (drop-drop (b - a) a d ∙ ap (λ x. drop x d) m)

pub one_byte : (d : List ℕ) (a b x : ℕ) → a < length d → b ≡ a + 1 → get_or d a 0 ≡ x → part_of d a b ≡ x ∷ []
one_byte d a b x h m e =
    let n : b - a ≡ 1 = omega (arith, m) in
    ap (λ k. take k (drop a d)) n ∙ ap (take 1) (drop_more d a 0 h) ∙ ap (λ y. y ∷ []) e

pub part_first : (d : List ℕ) (a : ℕ) → a < length d → starts_short (get_or d a 0) ≡ true → is_short_part (part_of d a (a + 1)) ≡ true
part_first d a h e = ap is_short_part (one_byte d a (a + 1) (get_or d a 0) h refl refl) ∙ and_from _ _ e refl

pub part_more : (d : List ℕ) (a b : ℕ) → a < b → b < length d → is_short_part (part_of d a b) ≡ true → continues_short (get_or d b 0) ≡ true → is_short_part (part_of d a (b + 1)) ≡ true
part_more d a b h k e f = ap is_short_part (join d a b (b + 1) (omega (arith, h)) (omega arith) ∙ ap (λ x. part_of d a b ++ x) (one_byte d b (b + 1) (get_or d b 0) k refl refl)) ∙ last (part_of d a b) e
  where
    last : (xs : List ℕ) → is_short_part xs ≡ true → is_short_part (xs ++ get_or d b 0 ∷ []) ≡ true
    last [] g = absurd (false≢true g)
    last (x ∷ xs) g = let both = and_parts (starts_short x) (list_all continues_short xs) g in and_from _ _ both.0 (all_last continues_short xs (get_or d b 0) both.1 f)

pub two_parts : (d : List ℕ) (a b c : ℕ) → a ≤ b → b < length d → b + 1 ≤ c → get_or d b 0 ≡ 0x3A → part_of d a c ≡ part_of d a b ++ 0x3A ∷ part_of d (b + 1) c
two_parts d a b c h k l e =
    join d a b c h (omega (arith, l)) ∙ ap (λ x. part_of d a b ++ x) (join d b (b + 1) c (omega arith) l ∙ ap (λ x. x ++ part_of d (b + 1) c) (one_byte d b (b + 1) 0x3A k refl e))

-- an item at a place, by its text
pub found_at : (d : List ℕ) (at end : ℕ) (text : List ℕ) (item : Item) → at ≤ end → part_of d at end ≡ text → ((behind : List ℕ) → piece_at (text ++ behind) ≡ Some (record { text = text; item = item }, behind))
    → piece_at (drop at d) ≡ Some (record { text = part_of d at end; item = item }, drop end d)
found_at d at end text item h e f =
    let m : at + (end - at) ≡ end = omega (arith, h) in
    let behind : drop (end - at) (drop at d) ≡ drop end d = drop-drop (end - at) at d ∙ ap (λ x. drop x d) m in
    let whole : drop at d ≡ text ++ drop end d = sym (take-append-drop (end - at) (drop at d)) ∙ (λ i. e i ++ behind i) in
    ap piece_at whole ∙ f (drop end d) ∙ ap (λ x. Some (record { text = x; item = item }, drop end d)) (sym e)

-- the text of a start tag or an empty tag, and that of an end tag
pub open_text : (d : List ℕ) (at end last : ℕ) (close : List ℕ) → at + 1 ≤ end → end ≤ last → at < length d → get_or d at 0 ≡ 0x3C → part_of d end last ≡ close
    → part_of d at last ≡ 0x3C ∷ (part_of d (at + 1) end ++ close)
open_text d at end last close h k w e f =
    join d at (at + 1) last (omega arith) (omega (arith, h, k))
    ∙ (λ i. one_byte d at (at + 1) 0x3C w refl e i ++ (join d (at + 1) end last h k ∙ ap (λ x. part_of d (at + 1) end ++ x) f) i)

pub end_text : (d : List ℕ) (at end last : ℕ) (close : List ℕ) → at + 2 ≤ end → end ≤ last → at + 1 < length d → get_or d at 0 ≡ 0x3C → get_or d (at + 1) 0 ≡ 0x2F → part_of d end last ≡ close
    → part_of d at last ≡ 0x3C ∷ 0x2F ∷ (part_of d (at + 2) end ++ close)
end_text d at end last close h k w e f g =
    join d at (at + 1) last (omega arith) (omega (arith, h, k))
    ∙ (λ i. one_byte d at (at + 1) 0x3C (omega (arith, w)) refl e i ++ (join d (at + 1) (at + 2) last (omega arith) (omega (arith, h, k))
    ∙ (λ j. one_byte d (at + 1) (at + 2) 0x2F w (omega arith) f j ++ (join d (at + 2) end last h k ∙ ap (λ x. part_of d (at + 2) end ++ x) g) j)) i)

pub slash_and_end : (d : List ℕ) (a : ℕ) → a + 1 < length d → get_or d a 0 ≡ 0x2F → get_or d (a + 1) 0 ≡ 0x3E → part_of d a (a + 2) ≡ 0x2F ∷ 0x3E ∷ []
slash_and_end d a h e f =
    join d a (a + 1) (a + 2) (omega arith) (omega arith) ∙ (λ i. one_byte d a (a + 1) 0x2F (omega (arith, h)) refl e i ++ one_byte d (a + 1) (a + 2) 0x3E h (omega arith) f i)

-- what the scanner tells of them

pub is_read_name : (name : List ℕ) → IsShortName name → IsNameText name
is_read_name name h = ap (λ x. is_some (name_of x)) (short_name_chars name h) ∙ h.named

pub no_attributes : AreAttributesText []
no_attributes = ap (λ x. is_some (read_attributes most_attributes x)) chars-nil

pub none_there : attributes_in (chars []) ≡ []
none_there = ap attributes_in chars-nil

pub same_name_in : (name : List ℕ) → IsShortName name → name_in (chars name) ≡ name_in name
same_name_in name h = ap name_in (short_name_chars name h)

pub short_name_utf8 : (name : List ℕ) → IsShortName name → IsUtf8 name
short_name_utf8 name h = IsUtf8-from_ascii name (short_name_ascii name h)

pub stands : (whole before text behind : List ℕ) (at : ℕ) → whole ≡ before ++ (text ++ behind) → length before ≡ at → StandsAt whole at text
stands whole before text behind at e f = record { before = before; behind = behind; joined = e; place = f }

-- Runs.

pub run_none : (p : ℕ → Bool) (d : List ℕ) (a : ℕ) → list_all p (part_of d a a) ≡ true
run_none p d a = let n : a - a ≡ 0 = omega arith in ap (λ k. list_all p (take k (drop a d))) n

pub run_more : (p : ℕ → Bool) (d : List ℕ) (a b : ℕ) → a ≤ b → b < length d → list_all p (part_of d a b) ≡ true → p (get_or d b 0) ≡ true → list_all p (part_of d a (b + 1)) ≡ true
run_more p d a b h k e f =
    ap (list_all p) (join d a b (b + 1) h (omega arith) ∙ ap (λ x. part_of d a b ++ x) (one_byte d b (b + 1) (get_or d b 0) k refl refl)) ∙ all_last p (part_of d a b) (get_or d b 0) e f

-- A pair behind a space.

spaced : (name rest : List ℕ) → list_all in_short name ≡ true → span is_white (0x20 ∷ (name ++ 0x3D ∷ rest)) ≡ (0x20 ∷ [], name ++ 0x3D ∷ rest)
spaced [] rest h = refl
spaced (c ∷ name) rest h = rw (short_no_white c (and_parts (in_short c) (list_all in_short name) h).0) refl

pub quote_no_white : (q : ℕ) → is_quote q ≡ true → is_white q ≡ false
quote_no_white q e = grind (arith, nat_tests)

pub itself_eq : (q : ℕ) → (q == q) ≡ true
itself_eq q = eq-eqb q q refl

pub pair_there : (name inside rest : List ℕ) (q : ℕ) → list_all in_short name ≡ true → is_quote q ≡ true → list_all (λ c. not (c == q)) inside ≡ true
    → pair_at (0x20 ∷ (name ++ 0x3D ∷ q ∷ (inside ++ q ∷ rest))) ≡ Some (record { name = name; text = inside }, rest)
pair_there name inside rest q h k e =
    let t6 : List ℕ = inside ++ q ∷ rest in
    let t2 : List ℕ = 0x3D ∷ q ∷ t6 in
    let no : not (q == q) ≡ false = ap not (itself_eq q) in
    let closed : behind_one (λ c. c == q) (q ∷ rest) ≡ Some (q, rest) = rw (itself_eq q) refl in
    let opened : behind_one is_quote (q ∷ t6) ≡ Some (q, t6) = rw k refl in
    let unspaced : span is_white (q ∷ t6) ≡ ([], q ∷ t6) = rw (quote_no_white q k) refl in
    pair_whole (0x20 ∷ (name ++ t2)) (0x20 ∷ []) (name ++ t2) name t2 [] t2 (q ∷ t6) [] (q ∷ t6) t6 inside (q ∷ rest) rest 0x3D q q
    (spaced name (q ∷ t6) h) (span_stop in_name name 0x3D (q ∷ t6) (all_more in_short in_name in_name_too name h) refl) refl refl unspaced opened
    (span_stop (λ c. not (c == q)) inside q rest e no) closed

quoted_ascii : (q c : ℕ) → is_quoted q c ≡ true → nat_lt c 128 ≡ true
quoted_ascii q c e = (and_parts (nat_lt c 128) _ e).0

quoted_other : (q c : ℕ) → is_quoted q c ≡ true → not (c == q) ≡ true
quoted_other q c e = (and_parts (nat_lt c 128) _ e).1

pub quote_ascii : (q : ℕ) → is_quote q ≡ true → nat_lt q 128 ≡ true
quote_ascii q e = grind (arith, nat_tests)

pub quoted_more : (q c : ℕ) → c < 128 → (c ≡ q → ⊥) → is_quoted q c ≡ true
quoted_more q c h n = and_from _ _ (lt-ltb c 128 h) (ap not (ne_eqb c q n))

-- the pair at the front of a text, by its places
pub record PairText (d : List ℕ) (equals end : ℕ) : Type 0 where
  pub utf8 : IsUtf8 (drop (end + 1) d)
  pub pair : pair_at (chars d) ≡ Some (record { name = part_of d 1 equals; text = part_of d (equals + 2) end }, chars (drop (end + 1) d))
  pub name : is_ascii (part_of d 1 equals) ≡ true
  pub text : is_ascii (part_of d (equals + 2) end) ≡ true

pub pair_text : (d : List ℕ) (equals end q : ℕ) → IsUtf8 d → 1 ≤ equals → equals + 2 ≤ end → end < length d → get_or d 0 0 ≡ 0x20 → list_all in_short (part_of d 1 equals) ≡ true → get_or d equals 0 ≡ 0x3D
    → get_or d (equals + 1) 0 ≡ q → is_quote q ≡ true → list_all (is_quoted q) (part_of d (equals + 2) end) ≡ true → get_or d end 0 ≡ q → PairText d equals end
pair_text d equals end q u h k l e n f g o i j =
    let name : List ℕ = part_of d 1 equals in
    let inside : List ℕ = part_of d (equals + 2) end in
    let rest : List ℕ = drop (end + 1) d in
    let front : List ℕ = 0x20 ∷ (name ++ 0x3D ∷ q ∷ (inside ++ q ∷ [])) in
    let name_ascii : is_ascii name ≡ true = all_more in_short (λ c. nat_lt c 128) (λ c e. lt-ltb c 128 (short_ascii c e)) name n in
    let inside_ascii : is_ascii inside ≡ true = all_more (is_quoted q) (λ c. nat_lt c 128) (quoted_ascii q) inside i in
    let last : is_ascii (inside ++ q ∷ []) ≡ true = all_last (λ c. nat_lt c 128) inside q inside_ascii (quote_ascii q o) in
    let ascii : is_ascii front ≡ true = list_all-append (λ c. nat_lt c 128) name (0x3D ∷ q ∷ (inside ++ q ∷ [])) ∙ and_from _ _ name_ascii (and_from _ _ (quote_ascii q o) last) in
    let fifth : part_of d (equals + 2) (end + 1) ≡ inside ++ q ∷ [] = join d (equals + 2) end (end + 1) k (omega arith) ∙ ap (λ x. inside ++ x) (one_byte d end (end + 1) q l refl j) in
    let fourth : part_of d (equals + 1) (end + 1) ≡ q ∷ (inside ++ q ∷ [])
    = join d (equals + 1) (equals + 2) (end + 1) (omega arith) (omega (arith, k)) ∙ (λ t. one_byte d (equals + 1) (equals + 2) q (omega (arith, k, l)) (omega arith) g t ++ fifth t) in
    let third : part_of d equals (end + 1) ≡ 0x3D ∷ q ∷ (inside ++ q ∷ [])
    = join d equals (equals + 1) (end + 1) (omega arith) (omega (arith, k)) ∙ (λ t. one_byte d equals (equals + 1) 0x3D (omega (arith, k, l)) refl f t ++ fourth t) in
    let second : part_of d 1 (end + 1) ≡ name ++ 0x3D ∷ q ∷ (inside ++ q ∷ []) = join d 1 equals (end + 1) h (omega (arith, k)) ∙ ap (λ x. name ++ x) third in
    let first : part_of d 0 (end + 1) ≡ front = join d 0 1 (end + 1) (omega arith) (omega arith) ∙ (λ t. one_byte d 0 1 0x20 (omega (arith, l)) refl e t ++ second t) in
    let m : end + 1 - 0 ≡ end + 1 = omega arith in
    let whole : d ≡ front ++ rest = sym (take-append-drop (end + 1) d) ∙ ap (λ x. x ++ rest) (ap (λ z. take z d) (sym m) ∙ first) in
    let shape : (ys : List ℕ) → front ++ ys ≡ 0x20 ∷ (name ++ 0x3D ∷ q ∷ (inside ++ q ∷ ys)) = λ ys.
    ap (λ x. 0x20 ∷ x) (append_assoc name (0x3D ∷ q ∷ (inside ++ q ∷ [])) ys ∙ ap (λ x. name ++ 0x3D ∷ q ∷ x) (append_assoc inside (q ∷ []) ys)) in
    record {
      utf8 = utf8_behind front rest (subst IsUtf8 whole u) (IsUtf8-from_ascii front (ascii_from front ascii));
      pair = ap (λ x. pair_at (chars x)) whole ∙ ap pair_at (chars_behind front rest ascii ∙ shape (chars rest))
          ∙ pair_there name inside (chars rest) q n o (all_more (is_quoted q) (λ c. not (c == q)) (quoted_other q) inside i);
      name = name_ascii;
      text = inside_ascii;
    }

pub ascii_chars : (text part : List ℕ) → text ≡ part → is_ascii part ≡ true → chars text ≡ part
ascii_chars text part e a = ap chars e ∙ chars-IsAscii part (ascii_from part a)

pub is_double : (q : ℕ) → q ≡ 0x22 → is_quote q ≡ true
is_double q e = ap is_quote e

pub is_single : (q : ℕ) → q ≡ 0x27 → is_quote q ≡ true
is_single q e = ap is_quote e
