-- A character that stands for itself is an item.
use Rattle.std.proofs.Common.{◌≡◌, ℕ, zero, suc, ◌<◌, ◌≤◌, Bool, true, false, not, cond, ◌&&◌, ◌||◌, nat_eq, nat_le, nat_lt, List, [], ◌∷◌, take, drop, Some, None, refl, sym, ◌∙◌, ap, arith, codes, ◌⊎◌, inl, inr}
use Rattle.std.proofs.lemmas.Bool.{and_parts}
use Rattle.std.proofs.lemmas.Bool.Decides.{eqb_tells}
use Rattle.std.proofs.lemmas.Bool.{eq-eqb, ne_eqb, le-leb, leb-true, lt-ltb}
use Rattle.std.proofs.lemmas.Str.{chars-IsAscii, IsUtf8-from_ascii, is_utf8-from_IsUtf8}
use Rattle.std.specs.Str.{IsAscii, chars, continuation_len}
use Rattle.std.specs.List.{list_all, starts_with}
use Rattle.document_model.specs.Characters.{characters, is_char, in_ranges}
use Rattle.document_model.specs.Items.{character, piece_at, Kind, CommentKind, CdataKind, InstructionKind, EndTagKind, TagKind, ReferenceKind, CharacterKind, kind_at, cut, item_of, when}
use Rattle.xml_items.specs.Runs.{is_ordinary}
use Rattle.xml_items.proofs.Pieces.{piece_of}

pub record IsOrdinary (b : ℕ) : Type 0 where
  pub ascii : b < 128
  pub is_char : is_char b ≡ true
  pub no_reference : nat_eq b 0x26 ≡ false
  pub no_tag : nat_eq b 0x3C ≡ false
  pub no_greater : nat_eq b 0x3E ≡ false
  pub no_bracket : nat_eq 0x5D b ≡ false
  pub no_return : nat_eq b 0xD ≡ false

apart : (b n : ℕ) → is_ordinary b ≡ true → is_ordinary n ≡ false → nat_eq b n ≡ false
apart b n e f = ne_eqb b n (λ same. let g : true ≡ false = sym e ∙ ap is_ordinary same ∙ f in (cc))

one_of : (a b : Bool) → (a || b) ≡ true → (a ≡ true) ⊎ (b ≡ true)
one_of true b e = inl refl
one_of false b e = inr e

inside : (low high b : ℕ) → (nat_le low b && nat_le b high) ≡ true → (low ≤ b) × (b ≤ high)
inside low high b e = let parts = and_parts (nat_le low b) (nat_le b high) e in (leb-true low b parts.0, leb-true b high parts.1)

-- tab and line feed, or printable
bounds : (b : ℕ) → is_ordinary b ≡ true → ((0x9 ≤ b) × (b ≤ 0xA)) ⊎ ((0x20 ≤ b) × (b ≤ 0x7E))
bounds b e = elim (one_of _ _ e) [
  | inl h ↦ inl (inside 0x9 0xA b h)
  | inr h ↦ inr (printable h)
]
  where
    within : (low high : ℕ) → 0x20 ≤ low → high ≤ 0x7E → (low ≤ b) × (b ≤ high) → (0x20 ≤ b) × (b ≤ 0x7E)
    within low high l h both = (omega (arith, l, both.0), omega (arith, h, both.1))

    printable : in_ranges ((0x20, 0x25) ∷ (0x27, 0x3B) ∷ (0x3D, 0x3D) ∷ (0x3F, 0x5C) ∷ (0x5E, 0x7E) ∷ []) b ≡ true → (0x20 ≤ b) × (b ≤ 0x7E)
    printable e1 = elim (one_of _ _ e1) [
      | inl h ↦ within 0x20 0x25 (omega arith) (omega arith) (inside 0x20 0x25 b h)
      | inr e2 ↦ elim (one_of _ _ e2) [
        | inl h ↦ within 0x27 0x3B (omega arith) (omega arith) (inside 0x27 0x3B b h)
        | inr e3 ↦ elim (one_of _ _ e3) [
          | inl h ↦ within 0x3D 0x3D (omega arith) (omega arith) (inside 0x3D 0x3D b h)
          | inr e4 ↦ elim (one_of _ _ e4) [
            | inl h ↦ within 0x3F 0x5C (omega arith) (omega arith) (inside 0x3F 0x5C b h)
            | inr e5 ↦ elim (one_of _ _ e5) [
              | inl h ↦ within 0x5E 0x7E (omega arith) (omega arith) (inside 0x5E 0x7E b h)
              | inr none ↦ absurd (let g : false ≡ true = none in (cc))
            ]
          ]
        ]
      ]
    ]

third : (p q r s : Bool) → r ≡ true → (p || (q || (r || s))) ≡ true
third true q r s e = refl
third false true r s e = refl
third false false r s e = ap (λ x. x || s) e

all_true : (a b : Bool) → a ≡ true → b ≡ true → (a && b) ≡ true
all_true a b e f = ap (λ x. x && b) e ∙ f

char_from : (b : ℕ) → ((0x9 ≤ b) × (b ≤ 0xA)) ⊎ ((0x20 ≤ b) × (b ≤ 0x7E)) → is_char b ≡ true
char_from b (inl h) = ap (λ x. x || in_ranges ((0xD, 0xD) ∷ (0x20, 0xD7FF) ∷ (0xE000, 0xFFFD) ∷ (0x10000, 0x10FFFF) ∷ []) b) (all_true _ _ (le-leb 0x9 b h.0) (le-leb b 0xA h.1))
char_from b (inr h) = third _ _ _ _ (all_true _ _ (le-leb 0x20 b h.0) (le-leb b 0xD7FF (let k = h.1 in omega (arith, k))))

ascii_from : (b : ℕ) → ((0x9 ≤ b) × (b ≤ 0xA)) ⊎ ((0x20 ≤ b) × (b ≤ 0x7E)) → b < 128
ascii_from b (inl h) = let k = h.1 in omega (arith, k)
ascii_from b (inr h) = let k = h.1 in omega (arith, k)

same_test : (a b : ℕ) → nat_eq a b ≡ nat_eq b a
same_test a b = elim (eqb_tells a b) [ inl t ↦ t.0 ∙ sym (eq-eqb b a (sym t.1)) | inr t ↦ t.0 ∙ sym (ne_eqb b a (λ f. t.1 (sym f))) ]

pub ordinary_is : (b : ℕ) → is_ordinary b ≡ true → IsOrdinary b
ordinary_is b e = record {
  ascii = ascii_from b (bounds b e);
  is_char = char_from b (bounds b e);
  no_reference = apart b 0x26 e refl;
  no_tag = apart b 0x3C e refl;
  no_greater = apart b 0x3E e refl;
  no_bracket = same_test 0x5D b ∙ apart b 0x5D e refl;
  no_return = apart b 0xD e refl;
}

pub no_start : (b : ℕ) (behind close : List ℕ) (c : ℕ) → nat_eq b c ≡ false → starts_with nat_eq (b ∷ behind) (c ∷ close) ≡ false
no_start b behind close c e = ap (λ t. t && starts_with nat_eq behind close) (same_test c b ∙ e)

abbrev by_tests : Bool → Bool → Bool → Bool → Bool → Bool → Kind
by_tests a b c d e f = cond a CommentKind (cond b CdataKind (cond c InstructionKind (cond d EndTagKind (cond e TagKind (cond f ReferenceKind CharacterKind)))))

kind : (b : ℕ) (behind : List ℕ) → IsOrdinary b → kind_at (b ∷ behind) ≡ CharacterKind
kind b behind h =
    let tag : (close : List ℕ) → starts_with nat_eq (b ∷ behind) (0x3C ∷ close) ≡ false = λ close. no_start b behind close 0x3C h.no_tag in
    let reference = no_start b behind [] 0x26 h.no_reference in
    (λ i. by_tests (tag (codes "!--") i) (tag (codes "![CDATA[") i) (tag (codes "?") i) (tag (codes "/") i) (tag [] i) (reference i))

one_byte : (b : ℕ) (behind : List ℕ) → IsOrdinary b → cut CharacterKind (b ∷ behind) ≡ (b ∷ [], behind)
one_byte b [] h = refl
one_byte b (c ∷ behind) h =
    ap (λ t. let n = cond (t && nat_eq c 0xA) 2 (suc (continuation_len b)) in (take n (b ∷ c ∷ behind), drop n (b ∷ c ∷ behind))) h.no_return
    ∙ ap (λ t. let n = suc (cond t 0 (cond (nat_lt b 224) 1 (cond (nat_lt b 240) 2 3))) in (take n (b ∷ c ∷ behind), drop n (b ∷ c ∷ behind))) (below b h.ascii)
  where
    below : (n : ℕ) → n < 128 → nat_lt n 128 ≡ true
    below n h = lt-ltb n 128 h

alone : (b : ℕ) → IsOrdinary b → characters (b ∷ []) ≡ Some (b ∷ [])
alone b h =
    let same : chars (b ∷ []) ≡ b ∷ [] = chars-IsAscii (b ∷ []) ascii in
    ap (λ t. cond (t && list_all is_char (chars (b ∷ []))) (Some (chars (b ∷ []))) None) (is_utf8-from_IsUtf8 (b ∷ []) (IsUtf8-from_ascii (b ∷ []) ascii))
    ∙ ap (λ x. cond (list_all is_char x) (Some x) None) same
    ∙ ap (λ t. cond (t && true) (Some (b ∷ [])) None) h.is_char
  where
    ascii : IsAscii (b ∷ [])
    ascii zero = h.ascii
    ascii (suc i) = omega arith

literal : (b : ℕ) → IsOrdinary b → item_of CharacterKind (b ∷ []) ≡ Some (character b)
literal b h = (λ i. when (not (h.no_tag i || h.no_reference i)) (character (cond (h.no_return i) 0xA b)))

pub ordinary_piece : (b : ℕ) (behind : List ℕ) → is_ordinary b ≡ true → piece_at (b ∷ behind) ≡ Some (record { text = b ∷ []; item = character b }, behind)
ordinary_piece b behind e =
    let h = ordinary_is b e in
    piece_of (b ∷ behind) (b ∷ []) CharacterKind 1 (Some (character b)) (sym (kind b behind h)) (one_byte b behind h) (alone b h) (literal b h)

-- and so is CR LF, which is read as LF

line_end_characters : characters (0xD ∷ 0xA ∷ []) ≡ Some (0xD ∷ 0xA ∷ [])
line_end_characters =
    let text : List ℕ = 0xD ∷ 0xA ∷ [] in
    ap (λ t. cond (t && list_all is_char (chars text)) (Some (chars text)) None) (is_utf8-from_IsUtf8 text (IsUtf8-from_ascii text ascii))
    ∙ ap (λ x. cond (list_all is_char x) (Some x) None) (chars-IsAscii text ascii)
  where
    ascii : IsAscii (0xD ∷ 0xA ∷ [])
    ascii zero = omega arith
    ascii (suc zero) = omega arith
    ascii (suc (suc i)) = omega arith

pub line_end_piece : (behind : List ℕ) → piece_at (0xD ∷ 0xA ∷ behind) ≡ Some (record { text = 0xD ∷ 0xA ∷ []; item = character 0xA }, behind)
line_end_piece behind =
    piece_of (0xD ∷ 0xA ∷ behind) (0xD ∷ 0xA ∷ []) CharacterKind 2 (Some (character 0xA)) refl refl line_end_characters refl
