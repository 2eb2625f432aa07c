-- What the item at the front of bytes is where it is a reference, or where the first byte stands for itself.
use Rattle.std.proofs.Common.{◌≡◌, ℕ, ◌<◌, Bool, true, false, not, cond, ◌&&◌, ◌||◌, ◌==◌, List, [], ◌∷◌, ◌++◌, length, get_or, Option, Some, None, refl, sym, ◌∙◌, ap, subst, arith, inl, inr, nat_eq, codes, option_map, length-append}
use Rattle.std.proofs.lemmas.Bool.{and_parts, eqb-true, true≢false, eq-eqb, ne_eqb}
use Rattle.std.proofs.lemmas.Bool.Decides.{nat_tests, eqb_tells}
use Rattle.std.proofs.lemmas.Option.{none-some}
use Rattle.std.specs.List.{list_all, starts_with}
use Rattle.std.specs.Prelude.{option_and_then, encode_utf8_all}
use Rattle.std.specs.Str.{chars, IsUtf8, is_utf8}
use Rattle.std.proofs.lemmas.Str.{IsUtf8-from_is_utf8}
use Rattle.xml_items.proofs.AsciiTexts.{bytes_behind}
use Rattle.document_model.specs.Characters.{characters, is_char, between, span, continues_name}
use Rattle.document_model.specs.Names.{Name, name_of}
use Rattle.document_model.specs.Items.{Attribute, Item, Piece, Kind, declaration, start_tag, empty_tag, end_tag, character, reference, cdata, comment, instruction, CommentKind, CdataKind, InstructionKind, EndTagKind, TagKind, ReferenceKind, CharacterKind, kind_at, cut, item_of, piece_at, when, or_else, tag_of, end_tag_of, comment_of, cdata_of, instruction_of, declaration_of, reference_of, referred, character_of, is_versioned, pairs_of, each_of, attribute_of, most_attributes, without_space_behind}
use Rattle.document_model.proofs.Joins.{some_same, bind_some, when_some, cut_joins}
use Rattle.doc_spans.specs.Texts.{text_added_by, is_literal_byte}
use Rattle.xml_items.specs.Items.{item_in}
use Rattle.xml_items.specs.Spans.{IsPlaced}
use Rattle.xml_items.specs.declared.items.Found.{Found}
use Rattle.xml_items.specs.declared.items.Found.TheVariants as found
use Rattle.doc_spans.specs.TextParts.{IsScalarFound, section_size}
use Rattle.doc_spans.proofs.LiteralRuns.{referred_char, char_scalar}
use Rattle.doc_spans.proofs.Run.{piece_has}

-- A reference.

-- a reference names a character
abbrev pub names_char : Item → Bool
names_char (reference c) = is_char c
names_char declaration = true
names_char (start_tag name attributes) = true
names_char (empty_tag name attributes) = true
names_char (end_tag name) = true
names_char (character c) = true
names_char (cdata cs) = true
names_char (comment cs) = true
names_char (instruction target content) = true

good_when : (b : Bool) (x item : Item) → names_char x ≡ true → when b x ≡ Some item → names_char item ≡ true
good_when b x item h e = ap names_char (sym (when_some b x item e)) ∙ h

good_either : (a b : Option Item) (item : Item) → (a ≡ Some item → names_char item ≡ true) → (b ≡ Some item → names_char item ≡ true) → or_else a b ≡ Some item → names_char item ≡ true
good_either None b item f g e = g e
good_either (Some x) b item f g e = f e

good_tag : (make : Name → List Attribute → Item) (text : List ℕ) (item : Item) → ((name : Name) (attributes : List Attribute) → names_char (make name attributes) ≡ true)
    → tag_of make text ≡ Some item → names_char item ≡ true
good_tag make text item h e =
    let cut = span (λ c. continues_name c || (c == 0x3A)) (without_space_behind text) in
    let name = bind_some (λ name. option_and_then (λ pairs. option_and_then (λ attributes. Some (make name attributes)) (each_of attribute_of pairs)) (pairs_of most_attributes cut.1)) (name_of cut.0) item e in
    let pairs = bind_some (λ pairs. option_and_then (λ attributes. Some (make name.0 attributes)) (each_of attribute_of pairs)) (pairs_of most_attributes cut.1) item name.2 in
    let attributes = bind_some (λ attributes. Some (make name.0 attributes)) (each_of attribute_of pairs.0) item pairs.2 in
    ap names_char (sym (some_same (make name.0 attributes.0) item attributes.2)) ∙ h name.0 attributes.0

good_map : {A : Type 0} (f : A → Item) (o : Option A) (item : Item) → ((x : A) → o ≡ Some x → names_char (f x) ≡ true) → option_map f o ≡ Some item → names_char item ≡ true
good_map f None item h e = absurd (none-some item e)
good_map f (Some x) item h e = ap names_char (sym (some_same (f x) item e)) ∙ h x refl

good_character : (text : List ℕ) (item : Item) → character_of text ≡ Some item → names_char item ≡ true
good_character [] item e = absurd (none-some item e)
good_character (c ∷ []) item e = good_when (not ((c == 0x3C) || (c == 0x26))) (character (cond (c == 0xD) 0xA c)) item refl e
good_character (c ∷ d ∷ []) item e = good_when ((c == 0xD) && (d == 0xA)) (character 0xA) item refl e
good_character (c ∷ d ∷ b ∷ cs) item e = absurd (none-some item e)

good_item : (kind : Kind) (text : List ℕ) (item : Item) → item_of kind text ≡ Some item → names_char item ≡ true
good_item CommentKind text item e = let inside = bind_some comment_of (between (codes "<!--") (codes "-->") text) item e in good_when _ _ item refl inside.2
good_item CdataKind text item e = let inside = bind_some cdata_of (between (codes "<![CDATA[") (codes "]]>") text) item e in good_when _ _ item refl inside.2
good_item InstructionKind text item e = good_either _ _ item
    (λ e. let inside = bind_some declaration_of (between (codes "<?xml") (codes "?>") text) item e in let pairs = bind_some (λ pairs. when (is_versioned pairs) declaration) (pairs_of 3 (without_space_behind inside.0)) item inside.2 in good_when (is_versioned pairs.0) declaration item refl pairs.2)
    (λ e. let inside = bind_some instruction_of (between (codes "<?") (codes "?>") text) item e in good_when _ _ item refl inside.2) e
good_item EndTagKind text item e = let inside = bind_some end_tag_of (between (codes "</") (codes ">") text) item e in good_map end_tag _ item (λ name f. refl) inside.2
good_item TagKind text item e = good_either _ _ item
    (λ e. let inside = bind_some (tag_of empty_tag) (between (codes "<") (codes "/>") text) item e in good_tag empty_tag inside.0 item (λ name attributes. refl) inside.2)
    (λ e. let inside = bind_some (tag_of start_tag) (between (codes "<") (codes ">") text) item e in good_tag start_tag inside.0 item (λ name attributes. refl) inside.2) e
good_item ReferenceKind text item e =
    let inside = bind_some reference_of (between (codes "&") (codes ";") text) item e in
    good_map reference (referred inside.0) item (λ c f. referred_char inside.0 c f) inside.2
good_item CharacterKind text item e = good_character text item e

pub piece_names_char : (bytes : List ℕ) (found : Piece × List ℕ) → piece_at bytes ≡ Some found → names_char found.0.item ≡ true
unfolding piece_at
piece_names_char bytes found e =
    let text = bind_some _ (characters (cut (kind_at bytes) bytes).0) found e in
    let item = bind_some _ (item_of (kind_at bytes) text.0) found text.2 in
    let f : Piece × List ℕ → Item = λ p. p.0.item in
    ap (λ p. names_char (f p)) (sym (some_same _ found item.2)) ∙ good_item (kind_at bytes) text.0 item.0 item.1

-- A literal character.

same_test : (a b : ℕ) → nat_eq a b ≡ nat_eq b a
same_test a b = elim (eqb_tells a b) [ inl t ↦ t.0 ∙ sym (eq-eqb b a (sym t.1)) | inr t ↦ t.0 ∙ sym (ne_eqb b a (λ f. t.1 (sym f))) ]

no_start : (b : ℕ) (behind close : List ℕ) (c : ℕ) → nat_eq b c ≡ false → starts_with nat_eq (b ∷ behind) (c ∷ close) ≡ false
no_start b behind close c e = ap (λ t. t && starts_with nat_eq behind close) (same_test c b ∙ e)

abbrev by_kind : Bool → Bool → Bool → Bool → Bool → Bool → Kind
by_kind a b c d e f =
    cond a CommentKind (cond b CdataKind (cond c InstructionKind (cond d EndTagKind (cond e TagKind (cond f ReferenceKind CharacterKind)))))

literal_kind : (b : ℕ) (behind : List ℕ) → is_literal_byte b ≡ true → kind_at (b ∷ behind) ≡ CharacterKind
literal_kind b behind h =
    let markup : (b == 0x3C) ≡ false = grind (arith, nat_tests) in
    let mark : (b == 0x26) ≡ false = grind (arith, nat_tests) in
    (λ i. by_kind (no_start b behind (codes "!--") 0x3C markup i) (no_start b behind (codes "![CDATA[") 0x3C markup i) (no_start b behind (codes "?") 0x3C markup i)
    (no_start b behind (codes "/") 0x3C markup i) (no_start b behind [] 0x3C markup i) (no_start b behind [] 0x26 mark i))

-- a text of one character that stands for itself
pub record IsLiteral (text : List ℕ) (item : Item) : Type 0 where
  pub utf8 : IsUtf8 text
  pub c : ℕ
  pub one : chars text ≡ c ∷ []
  pub added : text_added_by item ≡ c ∷ []

when_true : (t : Bool) (x y : Item) → when t x ≡ Some y → t ≡ true
when_true true x y e = refl
when_true false x y e = absurd (none-some y e)

some_from : (t : Bool) (x y : List ℕ) → cond t (Some x) None ≡ Some y → (t ≡ true) × (x ≡ y)
some_from true x y e = (refl, some_same x y e)
some_from false x y e = absurd (none-some y e)

first_byte : (text cs more : List ℕ) (b : ℕ) → IsUtf8 text → chars text ≡ 0xD ∷ cs → text ≡ b ∷ more → is_literal_byte b ≡ true → ⊥
first_byte text cs more b u e f h =
    let g : b ∷ more ≡ 0xD ∷ encode_utf8_all cs = sym f ∙ bytes_behind (0xD ∷ []) cs text refl u e in
    let k : 0xD ≡ b = ap (λ xs. get_or xs 0 0) (sym g) in
    let no_literal : is_literal_byte 0xD ≡ false = refl in
    true≢false (sym h ∙ ap is_literal_byte (sym k) ∙ no_literal)

literal_item : (text cs more : List ℕ) (b : ℕ) (item : Item) → IsUtf8 text → chars text ≡ cs → text ≡ b ∷ more → is_literal_byte b ≡ true → character_of cs ≡ Some item → IsLiteral text item
literal_item text [] more b item u e f h g = absurd (none-some item g)
literal_item text (c ∷ []) more b item u e f h g = by_return (c == 0xD) refl
  where
    is : character (cond (c == 0xD) 0xA c) ≡ item
    is = when_some (not ((c == 0x3C) || (c == 0x26))) (character (cond (c == 0xD) 0xA c)) item g

    by_return : (t : Bool) → (c == 0xD) ≡ t → IsLiteral text item
    by_return true r = absurd (first_byte text [] more b u (e ∙ ap (λ x. x ∷ []) (eqb-true c 0xD r)) f h)
    by_return false r = record { utf8 = u; c = c; one = e; added = ap text_added_by (sym is) ∙ ap (λ t. cond t 0xA c ∷ []) r }
literal_item text (c ∷ d ∷ []) more b item u e f h g =
    let both = and_parts (c == 0xD) (d == 0xA) (when_true ((c == 0xD) && (d == 0xA)) (character 0xA) item g) in
    absurd (first_byte text (d ∷ []) more b u (e ∙ ap (λ x. x ∷ d ∷ []) (eqb-true c 0xD both.0)) f h)
literal_item text (c ∷ d ∷ a ∷ cs) more b item u e f h g = absurd (none-some item g)

pub literal_piece : (bytes behind : List ℕ) (b : ℕ) (found : Piece × List ℕ) → bytes ≡ b ∷ behind → is_literal_byte b ≡ true → piece_at bytes ≡ Some found → IsLiteral found.0.text found.0.item
unfolding piece_at
literal_piece bytes behind b found s h e =
    let text = bind_some _ (characters (cut (kind_at bytes) bytes).0) found e in
    let item = bind_some _ (item_of (kind_at bytes) text.0) found text.2 in
    let front : List ℕ = (cut (kind_at bytes) bytes).0 in
    let kind : kind_at bytes ≡ CharacterKind = ap kind_at s ∙ literal_kind b behind h in
    let read = some_from (is_utf8 front && list_all is_char (chars front)) (chars front) text.0 text.1 in
    let u : IsUtf8 front = IsUtf8-from_is_utf8 front (and_parts (is_utf8 front) (list_all is_char (chars front)) read.0).0 in
    let P : Piece × List ℕ → Type 0 = λ f. IsLiteral f.0.text f.0.item in
    let some : 0 < length front = (let f : Piece × List ℕ → ℕ = λ p. length p.0.text in let n = ap f (some_same _ found item.2) in let k = piece_has bytes found e in omega (arith, n, k)) in
    let joined : front ++ (cut (kind_at bytes) bytes).1 ≡ b ∷ behind = cut_joins (kind_at bytes) bytes ∙ s in
    let first = front_of front (cut (kind_at bytes) bytes).1 b behind some joined in
    subst P (some_same _ found item.2) (literal_item front text.0 first.0 b item.0 u read.1 first.1 h (ap (λ k. item_of k text.0) (sym kind) ∙ item.1))
  where
    front_of : (front more : List ℕ) (b : ℕ) (behind : List ℕ) → 0 < length front → front ++ more ≡ b ∷ behind → (rest : List ℕ) × (front ≡ b ∷ rest)
    front_of [] more b behind l e = absurd (omega (arith, l))
    front_of (x ∷ front) more b behind l e = (front, let k : x ≡ b = ap (λ xs. get_or xs 0 0) e in ap (λ y. y ∷ front) k)

-- What a scanner found.

pub scalar_found : (found : Found) → names_char (item_in found) ≡ true → IsScalarFound found
scalar_found found.Declaration h = tt
scalar_found (found.StartTag name attributes) h = tt
scalar_found (found.EmptyTag name attributes) h = tt
scalar_found (found.EndTag name) h = tt
scalar_found (found.Character c) h = tt
scalar_found (found.Reference c) h = char_scalar c h
scalar_found (found.Cdata text) h = tt
scalar_found (found.Comment text) h = tt
scalar_found (found.Instruction target content) h = tt

pub section_fits : (whole : List ℕ) (found : Found) → IsPlaced whole found → 0 < length whole → section_size found < length whole
section_fits whole found.Declaration p l = l
section_fits whole (found.StartTag name attributes) p l = l
section_fits whole (found.EmptyTag name attributes) p l = l
section_fits whole (found.EndTag name) p l = l
section_fits whole (found.Character c) p l = l
section_fits whole (found.Reference c) p l = l
section_fits whole (found.Cdata text) p l =
    let n = ap length p.joined in
    let a = length-append p.before (text.now ++ p.behind) in
    let b = length-append text.now p.behind in
    let k = p.place in omega (arith, n, a, b, k)
section_fits whole (found.Comment text) p l = l
section_fits whole (found.Instruction target content) p l = l
