-- The characters of the items of a text, one after another: what a scanner finds, and runs of bytes that stand for themselves.
use Rattle.std.proofs.Common.{◌≡◌, ℕ, zero, suc, ◌+◌, ◌-◌, ◌<◌, ◌≤◌, true, false, cond, List, [], ◌∷◌, ◌++◌, length, take, drop, get_or, Some, None, refl, sym, ◌∙◌, ap, subst, arith, ◌⊎◌, inl, inr, append_assoc, length-append, length-drop, drop-cons}
use Rattle.std.proofs.Math.Bool.{Bool-set}
use Rattle.std.proofs.Math.Logic.{∥∥₁_elim, ∥∥₁_map}
use Rattle.std.proofs.Props.{props}
use Rattle.std.proofs.lemmas.List.{take-append-drop, length-take-le}
use Rattle.std.proofs.lemmas.Str.{chars-nil, chars-append, encodes-chars, is_utf8-from_IsUtf8, IsUtf8-nil, IsUtf8-append, IsUtf8-take, IsUtf8-drop, IsCharBoundary-before_ascii}
use Rattle.std.specs.Prelude.{encode_utf8_all}
use Rattle.std.proofs.lemmas.Bool.Decides.{eqb_tells, leb_tells, nat_tests}
use Rattle.std.proofs.lemmas.Option.{none-some, same_Some}
use Rattle.std.specs.Option.{option_map_or}
use Rattle.std.specs.Str.{chars, IsUtf8, is_utf8}
use Rattle.document_model.specs.Items.{Item, Piece, piece_at, declaration, start_tag, empty_tag, end_tag, character, reference, cdata, comment, instruction}
use Rattle.document_model.proofs.Joins.{piece_joins}
use Rattle.doc_spans.specs.Texts.{text_added_by, text_added, IsPartOfText, AreTexts, StandFrom, HoldText, text_of_items, text_between, is_literal_byte, AreLiteral}
use Rattle.doc_spans.proofs.ItemKinds.{IsLiteral, literal_piece}
use Rattle.doc_spans.proofs.Run.{piece_has}

pub stand_order : (bytes : List ℕ) (start end : ℕ) (pieces : List Piece) → StandFrom bytes start end pieces → start ≤ end
stand_order bytes start end [] at = omega (arith, at)
stand_order bytes start end (piece ∷ pieces) at = let l = stand_order bytes (start + length piece.text) end pieces at.1 in omega (arith, l)

-- one item, and those behind it
one_item : (n : ℕ) (bytes : List ℕ) (start end : ℕ) (piece : Piece) (behind : List ℕ) → (start ≡ end → ⊥) → piece_at (drop start bytes) ≡ Some (piece, behind)
    → text_of_items (suc n) bytes start end ≡ text_added_by piece.item ++ text_of_items n bytes (start + length piece.text) end
one_item n bytes start end piece behind apart e = elim (eqb_tells start end) [
  | inl t ↦ absurd (apart t.1)
  | inr t ↦
      ap (λ b. cond b [] (option_map_or (λ (found : Piece × List ℕ). text_added_by found.0.item ++ text_of_items n bytes (start + length found.0.text) end) (piece_at (drop start bytes)) [])) t.0
      ∙ ap (λ o. option_map_or (λ (found : Piece × List ℕ). text_added_by found.0.item ++ text_of_items n bytes (start + length found.0.text) end) o []) e
]

no_item : (n : ℕ) (bytes : List ℕ) (start end : ℕ) → start ≡ end → text_of_items n bytes start end ≡ []
no_item zero bytes start end e = refl
no_item (suc n) bytes start end e = elim (eqb_tells start end) [
  | inl t ↦ ap (λ b. cond b [] (option_map_or (λ (found : Piece × List ℕ). text_added_by found.0.item ++ text_of_items n bytes (start + length found.0.text) end) (piece_at (drop start bytes)) [])) t.0
  | inr t ↦ absurd (t.1 e)
]

-- the items of a text add these characters
items_add : (n : ℕ) (bytes : List ℕ) (start end : ℕ) (pieces : List Piece) → end ≤ start + n → StandFrom bytes start end pieces → text_of_items n bytes start end ≡ text_added pieces
items_add n bytes start end [] h at = no_item n bytes start end at
items_add zero bytes start end (piece ∷ pieces) h at =
    let some = piece_has (drop start bytes) _ at.0 in
    let l = stand_order bytes (start + length piece.text) end pieces at.1 in absurd (omega (arith, h, some, l))
items_add (suc n) bytes start end (piece ∷ pieces) h at =
    let some = piece_has (drop start bytes) _ at.0 in
    let l = stand_order bytes (start + length piece.text) end pieces at.1 in
    one_item n bytes start end piece _ (λ e. omega (arith, e, some, l)) at.0
    ∙ ap (λ cs. text_added_by piece.item ++ cs) (items_add n bytes (start + length piece.text) end pieces (omega (arith, h, some)) at.1)

pub text_is : (bytes : List ℕ) (start end : ℕ) (pieces : List Piece) → StandFrom bytes start end pieces → text_between bytes start end ≡ text_added pieces
text_is bytes start end pieces at = items_add (end - start) bytes start end pieces (omega arith) at

-- Runs of bytes that stand for themselves.

-- the items up to a place are characters that stand for themselves, and then others stand
pub record Literals (bytes : List ℕ) (start middle end : ℕ) (pieces : List Piece) : Type 0 where
  pub utf8 : IsUtf8 (take (middle - start) (drop start bytes))
  pub behind : List Piece
  pub stand : StandFrom bytes middle end behind
  pub texts : AreTexts behind
  pub added : text_added pieces ≡ chars (take (middle - start) (drop start bytes)) ++ text_added behind

no_literals : (bytes : List ℕ) (start middle end : ℕ) (pieces : List Piece) → start ≡ middle → StandFrom bytes start end pieces → AreTexts pieces → Literals bytes start middle end pieces
no_literals bytes start middle end pieces e at t =
    let none : middle - start ≡ 0 = omega (arith, e) in
    let empty : take (middle - start) (drop start bytes) ≡ [] = ap (λ n. take n (drop start bytes)) none in
    let P : ℕ → Type 0 = λ n. StandFrom bytes n end pieces in record {
      utf8 = subst IsUtf8 (sym empty) IsUtf8-nil;
      behind = pieces;
      stand = subst P e at;
      texts = t;
      added = ap (λ cs. cs ++ text_added pieces) (sym (ap chars empty ∙ chars-nil));
    }

-- a character isn't cut
not_inside : (text : List ℕ) (j c : ℕ) → IsUtf8 text → chars text ≡ c ∷ [] → 0 < j → j < length text → get_or text j 0 < 128 → ⊥
not_inside text j c u e some less ascii =
    let at = IsCharBoundary-before_ascii text j less ascii in
    let front = IsUtf8-take text j u at in
    let behind = IsUtf8-drop text j u at in
    let whole : chars text ≡ chars (take j text) ++ chars (drop j text) = ap chars (sym (take-append-drop j text)) ∙ chars-append (take j text) (drop j text) front in
    let n = ap length (sym whole ∙ e) in
    let parts = length-append (chars (take j text)) (chars (drop j text)) in
    let a = some_chars (take j text) front (let k = length-take-le j text (omega (arith, less)) in omega (arith, k, some)) in
    let b = some_chars (drop j text) behind (let k = length-drop j text in omega (arith, k, less)) in omega (arith, n, parts, a, b)
  where
    some_chars : (xs : List ℕ) → IsUtf8 xs → 0 < length xs → 0 < length (chars xs)
    some_chars xs v l = by_chars (chars xs) refl
      where
        by_chars : (cs : List ℕ) → chars xs ≡ cs → 0 < length (chars xs)
        by_chars [] f = let k : xs ≡ [] = sym (encodes-chars xs v) ∙ ap encode_utf8_all f in let m = ap length k in absurd (omega (arith, m, l))
        by_chars (d ∷ ds) f = let m = ap length f in omega (arith, m)

special_ascii : (b : ℕ) → is_literal_byte b ≡ false → b < 128
special_ascii b h = grind (arith, nat_tests)

get_drop : (bytes : List ℕ) (start j : ℕ) → get_or (drop start bytes) j 0 ≡ get_or bytes (start + j) 0
get_drop bytes zero j = let e : j ≡ 0 + j = omega arith in ap (λ n. get_or bytes n 0) e
get_drop [] (suc start) j = refl
get_drop (b ∷ bytes) (suc start) j = get_drop bytes start j ∙ (let e : suc (start + j) ≡ suc start + j = omega arith in ap (λ n. get_or (b ∷ bytes) n 0) e)

get_front : (xs ys : List ℕ) (j : ℕ) → j < length xs → get_or (xs ++ ys) j 0 ≡ get_or xs j 0
get_front [] ys j l = absurd (omega (arith, l))
get_front (x ∷ xs) ys zero l = refl
get_front (x ∷ xs) ys (suc j) l = get_front xs ys j (omega (arith, l))

-- the place where a run ends isn't inside an item
run_past : (bytes : List ℕ) (start middle end : ℕ) (piece : Piece) → piece_at (drop start bytes) ≡ Some (piece, drop (start + length piece.text) bytes) → IsLiteral piece.text piece.item
    → start < middle → start + length piece.text ≤ end → (middle ≡ end) ⊎ (is_literal_byte (get_or bytes middle 0) ≡ false) → start + length piece.text ≤ middle
run_past bytes start middle end piece e one less within (inl is_end) = omega (arith, is_end, within)
run_past bytes start middle end piece e one less within (inr special) = elim (leb_tells (start + length piece.text) middle) [
  | inl t ↦ t.1
  | inr t ↦
      let past = t.1 in
      let j = middle - start in
      let inside : j < length piece.text = omega (arith, past, less) in
      let joined : piece.text ++ drop (start + length piece.text) bytes ≡ drop start bytes = piece_joins (drop start bytes) (piece, drop (start + length piece.text) bytes) e in
      let place : start + j ≡ middle = omega (arith, less) in
      let same : get_or piece.text j 0 ≡ get_or bytes middle 0 =
      sym (get_front piece.text (drop (start + length piece.text) bytes) j inside) ∙ ap (λ xs. get_or xs j 0) joined ∙ get_drop bytes start j ∙ ap (λ n. get_or bytes n 0) place in
      let ascii : get_or bytes middle 0 < 128 = special_ascii (get_or bytes middle 0) special in
      absurd (not_inside piece.text j one.c one.utf8 one.one (omega (arith, less)) inside (subst (λ n. n < 128) (sym same) ascii))
]

pub literals : (bytes : List ℕ) (start middle end : ℕ) (pieces : List Piece) → StandFrom bytes start end pieces → AreTexts pieces → AreLiteral bytes start middle
    → start ≤ middle → middle ≤ end → end ≤ length bytes → (middle ≡ end) ⊎ (is_literal_byte (get_or bytes middle 0) ≡ false) → Literals bytes start middle end pieces
literals bytes start middle end [] at t literal order within fits stop = no_literals bytes start middle end [] (omega (arith, at, order, within)) at t
literals bytes start middle end (piece ∷ pieces) at t literal order within fits stop = elim (eqb_tells start middle) [
  | inl e ↦ no_literals bytes start middle end (piece ∷ pieces) e.1 at t
  | inr e ↦
      let apart = e.1 in
      let less : start < middle = lt_from start middle order apart in
      let l = length piece.text in
      let later = stand_order bytes (start + l) end pieces at.1 in
      let b = get_or bytes start 0 in
      let first : drop start bytes ≡ b ∷ drop (suc start) bytes = drop-cons bytes start 0 (omega (arith, less, within, fits)) in
      let one = literal_piece (drop start bytes) (drop (suc start) bytes) b _ first (literal start (omega arith) less) at.0 in
      let past = run_past bytes start middle end piece at.0 one less later stop in
      let more = literals bytes (start + l) middle end pieces at.1 t.1 (λ k h g. literal k (omega (arith, h)) g) past within fits stop in
      let joined : piece.text ++ drop (start + l) bytes ≡ drop start bytes = piece_joins (drop start bytes) _ at.0 in
      let count : middle - start ≡ l + (middle - (start + l)) = omega (arith, past) in
      let whole : piece.text ++ take (middle - (start + l)) (drop (start + l) bytes) ≡ take (middle - start) (drop start bytes) =
      sym (take_over piece.text (drop (start + l) bytes) (middle - (start + l))) ∙ (λ i. take (sym count i) (joined i)) in
      let rest = take (middle - (start + l)) (drop (start + l) bytes) in record {
        utf8 = subst IsUtf8 whole (IsUtf8-append piece.text rest one.utf8 more.utf8);
        behind = more.behind;
        stand = more.stand;
        texts = more.texts;
        added = (λ i. one.added i ++ more.added i)
            ∙ ap (λ cs. cs ++ (chars rest ++ text_added more.behind)) (sym one.one)
            ∙ sym (append_assoc (chars piece.text) (chars rest) (text_added more.behind))
            ∙ ap (λ cs. cs ++ text_added more.behind) (sym (chars-append piece.text rest one.utf8) ∙ ap chars whole);
      }
]
  where
    lt_from : (a b : ℕ) → a ≤ b → (a ≡ b → ⊥) → a < b
    lt_from a b h k = elim (leb_tells (suc a) b) [ inl t ↦ (let l = t.1 in omega (arith, l)) | inr t ↦ absurd (k (let l = t.1 in omega (arith, l, h))) ]

    take_over : (xs ys : List ℕ) (n : ℕ) → take (length xs + n) (xs ++ ys) ≡ xs ++ take n ys
    take_over [] ys n = let e : 0 + n ≡ n = omega arith in ap (λ m. take m ys) e
    take_over (x ∷ xs) ys n = (let e : suc (length xs) + n ≡ suc (length xs + n) = omega arith in ap (λ m. take m (x ∷ (xs ++ ys))) e) ∙ ap (λ zs. x ∷ zs) (take_over xs ys n)

-- What a call on the items of a text needs of them.

le_is_prop : (a b : ℕ) → IsProp (a ≤ b)
le_is_prop a b = hlevel props

texts_set : IsSet (List ℕ)
texts_set = hlevel props

pub hold_order : (bytes : List ℕ) (start end : ℕ) → ∥ HoldText bytes start end ∥₁ → start ≤ end
hold_order bytes start end hold = ∥∥₁_elim hold (le_is_prop start end) (λ h. stand_order bytes start end h.0 h.1)

-- a run
pub record Run (bytes : List ℕ) (start middle end : ℕ) : Type 0 where
  pub utf8 : is_utf8 (take (middle - start) (drop start bytes)) ≡ true
  pub hold : ∥ HoldText bytes middle end ∥₁
  pub left : text_between bytes start end ≡ chars (take (middle - start) (drop start bytes)) ++ text_between bytes middle end

pub run_of : (bytes : List ℕ) (start middle end : ℕ) → ∥ HoldText bytes start end ∥₁ → AreLiteral bytes start middle
    → start ≤ middle → middle ≤ end → end ≤ length bytes → (middle ≡ end) ⊎ (is_literal_byte (get_or bytes middle 0) ≡ false) → Run bytes start middle end
run_of bytes start middle end hold literal order within fits stop = record {
  utf8 = ∥∥₁_elim hold (Bool-set _ _) (λ h. is_utf8-from_IsUtf8 (take (middle - start) (drop start bytes)) (of h).utf8);
  hold = ∥∥₁_map hold (λ h. (let l = of h in (l.behind, l.stand, l.texts)));
  left = ∥∥₁_elim hold (texts_set _ _) (λ h. let l = of h in
      text_is bytes start end h.0 h.1 ∙ l.added ∙ ap (λ cs. chars (take (middle - start) (drop start bytes)) ++ cs) (sym (text_is bytes middle end l.behind l.stand)));
}
  where
    of : (h : HoldText bytes start end) → Literals bytes start middle end h.0
    of h = literals bytes start middle end h.0 h.1 h.2 literal order within fits stop

-- one item, as a scanner finds it
pub record One (bytes : List ℕ) (start next end : ℕ) (item : Item) : Type 0 where
  pub text : IsPartOfText item
  pub order : next ≤ end
  pub hold : ∥ HoldText bytes next end ∥₁
  pub left : text_between bytes start end ≡ text_added_by item ++ text_between bytes next end

part_prop : (item : Item) → IsProp (IsPartOfText item)
part_prop declaration a b = absurd a
part_prop (start_tag name attributes) a b = absurd a
part_prop (empty_tag name attributes) a b = absurd a
part_prop (end_tag name) a b = absurd a
part_prop (character c) a b = refl
part_prop (reference c) a b = refl
part_prop (cdata cs) a b = refl
part_prop (comment cs) a b = absurd a
part_prop (instruction target content) a b = absurd a

record First (bytes : List ℕ) (start next end : ℕ) (item : Item) : Type 0 where
  pieces : List Piece
  stand : StandFrom bytes next end pieces
  texts : AreTexts pieces
  text : IsPartOfText item
  left : text_between bytes start end ≡ text_added_by item ++ text_added pieces

first_of : (bytes : List ℕ) (start next end : ℕ) (item : Item) → (start ≡ end → ⊥) → start < next → next ≤ length bytes
    → piece_at (drop start bytes) ≡ Some (record { text = take (next - start) (drop start bytes); item = item }, drop next bytes)
    → (pieces : List Piece) → StandFrom bytes start end pieces → AreTexts pieces → First bytes start next end item
first_of bytes start next end item apart less within e [] at t = absurd (apart at)
first_of bytes start next end item apart less within e (piece ∷ pieces) at t =
    let n = length-take-le (next - start) (drop start bytes) (let l = length-drop start bytes in omega (arith, l, within, less)) in
    let f : Piece × List ℕ → Piece = λ p. p.0 in
    let same : piece ≡ record { text = take (next - start) (drop start bytes); item = item } = ap f (same_Some _ _ (sym at.0 ∙ e)) in
    let len : start + length piece.text ≡ next = (let m = ap (λ (p : Piece). length p.text) same in omega (arith, m, n, less)) in
    let kind : piece.item ≡ item = ap (λ (p : Piece). p.item) same in
    let P : ℕ → Type 0 = λ k. StandFrom bytes k end pieces in record {
      pieces = pieces;
      stand = subst P len at.1;
      texts = t.1;
      text = subst IsPartOfText kind t.0;
      left = text_is bytes start end (piece ∷ pieces) at ∙ ap (λ i. text_added_by i ++ text_added pieces) kind;
    }

pub one_of : (bytes : List ℕ) (start next end : ℕ) (item : Item) → ∥ HoldText bytes start end ∥₁ → (start ≡ end → ⊥) → start < next → next ≤ length bytes
    → piece_at (drop start bytes) ≡ Some (record { text = take (next - start) (drop start bytes); item = item }, drop next bytes) → One bytes start next end item
one_of bytes start next end item hold apart less within e = record {
  text = ∥∥₁_elim hold (part_prop item) (λ h. (first h).text);
  order = ∥∥₁_elim hold (le_is_prop next end) (λ h. stand_order bytes next end (first h).pieces (first h).stand);
  hold = ∥∥₁_map hold (λ h. ((first h).pieces, (first h).stand, (first h).texts));
  left = ∥∥₁_elim hold (texts_set _ _) (λ h.
      (first h).left ∙ ap (λ cs. text_added_by item ++ cs) (sym (text_is bytes next end (first h).pieces (first h).stand)));
}
  where
    first : HoldText bytes start end → First bytes start next end item
    first h = first_of bytes start next end item apart less within e h.0 h.1 h.2

pub some_item : (bytes : List ℕ) (start end : ℕ) → ∥ HoldText bytes start end ∥₁ → (start ≡ end → ⊥) → piece_at (drop start bytes) ≡ None → ⊥
some_item bytes start end hold apart e = ∥∥₁_elim hold (λ a b. absurd a) (λ h. by_pieces h.0 h.1)
  where
    by_pieces : (pieces : List Piece) → StandFrom bytes start end pieces → ⊥
    by_pieces [] at = apart at
    by_pieces (piece ∷ pieces) at = none-some _ (sym e ∙ at.0)
