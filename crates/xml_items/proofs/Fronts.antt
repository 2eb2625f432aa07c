-- A walk over a text, character by character.
use Rattle.std.proofs.Common.{◌≡◌, ℕ, ◌+◌, ◌-◌, ◌<◌, Bool, true, false, List, [], ◌∷◌, ◌++◌, length, take, drop, get_or, refl, sym, ap, ◌∙◌, subst, append_assoc, arith, length-append, ◌≤◌, length-drop}
use Rattle.std.specs.Str.{IsUtf8, chars, IsCharBoundary}
use Rattle.std.specs.Char.{encode_utf8}
use Rattle.std.proofs.Math.Seq.{take-append_seam, drop-append_seam}
use Rattle.std.proofs.lemmas.Bool.{and_parts, and_from}
use Rattle.std.proofs.lemmas.List.{append-nil, drop_more}
use Rattle.std.proofs.lemmas.Str.{chars-nil, chars-append, chars_past_char, scalars-chars, IsUtf8-append, IsUtf8-nil, IsCharBoundary-at_seam, encode_ascii}
use lib.Utf8.{scalars}
use Rattle.document_model.specs.Characters.{span}
use Rattle.xml_items.proofs.AsciiTexts.{utf8_behind}

-- a character at the front of a text is text
pub first_utf8 : (rest next : List ℕ) (c : ℕ) → IsUtf8 rest → rest ≡ encode_utf8 c ++ next → IsUtf8 (encode_utf8 c)
first_utf8 rest next c u e =
    let s : scalars (c ∷ chars next) ≡ true = subst (λ (x : List ℕ). scalars x ≡ true) (chars_past_char rest next c u e) (scalars-chars rest u) in
    (c ∷ [], (and_from _ _ (and_parts _ _ s).0 refl, append-nil (encode_utf8 c)))

-- rest is what is left of text behind characters that all pass
pub record Passed (p : ℕ → Bool) (text rest : List ℕ) : Type 0 where
  pub front : List ℕ
  pub joined : front ++ rest ≡ text
  pub utf8 : IsUtf8 front
  pub passed : span p (chars text) ≡ (chars front ++ (span p (chars rest)).0, (span p (chars rest)).1)

pub passed_none : (p : ℕ → Bool) (text rest : List ℕ) → rest ≡ text → Passed p text rest
passed_none p text rest e = record { front = []; joined = e; utf8 = IsUtf8-nil; passed = rw (e, chars-nil) refl }

pub chars_with_last : (front rest next : List ℕ) (c : ℕ) → IsUtf8 front → IsUtf8 rest → rest ≡ encode_utf8 c ++ next → chars (front ++ encode_utf8 c) ≡ chars front ++ c ∷ []
chars_with_last front rest next c u v e =
    chars-append front (encode_utf8 c) u
    ∙ ap (λ cs. chars front ++ cs) (chars_past_char (encode_utf8 c) [] c (first_utf8 rest next c v e) (sym (append-nil (encode_utf8 c))) ∙ ap (λ cs. c ∷ cs) chars-nil)

pub passed_more : (p : ℕ → Bool) (text rest next : List ℕ) (c : ℕ) → Passed p text rest → IsUtf8 rest → rest ≡ encode_utf8 c ++ next → p c ≡ true → Passed p text next
passed_more p text rest next c w u e h =
    let r : chars rest ≡ c ∷ chars next = chars_past_char rest next c u e in
    let f : chars (w.front ++ encode_utf8 c) ≡ chars w.front ++ c ∷ [] = chars_with_last w.front rest next c w.utf8 u e in
    let step : span p (c ∷ chars next) ≡ (c ∷ (span p (chars next)).0, (span p (chars next)).1) = rw h refl in
    record {
      front = w.front ++ encode_utf8 c;
      joined = append_assoc w.front (encode_utf8 c) next ∙ ap (λ x. w.front ++ x) (sym e) ∙ w.joined;
      utf8 = IsUtf8-append w.front (encode_utf8 c) w.utf8 (first_utf8 rest next c u e);
      passed = w.passed ∙ ap (λ x. (chars w.front ++ (span p x).0, (span p x).1)) r ∙ ap (λ x. (chars w.front ++ x.0, x.1)) step
          ∙ ap (λ x. (x, (span p (chars next)).1)) (sym (append_assoc (chars w.front) (c ∷ []) (span p (chars next)).0) ∙ ap (λ x. x ++ (span p (chars next)).0) (sym f));
    }

-- the same of one byte, which is an ASCII character
pub passed_byte : (p : ℕ → Bool) (text : List ℕ) (at : ℕ) → at < length text → get_or text at 0 < 128 → p (get_or text at 0) ≡ true → Passed p text (drop at text) → IsUtf8 (drop at text)
    → Passed p text (drop (at + 1) text) × IsUtf8 (drop (at + 1) text)
passed_byte p text at within ascii h w u =
    let x = get_or text at 0 in
    let next = drop (at + 1) text in
    let e : drop at text ≡ encode_utf8 x ++ next = drop_more text at 0 within ∙ ap (λ xs. xs ++ next) (sym (encode_ascii x ascii)) in (
      passed_more p text (drop at text) next x w u e h,
      utf8_behind (encode_utf8 x) next (subst IsUtf8 e u) (first_utf8 (drop at text) next x u e),
    )

-- the run ends at rest: nothing is left, or a character that doesn't pass
pub stops_at_end : (p : ℕ → Bool) (rest : List ℕ) → length rest ≡ 0 → span p (chars rest) ≡ ([], chars rest)
stops_at_end p [] e = rw chars-nil refl
stops_at_end p (c ∷ cs) e = absurd (omega arith)

pub stops_before : (p : ℕ → Bool) (rest next : List ℕ) (c : ℕ) → IsUtf8 rest → rest ≡ encode_utf8 c ++ next → p c ≡ false → span p (chars rest) ≡ ([], chars rest)
stops_before p rest next c u e h = rw (chars_past_char rest next c u e, h) refl

pub front_length : (p : ℕ → Bool) (text rest : List ℕ) (w : Passed p text rest) → length text - length rest ≡ length w.front
front_length p text rest w = omega (arith, ap length w.joined, length-append w.front rest)

pub passed_boundary : (p : ℕ → Bool) (text rest : List ℕ) → Passed p text rest → IsUtf8 rest → IsCharBoundary text (length text - length rest)
passed_boundary p text rest w u = subst (IsCharBoundary text) (sym (front_length p text rest w)) (IsCharBoundary-at_seam text w.front rest (sym w.joined) u)

pub front_split : (p : ℕ → Bool) (text rest : List ℕ) (w : Passed p text rest) → (take (length text - length rest) text ≡ w.front) × (drop (length text - length rest) text ≡ rest)
front_split p text rest w = rw (front_length p text rest w, ← w.joined) (take-append_seam w.front rest, drop-append_seam w.front rest)

pub passed_all : (p : ℕ → Bool) (text rest : List ℕ) → Passed p text rest → span p (chars rest) ≡ ([], chars rest)
    → span p (chars text) ≡ (chars (take (length text - length rest) text), chars (drop (length text - length rest) text))
passed_all p text rest w e =
    let s = front_split p text rest w in
    w.passed ∙ ap (λ x. (chars w.front ++ x.0, x.1)) e ∙ ap (λ x. (x, chars rest)) (append-nil (chars w.front))
    ∙ (λ i. (chars (sym s.0 i), chars (sym s.1 i)))

-- the run ends at this byte, an ASCII character that doesn't pass
pub stops_at_byte : (p : ℕ → Bool) (text : List ℕ) (at : ℕ) → at < length text → get_or text at 0 < 128 → p (get_or text at 0) ≡ false → IsUtf8 (drop at text) → span p (chars (drop at text)) ≡ ([], chars (drop at text))
stops_at_byte p text at within ascii h u =
    let x = get_or text at 0 in
    let next = drop (at + 1) text in
    stops_before p (drop at text) next x u (drop_more text at 0 within ∙ ap (λ xs. xs ++ next) (sym (encode_ascii x ascii))) h

-- behind the last byte
pub stops_behind : (p : ℕ → Bool) (text : List ℕ) (at : ℕ) → length text ≤ at → span p (chars (drop at text)) ≡ ([], chars (drop at text))
stops_behind p text at behind = stops_at_end p (drop at text) (omega (arith, behind, length-drop at text))

-- where the run ends at a place, the text is cut there
pub passed_at : (p : ℕ → Bool) (text : List ℕ) (at : ℕ) → at ≤ length text → Passed p text (drop at text) → span p (chars (drop at text)) ≡ ([], chars (drop at text))
    → span p (chars text) ≡ (chars (take at text), chars (drop at text))
passed_at p text at within w e =
    let place : length text - length (drop at text) ≡ at = omega (arith, within, length-drop at text) in
    subst (λ (k : ℕ). span p (chars text) ≡ (chars (take k text), chars (drop k text))) place (passed_all p text (drop at text) w e)
