-- Items that are known by a byte or two, where they stand in bytes.
use Rattle.std.proofs.Common.{◌≡◌, ℕ, ◌+◌, ◌-◌, ◌<◌, List, ◌∷◌, length, take, drop, get_or, true, sym, ◌∙◌, ap, arith, Option, Some}
use Rattle.std.proofs.lemmas.List.{drop_more}
use Rattle.document_model.specs.Items.{Item, Piece, character, piece_at}
use Rattle.xml_items.specs.Runs.{is_ordinary}
use Rattle.xml_items.proofs.OrdinaryCharacters.{ordinary_piece, line_end_piece}

abbrev found : Item → List ℕ → List ℕ → Option (Piece × List ℕ)
found item behind text = Some (record { text = text; item = item }, behind)

-- the text of an item of n bytes
text_of : (bytes : List ℕ) (at n : ℕ) → take n (drop at bytes) ≡ take (at + n - at) (drop at bytes)
text_of bytes at n = let m : at + n - at ≡ n = omega arith in ap (λ k. take k (drop at bytes)) (sym m)

pub ordinary_at : (bytes : List ℕ) (at : ℕ) → at < length bytes → is_ordinary (get_or bytes at 0) ≡ true
    → piece_at (drop at bytes) ≡ Some (record { text = take (at + 1 - at) (drop at bytes); item = character (get_or bytes at 0) }, drop (at + 1) bytes)
ordinary_at bytes at within ordinary =
    let b : ℕ = get_or bytes at 0 in
    let behind : List ℕ = drop (at + 1) bytes in
    let here : drop at bytes ≡ b ∷ behind = drop_more bytes at 0 within in
    ap piece_at here ∙ ordinary_piece b behind ordinary ∙ ap (found (character b) behind) (sym (ap (take 1) here) ∙ text_of bytes at 1)

pub line_end_at : (bytes : List ℕ) (at : ℕ) → at + 1 < length bytes → get_or bytes at 0 ≡ 0xD → get_or bytes (at + 1) 0 ≡ 0xA
    → piece_at (drop at bytes) ≡ Some (record { text = take (at + 2 - at) (drop at bytes); item = character 0xA }, drop (at + 2) bytes)
line_end_at bytes at within first second =
    let behind : List ℕ = drop (at + 2) bytes in
    let here : drop at bytes ≡ 0xD ∷ 0xA ∷ behind =
    drop_more bytes at 0 (omega (arith, within)) ∙ ap (λ b. b ∷ drop (at + 1) bytes) first
    ∙ ap (λ rest. 0xD ∷ rest) (drop_more bytes (at + 1) 0 within ∙ ap (λ b. b ∷ drop (at + 1 + 1) bytes) second ∙ ap (λ n. 0xA ∷ drop n bytes) (two at)) in
    ap piece_at here ∙ line_end_piece behind ∙ ap (found (character 0xA) behind) (sym (ap (take 2) here) ∙ text_of bytes at 2)
  where
    two : (n : ℕ) → n + 1 + 1 ≡ n + 2
    two n = omega arith
