-- The item at the front of bytes, by its kind, its end, its characters and its whole text.
use Rattle.std.proofs.Common.{◌≡◌, ◌<◌, ℕ, zero, suc, ◌+◌, ◌-◌, List, [], take, drop, Option, Some, None, option_and_then, refl, sym, ap, ◌∙◌, arith}
use Rattle.std.proofs.lemmas.List.{drop-drop}
use Rattle.std.specs.Str.{chars}
use Rattle.std.proofs.lemmas.Str.{chars-nil}
use Rattle.document_model.specs.Characters.{characters}
use Rattle.document_model.specs.Items.{Item, Kind, CommentKind, CdataKind, InstructionKind, EndTagKind, TagKind, ReferenceKind, CharacterKind, Piece, kind_at, cut, item_of, piece_at}

abbrev pub with_item : List ℕ × List ℕ → Option Item → Option (Piece × List ℕ)
with_item parts found = option_and_then (λ item. Some (record { text = parts.0; item = item }, parts.1)) found

abbrev pub with_parts : Kind → List ℕ × List ℕ → Option (Piece × List ℕ)
with_parts kind parts = option_and_then (λ text. with_item parts (item_of kind text)) (characters parts.0)

piece_by : (rest : List ℕ) → piece_at rest ≡ with_parts (kind_at rest) (cut (kind_at rest) rest)
unfolding piece_at
piece_by rest = refl

pub piece_cut : (rest : List ℕ) (kind : Kind) (n : ℕ) → kind ≡ kind_at rest → cut kind rest ≡ (take n rest, drop n rest) → piece_at rest ≡ with_parts kind (take n rest, drop n rest)
piece_cut rest kind n k e = piece_by rest ∙ ap (λ x. with_parts x (cut x rest)) (sym k) ∙ ap (with_parts kind) e

pub no_piece : (rest : List ℕ) (kind : Kind) (n : ℕ) → kind ≡ kind_at rest → cut kind rest ≡ (take n rest, drop n rest) → characters (take n rest) ≡ None → piece_at rest ≡ None
no_piece rest kind n k e c = piece_cut rest kind n k e ∙ ap (λ x. option_and_then (λ text. with_item (take n rest, drop n rest) (item_of kind text)) x) c

pub piece_of : (rest text : List ℕ) (kind : Kind) (n : ℕ) (found : Option Item) → kind ≡ kind_at rest → cut kind rest ≡ (take n rest, drop n rest) → characters (take n rest) ≡ Some text → item_of kind text ≡ found
    → piece_at rest ≡ with_item (take n rest, drop n rest) found
piece_of rest text kind n found k e c f =
    piece_cut rest kind n k e ∙ ap (λ x. option_and_then (λ text. with_item (take n rest, drop n rest) (item_of kind text)) x) c ∙ ap (with_item (take n rest, drop n rest)) f

pub same_places : (at n : ℕ) (bytes : List ℕ) (item : Item) → ◌≡◌ {A = Piece × List ℕ}
    (record { text = take n (drop at bytes); item = item }, drop n (drop at bytes)) (record { text = take (at + n - at) (drop at bytes); item = item }, drop (at + n) bytes)
same_places at n bytes item = let m : at + n - at ≡ n = omega arith in rw (m, drop-drop n at bytes) refl

no_empty_item : (kind : Kind) → item_of kind [] ≡ None
no_empty_item CommentKind = refl
no_empty_item CdataKind = refl
no_empty_item InstructionKind = refl
no_empty_item EndTagKind = refl
no_empty_item TagKind = refl
no_empty_item ReferenceKind = refl
no_empty_item CharacterKind = refl

-- an item has a byte at least
pub item_has : (kind : Kind) (bytes text : List ℕ) (n : ℕ) (item : Item) → text ≡ take n bytes → item_of kind (chars text) ≡ Some item → 0 < n
item_has kind bytes text zero item e f =
    let none : item_of kind (chars text) ≡ None = ap (λ x. item_of kind (chars x)) e ∙ ap (item_of kind) chars-nil ∙ no_empty_item kind in
    absurd cc
item_has kind bytes text (suc n) item e f = omega arith
