-- The pieces of a legal run may stand one after another.
use Rattle.std.proofs.Common.{◌≡◌, ℕ, zero, suc, pred, ◌<◌, Bool, true, false, not, ◌&&◌, List, [], ◌∷◌, length, drop, Some, refl, sym, ◌∙◌, ap, subst, arith}
use Rattle.std.proofs.lemmas.Option.{none-some}
use Rattle.std.specs.Str.{is_utf8, chars}
use Rattle.document_model.specs.Names.{Name}
use Rattle.document_model.specs.Characters.{characters, is_empty}
use Rattle.document_model.specs.Items.{Item, Piece, declaration, start_tag, empty_tag, end_tag, character, reference, cdata, comment, instruction, kind_at, cut, item_of, piece_at, when}
use Rattle.document_model.specs.Tree.{depth}
use Rattle.document_model.specs.Scopes.{Tag}
use Rattle.document_model.specs.Documents.{open_elements, is_character, byte_order_mark, is_beginning, closes, may_follow, Limits, Run, legal, legal_within, run_of, run, stopped, limits}
use Rattle.document_model.specs.Places.{places_of}
use Rattle.document_model.proofs.Joins.{bind_some, when_some, some_same, HasByte, cut_has, by_option}
use Rattle.doc_spans.specs.Marks.{items_of, places_after, Fits, Follow}
use Rattle.doc_spans.proofs.Marks.{HaveBytes, onto, places_forward}

when_true : {A : Type 0} (b : Bool) (x y : A) → when b x ≡ Some y → b ≡ true
when_true true x y e = refl
when_true false x y e = absurd (none-some y e)

tail_length : (tags : List Tag) → length (drop 1 tags) ≡ pred (length tags)
tail_length [] = refl
tail_length (tag ∷ tags) = refl

pub opens : (before : List Item) → depth before ≡ length (open_elements before)
opens [] = refl
opens (start_tag name attributes ∷ before) = ap suc (opens before)
opens (end_tag name ∷ before) = ap pred (opens before) ∙ sym (tail_length (open_elements before))
opens (declaration ∷ before) = opens before
opens (empty_tag name attributes ∷ before) = opens before
opens (character c ∷ before) = opens before
opens (reference c ∷ before) = opens before
opens (cdata cs ∷ before) = opens before
opens (comment cs ∷ before) = opens before
opens (instruction target content ∷ before) = opens before

some_open : (tags : List Tag) → not (is_empty tags) ≡ true → 0 < length tags
some_open [] e = cc
some_open (tag ∷ tags) e = omega arith

some_closed : (name : Name) (tags : List Tag) → closes name tags ≡ true → 0 < length tags
some_closed name [] e = cc
some_closed name (tag ∷ tags) e = omega arith

inner : (before : List Item) → 0 < length (open_elements before) → 0 < depth before
inner before h = let e = opens before in omega (arith, e, h)

one_character : (b : Bool) → (b && false) ≡ true → ⊥
one_character true e = cc
one_character false e = cc

begins : (before : List Item) → is_beginning before ≡ true → depth before ≡ 0
begins [] e = refl
begins (character c ∷ []) e = refl
begins (declaration ∷ []) e = refl
begins (empty_tag name attributes ∷ []) e = refl
begins (reference c ∷ []) e = refl
begins (cdata cs ∷ []) e = refl
begins (comment cs ∷ []) e = refl
begins (instruction target content ∷ []) e = refl
begins (end_tag name ∷ []) e = refl
begins (start_tag name attributes ∷ []) e = cc
begins (item ∷ next ∷ before) e = absurd (one_character (is_character byte_order_mark (item ∷ next ∷ before)) e)

pub fits : (before : List Item) (item : Item) → may_follow before item ≡ true → Fits before item
fits before declaration e = begins before e
fits before (start_tag name attributes) e = tt
fits before (empty_tag name attributes) e = tt
fits before (end_tag name) e = inner before (some_closed name (open_elements before) e)
fits before (character c) e = tt
fits before (reference c) e = inner before (some_open (open_elements before) e)
fits before (cdata cs) e = inner before (some_open (open_elements before) e)
fits before (comment cs) e = tt
fits before (instruction target content) e = tt

some_byte : (text : List ℕ) → HasByte text → 0 < length text
some_byte [] h = absurd h
some_byte (b ∷ text) h = omega arith

pub piece_has : (bytes : List ℕ) (found : Piece × List ℕ) → piece_at bytes ≡ Some found → 0 < length found.0.text
unfolding piece_at is_utf8 chars
piece_has [] found e = absurd (none-some found e)
piece_has (b ∷ bytes) found e =
    let text = bind_some _ (characters (cut (kind_at (b ∷ bytes)) (b ∷ bytes)).0) found e in
    let item = bind_some _ (item_of (kind_at (b ∷ bytes)) text.0) found text.2 in
    let P : Piece × List ℕ → Type 0 = λ f. 0 < length f.0.text in
    subst P (some_same _ found item.2) (some_byte _ (cut_has (kind_at (b ∷ bytes)) b bytes))

-- a legal item has a byte, and may follow
pub legal_piece : (most : Limits) (before : List Item) (bytes : List ℕ) (found : Piece × List ℕ) → legal_within most before bytes ≡ Some found
    → (0 < length found.0.text) × Fits before found.0.item
legal_piece most before bytes found e =
    let legal_one = bind_some _ (legal before bytes) found e in
    let same = when_some _ legal_one.0 found legal_one.2 in
    let piece = bind_some _ (piece_at bytes) legal_one.0 legal_one.1 in
    let again = when_some _ piece.0 legal_one.0 piece.2 in
    let P : Piece × List ℕ → Type 0 = λ f. (0 < length f.0.text) × Fits before f.0.item in
    subst P (again ∙ same) (piece_has bytes piece.0 piece.1, fits before piece.0.0.item (when_true _ piece.0 legal_one.0 piece.2))

-- what holds of a run
pub record IsGood (pieces : List Piece) (run : Run) : Type 0 where
  pub bytes : HaveBytes run.pieces
  pub follow : Follow (items_of (onto run.pieces pieces))
  pub before : items_of (onto run.pieces pieces) ≡ run.before

pub run_good : (most : Limits) (n : ℕ) (pieces : List Piece) (bytes : List ℕ) → Follow (items_of pieces) → IsGood pieces (run_of most n (items_of pieces) bytes)
run_good most zero pieces bytes h = record { bytes = tt; follow = h; before = refl }
run_good most (suc n) pieces bytes h = by_option (IsGood pieces) _ (legal_within most (items_of pieces) bytes) (stopped (items_of pieces) bytes)
    (λ found e. let one = legal_piece most (items_of pieces) bytes found e in
    let others = run_good most n (found.0 ∷ pieces) found.1 (one.1, h) in
    record { bytes = (one.0, others.bytes); follow = others.follow; before = others.before })
    (λ e. record { bytes = tt; follow = h; before = refl })

-- The places of a document are those of the pieces of its run.
pub places_of_run : (bytes : List ℕ) → places_of bytes ≡ places_after (onto (run limits bytes).pieces [])
places_of_run bytes = places_forward (run limits bytes).pieces (run_good limits (length bytes) [] bytes tt).bytes
