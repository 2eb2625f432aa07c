-- The texts of a run and its rest are the bytes.
use Rattle.std.proofs.Common.{◌≡◌, ℕ, zero, suc, Bool, true, false, cond, ◌&&◌, List, [], ◌∷◌, ◌++◌, length, take, drop, Option, Some, None, refl, sym, ◌∙◌, ap, subst, nat_eq, append_assoc, codes}
use Rattle.std.proofs.lemmas.List.{take-append-drop}
use Rattle.std.proofs.lemmas.Option.{none-some}
use Rattle.std.specs.Prelude.{option_and_then, flat_map}
use Rattle.std.specs.Option.{option_map_or}
use Rattle.std.specs.List.{starts_with}
use Rattle.std.specs.Cmp.Lexicographic.{same_text}
use Rattle.document_model.specs.Characters.{characters}
use Rattle.document_model.specs.Items.{Item, Piece, Kind, CommentKind, CdataKind, InstructionKind, EndTagKind, TagKind, ReferenceKind, CharacterKind, kind_at, through, through_after, through_tag, is_quote, character_len, cut, item_of, piece_at, when}
use Rattle.document_model.specs.Documents.{Limits, Run, legal, legal_within, run_of, stopped}

pub some_same : {A : Type 0} (a b : A) → Some a ≡ Some b → a ≡ b
some_same a b e = ap (λ o. option_map_or (λ x. x) o b) e

pub bind_some : {A B : Type 0} (f : A → Option B) (x : Option A) (y : B) → option_and_then f x ≡ Some y → (a : A) × (x ≡ Some a) × (f a ≡ Some y)
bind_some f None y e = absurd (none-some _ e)
bind_some f (Some a) y e = (a, refl, e)

pub when_some : {A : Type 0} (b : Bool) (x y : A) → when b x ≡ Some y → x ≡ y
when_some true x y e = some_same x y e
when_some false x y e = absurd (none-some _ e)

-- by the way that a test goes
pub by_test : {A : Type 0} (P : A → Type 0) (b : Bool) (x y : A) → (b ≡ true → P x) → (b ≡ false → P y) → P (cond b x y)
by_test P true x y h k = h refl
by_test P false x y h k = k refl

abbrev pub Joins : List ℕ → List ℕ × List ℕ → Type 0
Joins bytes parts = parts.0 ++ parts.1 ≡ bytes

pub through_joins : (close bytes : List ℕ) → Joins bytes (through close bytes)
through_joins close [] = refl
through_joins close (b ∷ bytes) = by_test (Joins (b ∷ bytes)) (starts_with nat_eq (b ∷ bytes) close) _ _
    (λ e. let front : close ≡ take (length close) (b ∷ bytes) = same_text _ _ (sym e) in
    ap (λ x. x ++ drop (length close) (b ∷ bytes)) front ∙ take-append-drop (length close) (b ∷ bytes))
    (λ e. ap (λ x. b ∷ x) (through_joins close bytes))

through_after_joins : (n : ℕ) (close bytes : List ℕ) → Joins bytes (through_after n close bytes)
through_after_joins n close bytes =
    append_assoc (take n bytes) (through close (drop n bytes)).0 (through close (drop n bytes)).1
    ∙ ap (λ x. take n bytes ++ x) (through_joins close (drop n bytes)) ∙ take-append-drop n bytes

through_tag_joins : (quote : Option ℕ) (bytes : List ℕ) → Joins bytes (through_tag quote bytes)
through_tag_joins quote [] = refl
through_tag_joins None (b ∷ bytes) = by_test (Joins (b ∷ bytes)) (nat_eq b 0x3E) _ _ (λ e. refl)
    (λ e. ap (λ x. b ∷ x) (through_tag_joins (cond (is_quote b) (Some b) None) bytes))
through_tag_joins (Some quote) (b ∷ bytes) = ap (λ x. b ∷ x) (through_tag_joins (cond (nat_eq b quote) None (Some quote)) bytes)

pub cut_joins : (kind : Kind) (bytes : List ℕ) → Joins bytes (cut kind bytes)
cut_joins CommentKind bytes = through_after_joins 4 (codes "-->") bytes
cut_joins CdataKind bytes = through_after_joins 9 (codes "]]>") bytes
cut_joins InstructionKind bytes = through_after_joins 2 (codes "?>") bytes
cut_joins EndTagKind bytes = through_joins (codes ">") bytes
cut_joins TagKind bytes = through_tag_joins None bytes
cut_joins ReferenceKind bytes = through_joins (codes ";") bytes
cut_joins CharacterKind bytes = take-append-drop (character_len bytes) bytes

abbrev pub PieceJoins : List ℕ → Piece × List ℕ → Type 0
PieceJoins bytes found = found.0.text ++ found.1 ≡ bytes

pub piece_joins : (bytes : List ℕ) (found : Piece × List ℕ) → piece_at bytes ≡ Some found → PieceJoins bytes found
unfolding piece_at
piece_joins bytes found e =
    let text = bind_some _ (characters (cut (kind_at bytes) bytes).0) found e in
    let item = bind_some _ (item_of (kind_at bytes) text.0) found text.2 in
    subst (PieceJoins bytes) (some_same _ found item.2) (cut_joins (kind_at bytes) bytes)

pub legal_joins : (before : List Item) (bytes : List ℕ) (found : Piece × List ℕ) → legal before bytes ≡ Some found → PieceJoins bytes found
legal_joins before bytes found e =
    let piece = bind_some _ (piece_at bytes) found e in
    subst (PieceJoins bytes) (when_some _ piece.0 found piece.2) (piece_joins bytes piece.0 piece.1)

pub legal_within_joins : (most : Limits) (before : List Item) (bytes : List ℕ) (found : Piece × List ℕ) → legal_within most before bytes ≡ Some found → PieceJoins bytes found
legal_within_joins most before bytes found e =
    let piece = bind_some _ (legal before bytes) found e in
    subst (PieceJoins bytes) (when_some _ piece.0 found piece.2) (legal_joins before bytes piece.0 piece.1)

pub by_option : {A B : Type 0} (P : B → Type 0) (f : A → B) (o : Option A) (d : B) → ((x : A) → o ≡ Some x → P (f x)) → (o ≡ None → P d) → P (option_map_or f o d)
by_option P f None d h k = k refl
by_option P f (Some x) d h k = h x refl

abbrev RunJoins : List ℕ → Run → Type 0
RunJoins bytes run = flat_map (λ piece. piece.text) run.pieces ++ run.rest ≡ bytes

-- the texts of the pieces, and the rest
pub run_joins : (most : Limits) (n : ℕ) (before : List Item) (bytes : List ℕ) → RunJoins bytes (run_of most n before bytes)
run_joins most zero before bytes = refl
run_joins most (suc n) before bytes = by_option (RunJoins bytes) _ (legal_within most before bytes) (stopped before bytes)
    (λ found e. append_assoc found.0.text _ _
    ∙ ap (λ x. found.0.text ++ x) (run_joins most n (found.0.item ∷ before) found.1)
    ∙ legal_within_joins most before bytes found e)
    (λ e. refl)

-- An item has a byte at least, so the bound on the number of items is never met.

abbrev pub HasByte : List ℕ → Type 0
HasByte [] = ⊥
HasByte (b ∷ bytes) = Unit {0}

abbrev pub FirstHasByte : List ℕ × List ℕ → Type 0
FirstHasByte parts = HasByte parts.0

through_has : (c : ℕ) (close : List ℕ) (b : ℕ) (bytes : List ℕ) → FirstHasByte (through (c ∷ close) (b ∷ bytes))
through_has c close b bytes = by_test FirstHasByte (starts_with nat_eq (b ∷ bytes) (c ∷ close)) _ _ (λ e. tt) (λ e. tt)

character_has : (b : ℕ) (bytes : List ℕ) → HasByte (take (character_len (b ∷ bytes)) (b ∷ bytes))
character_has b [] = tt
character_has b (c ∷ bytes) = let P : ℕ → Type 0 = λ n. HasByte (take n (b ∷ c ∷ bytes)) in
    by_test P (nat_eq b 0xD && nat_eq c 0xA) _ _ (λ e. tt) (λ e. tt)

pub cut_has : (kind : Kind) (b : ℕ) (bytes : List ℕ) → FirstHasByte (cut kind (b ∷ bytes))
cut_has CommentKind b bytes = tt
cut_has CdataKind b bytes = tt
cut_has InstructionKind b bytes = tt
cut_has EndTagKind b bytes = through_has 0x3E [] b bytes
cut_has TagKind b bytes = by_test FirstHasByte (nat_eq b 0x3E) _ _ (λ e. tt) (λ e. tt)
cut_has ReferenceKind b bytes = through_has 0x3B [] b bytes
cut_has CharacterKind b bytes = character_has b bytes
