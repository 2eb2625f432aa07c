-- Pieces that stand one after another.
use Rattle.std.proofs.Common.{◌≡◌, ℕ, Bool, true, false, List, [], ◌∷◌, ◌++◌, Some, refl, sym, ◌∙◌, ap, subst, append_assoc, Option, None}
use Rattle.std.proofs.lemmas.Option.{none-some}
use Rattle.std.specs.Prelude.{option_and_then, option_map}
use Rattle.document_model.specs.Items.{Item, Piece, piece_at, when}
use Rattle.document_model.specs.Documents.{may_follow, legal}
use Rattle.document_model.proofs.Joins.{bind_some, some_same, HasByte}
use Rattle.insertions.specs.Content.{texts, items_after, Stand}
use Rattle.insertions.proofs.PieceStays.{feeds, piece_stays}

pub map_some : {A B : Type 0} (f : A → B) (x : Option A) (b : B) → option_map f x ≡ Some b → (a : A) × (x ≡ Some a) × (f a ≡ b)
map_some f None b e = absurd (none-some b e)
map_some f (Some a) b e = (a, refl, some_same (f a) b e)

pub when_true : {A : Type 0} (b : Bool) (x y : A) → when b x ≡ Some y → (b ≡ true) × (x ≡ y)
when_true true x y e = (refl, some_same x y e)
when_true false x y e = absurd (none-some y e)

-- a legal item is an item that may follow
pub record IsLegal (before : List Item) (bytes : List ℕ) (found : Piece × List ℕ) : Type 0 where
  pub piece : piece_at bytes ≡ Some found
  pub may : may_follow before found.0.item ≡ true

pub legal_is : (before : List Item) (bytes : List ℕ) (found : Piece × List ℕ) → legal before bytes ≡ Some found → IsLegal before bytes found
legal_is before bytes found e =
    let piece = bind_some _ (piece_at bytes) found e in
    let may = when_true (may_follow before piece.0.0.item) piece.0 found piece.2 in
    subst (IsLegal before bytes) may.1 (record { piece = piece.1; may = may.0 })

pub is_legal : (before : List Item) (bytes : List ℕ) (found : Piece × List ℕ) → IsLegal before bytes found → legal before bytes ≡ Some found
is_legal before bytes found l =
    ap (option_and_then (λ f. when (may_follow before f.0.item) f)) l.piece ∙ ap (λ b. when b found) l.may

pub texts_join : (p q : List Piece) → texts (p ++ q) ≡ texts p ++ texts q
texts_join [] q = refl
texts_join (piece ∷ p) q = ap (λ x. piece.text ++ x) (texts_join p q) ∙ sym (append_assoc piece.text (texts p) (texts q))

pub after_join : (p q : List Piece) (before : List Item) → items_after (p ++ q) before ≡ items_after q (items_after p before)
after_join [] q before = refl
after_join (piece ∷ p) q before = after_join p q (piece.item ∷ before)

pub after_all : (p : List Piece) (before : List Item) → items_after p before ≡ items_after p [] ++ before
after_all [] before = refl
after_all (piece ∷ p) before =
    after_all p (piece.item ∷ before) ∙ sym (append_assoc (items_after p []) (piece.item ∷ []) before) ∙ ap (λ x. x ++ before) (sym (after_all p (piece.item ∷ [])))

-- pieces and others behind them

pub stand_first : (before : List Item) (p q : List Piece) (rest : List ℕ) → Stand before (p ++ q) rest → Stand before p (texts q ++ rest)
stand_first before [] q rest s = tt
stand_first before (piece ∷ p) q rest s =
    let e : texts (p ++ q) ++ rest ≡ texts p ++ (texts q ++ rest) = ap (λ x. x ++ rest) (texts_join p q) ∙ append_assoc (texts p) (texts q) rest in
    let P : List ℕ → Type 0 = λ x. legal before (piece.text ++ x) ≡ Some (piece, x) in
    (subst P e s.0, stand_first (piece.item ∷ before) p q rest s.1)

pub stand_second : (before : List Item) (p q : List Piece) (rest : List ℕ) → Stand before (p ++ q) rest → Stand (items_after p before) q rest
stand_second before [] q rest s = s
stand_second before (piece ∷ p) q rest s = stand_second (piece.item ∷ before) p q rest s.1

pub stand_both : (before : List Item) (p q : List Piece) (rest : List ℕ) → Stand before p (texts q ++ rest) → Stand (items_after p before) q rest → Stand before (p ++ q) rest
stand_both before [] q rest s t = t
stand_both before (piece ∷ p) q rest s t =
    let e : texts (p ++ q) ++ rest ≡ texts p ++ (texts q ++ rest) = ap (λ x. x ++ rest) (texts_join p q) ∙ append_assoc (texts p) (texts q) rest in
    let P : List ℕ → Type 0 = λ x. legal before (piece.text ++ x) ≡ Some (piece, x) in
    (subst P (sym e) s.0, stand_both (piece.item ∷ before) p q rest s.1 t)

-- other bytes behind them

has_behind : (t x : List ℕ) → HasByte x → HasByte (t ++ x)
has_behind [] x h = h
has_behind (b ∷ t) x h = tt

feeds_behind : (t x y : List ℕ) → (feeds y ≡ true → feeds x ≡ true) → feeds (t ++ y) ≡ true → feeds (t ++ x) ≡ true
feeds_behind [] x y f e = f e
feeds_behind (b ∷ t) x y f e = e

pub stand_before : (before : List Item) (p : List Piece) (x y : List ℕ) → HasByte x → (feeds y ≡ true → feeds x ≡ true) → Stand before p x → Stand before p y
stand_before before [] x y h f s = tt
stand_before before (piece ∷ p) x y h f s =
    let l = legal_is before (piece.text ++ (texts p ++ x)) (piece, texts p ++ x) s.0 in
    let again = piece_stays (piece.text ++ (texts p ++ x)) (texts p ++ y) (piece, texts p ++ x) l.piece (has_behind (texts p) x h) (feeds_behind (texts p) x y f) in
    (is_legal before (piece.text ++ (texts p ++ y)) (piece, texts p ++ y) (record { piece = again; may = l.may }), stand_before (piece.item ∷ before) p x y h f s.1)
