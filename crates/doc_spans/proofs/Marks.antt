-- The places told from the first piece on are those of the document.
use Rattle.std.proofs.Common.{◌≡◌, ℕ, ◌+◌, ◌<◌, ◌≤◌, Bool, true, false, cond, ◌&&◌, List, [], ◌∷◌, ◌++◌, length, refl, sym, ◌∙◌, ap, arith, nat_eq, append_assoc, inl, inr}
use Rattle.std.proofs.lemmas.Bool.Decides.{eqb_tells}
use Rattle.std.proofs.lemmas.List.{append-nil}
use Rattle.std.specs.Prelude.{map}
use Rattle.document_model.specs.Items.{Piece}
use Rattle.document_model.specs.Tree.{Path}
use Rattle.document_model.specs.NodeSets.{is_within}
use Rattle.document_model.specs.Places.{Place, path_of, begins_node, extent, place_of, places_from}
use Rattle.doc_spans.specs.Marks.{size, items_of, gone_on, begun, places_after}
use Rattle.doc_spans.proofs.Each.{each_append, each_map, map_same, map_map, map_join}
use Rattle.doc_spans.specs.View.{Each}

-- each piece has a byte at least
abbrev pub HaveBytes : List Piece → Type 0
HaveBytes [] = Unit {0}
HaveBytes (piece ∷ pieces) = (0 < length piece.text) × HaveBytes pieces

-- pieces, in order, behind others, the last one first
abbrev pub onto : List Piece → List Piece → List Piece
onto [] before = before
onto (piece ∷ pieces) before = onto pieces (piece ∷ before)

abbrev pub EndsBy : ℕ → Place → Type 0
EndsBy at place = place.end ≤ at

-- no place ends behind the pieces
pub ended : (before : List Piece) → Each (EndsBy (size before)) (places_after before)
ended [] = tt
ended (piece ∷ before) = by_start (begins_node (items_of before) piece.item) _ (each_map (EndsBy (size before)) (EndsBy (size (piece ∷ before))) _ further (places_after before) (ended before))
  where
    either : (b : Bool) (place : Place) → place.end ≤ size before → EndsBy (size (piece ∷ before)) (cond b (record place { end = size (piece ∷ before) }) place)
    either true place h = omega arith
    either false place h = omega arith

    further : (place : Place) → EndsBy (size before) place → EndsBy (size (piece ∷ before)) (gone_on (path_of (items_of before) piece.item) (size before) (size (piece ∷ before)) place)
    further place h = either (is_within place.path (path_of (items_of before) piece.item) && nat_eq place.end (size before)) place h

    by_start : (b : Bool) (old : List Place) → Each (EndsBy (size (piece ∷ before))) old → Each (EndsBy (size (piece ∷ before))) (cond b (old ++ begun before piece ∷ []) old)
    by_start true old h = each_append (EndsBy (size (piece ∷ before))) old (begun before piece ∷ []) h (omega arith, tt)
    by_start false old h = h

-- a place that ends where the pieces before do ends behind those that go on with it
abbrev stretched : ℕ → (Path → ℕ) → Place → Place
stretched at more place = cond (nat_eq place.end at) (record place { end = at + more place.path }) place

pub eq_self : (n : ℕ) → nat_eq n n ≡ true
eq_self n = elim (eqb_tells n n) [ inl t ↦ t.0 | inr t ↦ absurd (t.1 refl) ]

differ : (a b : ℕ) → a < b → nat_eq a b ≡ false
differ a b h = elim (eqb_tells a b) [ inl t ↦ absurd (omega (arith, t.1)) | inr t ↦ t.0 ]

one_piece : (within : Bool) (place : Place) (at len : ℕ) (more : Path → ℕ) → place.end ≤ at → 0 < len
    → stretched (at + len) more (cond (within && nat_eq place.end at) (record place { end = at + len }) place)
    ≡ stretched at (λ path. cond within (len + more path) 0) place
one_piece within place at len more h some = elim (eqb_tells place.end at) [
  | inl t ↦ here within t.0 t.1
  | inr t ↦ there within t.0
]
  where
    past : nat_eq place.end (at + len) ≡ false
    past = differ place.end (at + len) (omega arith)

    unchanged : stretched (at + len) more place ≡ place
    unchanged = ap (λ t. cond t (record place { end = at + len + more place.path }) place) past

    here : (w : Bool) → nat_eq place.end at ≡ true → place.end ≡ at
        → stretched (at + len) more (cond (w && nat_eq place.end at) (record place { end = at + len }) place) ≡ stretched at (λ path. cond w (len + more path) 0) place
    here true t e =
        ap (λ b. stretched (at + len) more (cond b (record place { end = at + len }) place)) t
        ∙ ap (λ b. cond b (record place { end = at + len + more place.path }) (record place { end = at + len })) (eq_self (at + len))
        ∙ ap (λ n. record place { end = n }) (let a : at + len + more place.path ≡ at + (len + more place.path) = omega arith in a)
        ∙ sym (ap (λ b. cond b (record place { end = at + (len + more place.path) }) place) t)
    here false t e =
        unchanged
        ∙ ap (λ n. record place { end = n }) (let a : place.end ≡ at + 0 = omega (arith, e) in a)
        ∙ sym (ap (λ b. cond b (record place { end = at + 0 }) place) t)

    there : (w : Bool) → nat_eq place.end at ≡ false
        → stretched (at + len) more (cond (w && nat_eq place.end at) (record place { end = at + len }) place) ≡ stretched at (λ path. cond w (len + more path) 0) place
    there true t =
        ap (λ b. stretched (at + len) more (cond b (record place { end = at + len }) place)) t ∙ unchanged
        ∙ sym (ap (λ b. cond b (record place { end = at + (len + more place.path) }) place) t)
    there false t = unchanged ∙ sym (ap (λ b. cond b (record place { end = at + 0 }) place) t)

pub within_self : (path : Path) → is_within path path ≡ true
within_self [] = refl
within_self (k ∷ path) = ap (λ b. b && is_within path path) (eq_self k) ∙ within_self path

abbrev onwards : List Piece → List Piece → Place → Place
onwards before pieces = stretched (size before) (λ path. extent path (items_of before) pieces)

nothing_more : (before : List Piece) (place : Place) → onwards before [] place ≡ place
nothing_more before place = elim (eqb_tells place.end (size before)) [
  | inl t ↦ ap (λ b. cond b (record place { end = size before + 0 }) place) t.0
      ∙ ap (λ n. record place { end = n }) (let a : size before + 0 ≡ place.end = omega (arith, t.1) in a)
  | inr t ↦ ap (λ b. cond b (record place { end = size before + 0 }) place) t.0
]

pub all_true : {X : Type 0} (xs : List X) → Each (λ x. Unit {0}) xs
all_true [] = tt
all_true (x ∷ xs) = (tt, all_true xs)

map_id : {X : Type 0} (xs : List X) → map (λ x. x) xs ≡ xs
map_id [] = refl
map_id (x ∷ xs) = ap (λ ys. x ∷ ys) (map_id xs)

new_place : (before : List Piece) (piece : Piece) (pieces : List Piece)
    → onwards (piece ∷ before) pieces (begun before piece) ≡ place_of (items_of before) (size before) piece pieces
new_place before piece pieces =
    let path = path_of (items_of before) piece.item in
    let more = extent path (piece.item ∷ items_of before) pieces in
    let at = size before in
    let len = length piece.text in
    ap (λ b. cond b (record (begun before piece) { end = at + len + more }) (begun before piece)) (eq_self (at + len))
    ∙ ap (λ n. record (begun before piece) { end = n }) (let a : at + len + more ≡ at + (len + more) = omega arith in a)
    ∙ sym (ap (λ b. record (begun before piece) { end = at + cond b (len + more) 0 }) (within_self path))

pub forward : (pieces before : List Piece) → HaveBytes pieces
    → map (onwards before pieces) (places_after before) ++ places_from (items_of before) (size before) pieces ≡ places_after (onto pieces before)
forward [] before h =
    append-nil _ ∙ map_same (λ place. Unit {0}) (onwards before []) (λ place. place) (λ place u. nothing_more before place) (places_after before) (all_true (places_after before)) ∙ map_id (places_after before)
forward (piece ∷ pieces) before h = join (begins_node (items_of before) piece.item) ∙ forward pieces (piece ∷ before) h.1
  where
    moved : map (onwards (piece ∷ before) pieces) (map (gone_on (path_of (items_of before) piece.item) (size before) (size (piece ∷ before))) (places_after before))
        ≡ map (onwards before (piece ∷ pieces)) (places_after before)
    moved =
        map_map (onwards (piece ∷ before) pieces) (gone_on (path_of (items_of before) piece.item) (size before) (size (piece ∷ before))) (places_after before)
        ∙ map_same (EndsBy (size before)) _ (onwards before (piece ∷ pieces))
        (λ place e. one_piece (is_within place.path (path_of (items_of before) piece.item)) place (size before) (length piece.text) (λ p. extent p (piece.item ∷ items_of before) pieces) e h.0)
        (places_after before) (ended before)

    join : (b : Bool)
        → map (onwards before (piece ∷ pieces)) (places_after before)
        ++ cond b (place_of (items_of before) (size before) piece pieces ∷ places_from (piece.item ∷ items_of before) (size (piece ∷ before)) pieces)
        (places_from (piece.item ∷ items_of before) (size (piece ∷ before)) pieces)
        ≡ map (onwards (piece ∷ before) pieces)
        (cond b (map (gone_on (path_of (items_of before) piece.item) (size before) (size (piece ∷ before))) (places_after before) ++ begun before piece ∷ [])
        (map (gone_on (path_of (items_of before) piece.item) (size before) (size (piece ∷ before))) (places_after before)))
        ++ places_from (piece.item ∷ items_of before) (size (piece ∷ before)) pieces
    join false = ap (λ l. l ++ places_from (piece.item ∷ items_of before) (size (piece ∷ before)) pieces) (sym moved)
    join true = sym (
        ap (λ l. l ++ places_from (piece.item ∷ items_of before) (size (piece ∷ before)) pieces) (map_join (onwards (piece ∷ before) pieces) _ (begun before piece ∷ []))
        ∙ append_assoc _ (onwards (piece ∷ before) pieces (begun before piece) ∷ []) _
        ∙ ap (λ l. l ++ onwards (piece ∷ before) pieces (begun before piece) ∷ places_from (piece.item ∷ items_of before) (size (piece ∷ before)) pieces) moved
        ∙ ap (λ p. map (onwards before (piece ∷ pieces)) (places_after before) ++ p ∷ places_from (piece.item ∷ items_of before) (size (piece ∷ before)) pieces) (new_place before piece pieces)
        )

-- The places from the front are those told from the first piece on.
pub places_forward : (pieces : List Piece) → HaveBytes pieces → places_from [] 0 pieces ≡ places_after (onto pieces [])
places_forward pieces h = forward pieces [] h
