-- Where a place begins, the item that begins it stands in the bytes.
use Rattle.std.proofs.Common.{◌≡◌, ℕ, zero, suc, ◌+◌, Bool, true, false, cond, ◌&&◌, List, [], ◌∷◌, ◌++◌, length, drop, Some, refl, sym, ◌∙◌, ap, arith, nat_eq}
use Rattle.std.specs.Prelude.{map}
use Rattle.document_model.specs.Items.{Item, Piece, piece_at}
use Rattle.document_model.specs.NodeSets.{is_within}
use Rattle.document_model.specs.Places.{path_of, begins_node}
use Rattle.document_model.specs.Documents.{legal, legal_within, run_of, run, stopped, limits}
use Rattle.document_model.proofs.Joins.{bind_some, when_some, by_option, legal_within_joins}
use Rattle.doc_spans.specs.Marks.{size, items_of, begun}
use Rattle.doc_spans.specs.View.{Each}
use Rattle.doc_spans.proofs.Each.{each_append, each_map}
use Rattle.doc_spans.proofs.Marks.{onto}
use Rattle.doc_spans.proofs.Named.{Mark, mark_gone_on, marks_after}

drop_more : (a b : ℕ) (xs : List ℕ) → drop (a + b) xs ≡ drop b (drop a xs)
drop_more zero b xs = ap (λ n. drop n xs) (let e : 0 + b ≡ b = omega arith in e)
drop_more (suc a) zero [] = ap (λ n. drop n []) (let e : suc a + 0 ≡ suc a = omega arith in e)
drop_more (suc a) (suc b) [] = ap (λ n. drop n []) (let e : suc a + suc b ≡ suc (a + suc b) = omega arith in e)
drop_more (suc a) b (x ∷ xs) = ap (λ n. drop n (x ∷ xs)) (let e : suc a + b ≡ suc (a + b) = omega arith in e) ∙ drop_more a b xs

drop_front : (xs ys : List ℕ) → drop (length xs) (xs ++ ys) ≡ ys
drop_front [] ys = refl
drop_front (x ∷ xs) ys = drop_front xs ys

-- each of the pieces, the last one first, was read where those before it end
abbrev pub WereRead : List ℕ → List Piece → Type 0
WereRead bytes [] = Unit {0}
WereRead bytes (piece ∷ before) = (piece_at (drop (size before) bytes) ≡ Some (piece, drop (size (piece ∷ before)) bytes)) × WereRead bytes before

found_piece : (before : List Item) (rest : List ℕ) (found : Piece × List ℕ) → legal_within limits before rest ≡ Some found → piece_at rest ≡ Some found
found_piece before rest found e =
    let legal_one = bind_some _ (legal before rest) found e in
    let piece = bind_some _ (piece_at rest) legal_one.0 legal_one.1 in
    piece.1 ∙ ap Some (when_some _ piece.0 legal_one.0 piece.2 ∙ when_some _ legal_one.0 found legal_one.2)

read_on : (bytes : List ℕ) (n : ℕ) (pieces : List Piece) (rest : List ℕ) → drop (size pieces) bytes ≡ rest → WereRead bytes pieces
    → WereRead bytes (onto (run_of limits n (items_of pieces) rest).pieces pieces)
read_on bytes zero pieces rest at h = h
read_on bytes (suc n) pieces rest at h = by_option (λ r. WereRead bytes (onto r.pieces pieces)) _ (legal_within limits (items_of pieces) rest) (stopped (items_of pieces) rest)
    (λ found e.
    let behind : drop (size (found.0 ∷ pieces)) bytes ≡ found.1 =
    drop_more (size pieces) (length found.0.text) bytes
    ∙ ap (drop (length found.0.text)) (at ∙ sym (legal_within_joins limits (items_of pieces) rest found e))
    ∙ drop_front found.0.text found.1 in
    read_on bytes n (found.0 ∷ pieces) found.1 behind
    (ap piece_at at ∙ found_piece (items_of pieces) rest found e ∙ ap (λ x. Some (found.0, x)) (sym behind), h))
    (λ e. h)

pub run_was_read : (bytes : List ℕ) → WereRead bytes (onto (run limits bytes).pieces [])
run_was_read bytes = read_on bytes (length bytes) [] bytes refl tt

-- the item that begins a place stands at its first byte, and ends at the end of its first item
abbrev pub StandsAt : List ℕ → Mark → Type 0
StandsAt bytes mark = (piece : Piece) × (piece_at (drop mark.0.start bytes) ≡ Some (piece, drop mark.0.first_end bytes)) × (piece.item ≡ mark.1)

pub marks_stand : (bytes : List ℕ) (pieces : List Piece) → WereRead bytes pieces → Each (StandsAt bytes) (marks_after pieces)
marks_stand bytes [] h = tt
marks_stand bytes (piece ∷ before) h = added (marks_stand bytes before h.1) (begins_node (items_of before) piece.item)
  where
    either : (b : Bool) (mark : Mark) → StandsAt bytes mark → StandsAt bytes (cond b (record mark.0 { end = size (piece ∷ before) }) mark.0, mark.1)
    either true mark m = m
    either false mark m = m

    on : (mark : Mark) → StandsAt bytes mark → StandsAt bytes (mark_gone_on (path_of (items_of before) piece.item) (size before) (size (piece ∷ before)) mark)
    on mark m = either (is_within mark.0.path (path_of (items_of before) piece.item) && nat_eq mark.0.end (size before)) mark m

    added : Each (StandsAt bytes) (marks_after before) → (b : Bool)
        → Each (StandsAt bytes)
        (cond b (map (mark_gone_on (path_of (items_of before) piece.item) (size before) (size (piece ∷ before))) (marks_after before) ++ (begun before piece, piece.item) ∷ [])
        (map (mark_gone_on (path_of (items_of before) piece.item) (size before) (size (piece ∷ before))) (marks_after before)))
    added old false = each_map (StandsAt bytes) (StandsAt bytes) (mark_gone_on (path_of (items_of before) piece.item) (size before) (size (piece ∷ before))) on (marks_after before) old
    added old true =
        each_append (StandsAt bytes) _ ((begun before piece, piece.item) ∷ [])
        (each_map (StandsAt bytes) (StandsAt bytes) (mark_gone_on (path_of (items_of before) piece.item) (size before) (size (piece ∷ before))) on (marks_after before) old)
        ((piece, h.0, refl), tt)
