-- The steps of a builder over the whole run of a document give its tree.
use Rattle.std.proofs.Common.{◌≡◌, ℕ, ◌+◌, ◌≤◌, List, [], ◌∷◌, ◌++◌, length, ap, arith, length-append}
use Rattle.std.specs.Prelude.{flat_map}
use Rattle.document_model.specs.Items.{Piece}
use Rattle.document_model.specs.Documents.{run, limits}
use Rattle.document_model.proofs.Joins.{run_joins}
use Rattle.doc_spans.specs.Marks.{size, items_of, Follow, shape_of}
use Rattle.doc_spans.specs.Building.{State, step, new}
use Rattle.doc_spans.proofs.Marks.{HaveBytes, onto}
use Rattle.doc_spans.proofs.Links.{Built}
use Rattle.doc_spans.proofs.Turn.{built_none, built_more}
use Rattle.doc_spans.proofs.Run.{run_good}

-- the state after pieces, behind others, the last one first
abbrev pub steps_over : State → List Piece → List Piece → State
steps_over s before [] = s
steps_over s before (piece ∷ pieces) = steps_over (step (shape_of piece.item) (size (piece ∷ before)) s) (piece ∷ before) pieces

follow_less : (pieces before : List Piece) → Follow (items_of (onto pieces before)) → Follow (items_of before)
follow_less [] before h = h
follow_less (piece ∷ pieces) before h = (follow_less pieces (piece ∷ before) h).1

pub size_onto : (pieces before : List Piece) → size (onto pieces before) ≡ size before + length (flat_map (λ piece. piece.text) pieces)
size_onto [] before = omega arith
size_onto (piece ∷ pieces) before =
    let n = size_onto pieces (piece ∷ before) in
    let m = length-append piece.text (flat_map (λ piece. piece.text) pieces) in omega arith

built_over : (pieces before : List Piece) (s : State) → Built s before → HaveBytes pieces → Follow (items_of (onto pieces before)) → size (onto pieces before) ≤ 16777216
    → Built (steps_over s before pieces) (onto pieces before)
built_over [] before s b h f small = b
built_over (piece ∷ pieces) before s b h f small =
    let n = size_onto pieces (piece ∷ before) in
    built_over pieces (piece ∷ before) (step (shape_of piece.item) (size (piece ∷ before)) s)
    (built_more s before piece b (record { follow = follow_less pieces (piece ∷ before) f; some = h.0; small = omega (arith, n, small) })) h.1 f small

pub built_of_run : (bytes : List ℕ) → length bytes ≤ 16777216 → Built (steps_over new [] (run limits bytes).pieces) (onto (run limits bytes).pieces [])
built_of_run bytes small =
    let good = run_good limits (length bytes) [] bytes tt in
    let n = size_onto (run limits bytes).pieces [] in
    let m : length (flat_map (λ piece. piece.text) (run limits bytes).pieces ++ (run limits bytes).rest) ≡ length bytes = ap length (run_joins limits (length bytes) [] bytes) in
    let l = length-append (flat_map (λ piece. piece.text) (run limits bytes).pieces) (run limits bytes).rest in
    built_over (run limits bytes).pieces [] new built_none good.bytes good.follow (omega (arith, n, m, l, small))
