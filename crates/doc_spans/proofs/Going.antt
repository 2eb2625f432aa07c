-- A run, one item after another.
use Rattle.std.proofs.Common.{◌≡◌, ℕ, zero, suc, ◌+◌, ◌<◌, ◌≤◌, List, [], ◌∷◌, ◌++◌, length, Option, Some, None, refl, sym, ◌∙◌, ap, arith, length-append}
use Rattle.std.specs.Option.{option_map_or}
use Rattle.std.specs.Str.{is_utf8, chars}
use Rattle.document_model.specs.Items.{Item, Piece, piece_at}
use Rattle.document_model.specs.Documents.{Limits, legal_within, run_of, run, stopped, with_piece, limits}
use Rattle.document_model.proofs.Joins.{legal_within_joins}
use Rattle.doc_spans.specs.Marks.{size, items_of}
use Rattle.doc_spans.proofs.Marks.{onto}
use Rattle.doc_spans.proofs.Run.{legal_piece}

pub no_item : (most : Limits) (before : List Item) → legal_within most before [] ≡ None
unfolding piece_at is_utf8 chars
no_item most before = refl

-- the bytes behind an item are fewer
fewer : (most : Limits) (before : List Item) (bytes : List ℕ) (found : Piece × List ℕ) → legal_within most before bytes ≡ Some found → length found.1 < length bytes
fewer most before bytes found e =
    let joins = legal_within_joins most before bytes found e in
    let n : length (found.0.text ++ found.1) ≡ length bytes = ap length joins in
    let some = (legal_piece most before bytes found e).0 in omega (arith, n, length-append found.0.text found.1, some)

one_more : (most : Limits) (n : ℕ) (before : List Item) (bytes : List ℕ) (found : Piece × List ℕ) → legal_within most before bytes ≡ Some found
    → run_of most (suc n) before bytes ≡ with_piece found.0 (run_of most n (found.0.item ∷ before) found.1)
one_more most n before bytes found e = ap (λ o. option_map_or (λ f. with_piece f.0 (run_of most n (f.0.item ∷ before) f.1)) o (stopped before bytes)) e

no_more : (most : Limits) (n : ℕ) (before : List Item) (bytes : List ℕ) → legal_within most before bytes ≡ None → run_of most n before bytes ≡ stopped before bytes
no_more most zero before bytes e = refl
no_more most (suc n) before bytes e = ap (λ o. option_map_or (λ f. with_piece f.0 (run_of most n (f.0.item ∷ before) f.1)) o (stopped before bytes)) e

-- Any bound serves that is at least the number of bytes.
pub any_bound : (most : Limits) (m n : ℕ) (before : List Item) (bytes : List ℕ) → length bytes ≤ m → length bytes ≤ n → run_of most m before bytes ≡ run_of most n before bytes
any_bound most zero n before [] h k = sym (no_more most n before [] (no_item most before))
any_bound most zero n before (b ∷ bytes) h k = absurd (omega (arith, h))
any_bound most (suc m) zero before [] h k = no_more most (suc m) before [] (no_item most before)
any_bound most (suc m) zero before (b ∷ bytes) h k = absurd (omega (arith, k))
any_bound most (suc m) (suc n) before bytes h k = either (λ found e. any_bound most m n (found.0.item ∷ before) found.1 (less found e h) (less found e k)) (legal_within most before bytes) refl
  where
    less : {j : ℕ} (found : Piece × List ℕ) → legal_within most before bytes ≡ Some found → length bytes ≤ suc j → length found.1 ≤ j
    less found e h = let f = fewer most before bytes found e in omega (arith, f, h)

    either : ((found : Piece × List ℕ) → legal_within most before bytes ≡ Some found → run_of most m (found.0.item ∷ before) found.1 ≡ run_of most n (found.0.item ∷ before) found.1)
        → (o : Option (Piece × List ℕ)) → legal_within most before bytes ≡ o → run_of most (suc m) before bytes ≡ run_of most (suc n) before bytes
    either same None e = no_more most (suc m) before bytes e ∙ sym (no_more most (suc n) before bytes e)
    either same (Some found) e = one_more most m before bytes found e ∙ ap (with_piece found.0) (same found e) ∙ sym (one_more most n before bytes found e)

-- Pieces that were taken, the last one first, and the bytes behind them: the run goes on from there.
pub record IsAt (bytes : List ℕ) (pieces : List Piece) (rest : List ℕ) : Type 0 where
  pub whole : size pieces + length rest ≡ length bytes
  pub taken : onto (run_of limits (length rest) (items_of pieces) rest).pieces pieces ≡ onto (run limits bytes).pieces []
  pub items : (run_of limits (length rest) (items_of pieces) rest).before ≡ (run limits bytes).before
  pub left : (run_of limits (length rest) (items_of pieces) rest).rest ≡ (run limits bytes).rest

pub at_start : (bytes : List ℕ) → IsAt bytes [] bytes
at_start bytes = record { whole = omega arith; taken = refl; items = refl; left = refl }

-- one more item
pub at_next : (bytes : List ℕ) (pieces : List Piece) (rest : List ℕ) (found : Piece × List ℕ) → IsAt bytes pieces rest → legal_within limits (items_of pieces) rest ≡ Some found
    → IsAt bytes (found.0 ∷ pieces) found.1
at_next bytes pieces rest found at e =
    let less = fewer limits (items_of pieces) rest found e in
    let n : length (found.0.text ++ found.1) ≡ length rest = ap length (legal_within_joins limits (items_of pieces) rest found e) in
    let same : run_of limits (length rest) (items_of pieces) rest ≡ with_piece found.0 (run_of limits (length found.1) (found.0.item ∷ items_of pieces) found.1) =
    any_bound limits (length rest) (suc (length rest)) (items_of pieces) rest (omega arith) (omega arith)
    ∙ one_more limits (length rest) (items_of pieces) rest found e
    ∙ ap (with_piece found.0) (any_bound limits (length rest) (length found.1) (found.0.item ∷ items_of pieces) found.1 (omega (arith, less)) (omega arith)) in
    record {
      whole = omega (arith, n, length-append found.0.text found.1, at.whole);
      taken = sym (ap (λ r. onto r.pieces pieces) same) ∙ at.taken;
      items = sym (ap (λ r. r.before) same) ∙ at.items;
      left = sym (ap (λ r. r.rest) same) ∙ at.left;
    }

-- none more
pub at_end : (bytes : List ℕ) (pieces : List Piece) (rest : List ℕ) → IsAt bytes pieces rest → legal_within limits (items_of pieces) rest ≡ None
    → (pieces ≡ onto (run limits bytes).pieces []) × (items_of pieces ≡ (run limits bytes).before) × (rest ≡ (run limits bytes).rest)
at_end bytes pieces rest at e =
    let same = no_more limits (length rest) (items_of pieces) rest e in (
      sym (ap (λ r. onto r.pieces pieces) same) ∙ at.taken,
      sym (ap (λ r. r.before) same) ∙ at.items,
      sym (ap (λ r. r.rest) same) ∙ at.left,
    )
