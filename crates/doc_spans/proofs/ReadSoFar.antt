-- Bytes that are read item by item, up to a place: the rows so far, and what is kept of the items.
use Rattle.std.proofs.Common.{◌≡◌, ℕ, zero, suc, ◌+◌, ◌-◌, ◌<◌, ◌≤◌, Bool, true, false, not, cond, nat_le, List, [], ◌∷◌, length, drop, Option, Some, None, refl, sym, ◌∙◌, ap, subst, arith, length-drop}
use Rattle.std.proofs.lemmas.Option.{none-some}
use Rattle.std.proofs.lemmas.Bool.{and_parts, leb-true}
use Rattle.document_model.specs.Characters.{is_empty}
use Rattle.document_model.specs.Items.{Piece, when}
use Rattle.document_model.specs.Items as items
use Rattle.document_model.specs.Documents.{Run, run, limits, legal_within, is_whole, fault_at, fault_of_run, fault, Fault}
use Rattle.document_model.specs.Documents as documents
use Rattle.document_model.proofs.Joins.{bind_some, when_some}
use Rattle.doc_spans.specs.Marks.{size, items_of, shape_of}
use Rattle.doc_spans.specs.Building.{State, new, step}
use Rattle.doc_spans.specs.View.{IsTree}
use Rattle.doc_spans.specs.Shown.{shown_of, IsShownOf}
use Rattle.doc_spans.specs.Standing.{Standing, standing_of, is_deep, nodes_added, is_one_too_many, legal_here, legal_within_here, fault_here, is_complete, after}
use Rattle.doc_spans.specs.Faults.{fault_in, IsFirstFault}
use Rattle.doc_spans.specs.declared.faults.DocFault.{DocFault}
use Rattle.doc_spans.specs.declared.faults.DocFault.TheVariants.{Item, Doctype, Depth, Nodes, End, OutOfMemory}
use Rattle.xa_io.specs.Causes.{counted}
use Rattle.doc_spans.proofs.Marks.{onto}
use Rattle.doc_spans.proofs.Links.{Built}
use Rattle.doc_spans.proofs.Turn.{built_none, built_more}
use Rattle.doc_spans.proofs.Run.{legal_piece}
use Rattle.doc_spans.proofs.Whole.{tree_is, tree_of_run}
use Rattle.doc_spans.proofs.Going.{IsAt, at_start, at_next, at_end, no_item}
use Rattle.doc_spans.proofs.Standings.{standing_after, within_same, fault_same}

-- the legal items before a place were taken
pub record ReadTo (bytes : List ℕ) (at : ℕ) (built : State) (standing : Standing) : Type 0 where
  pub within : at ≤ length bytes
  pub pieces : List Piece
  pub taken : IsAt bytes pieces (drop at bytes)
  pub rows : Built built pieces
  pub stands : standing ≡ standing_of (items_of pieces)
  pub few : standing.nodes ≤ limits.nodes

pub read_none : (bytes : List ℕ) → ReadTo bytes 0 new (standing_of [])
read_none bytes = record { within = omega arith; pieces = []; taken = at_start bytes; rows = built_none; stands = refl; few = omega arith }

read_size : (bytes : List ℕ) (at : ℕ) (s : State) (st : Standing) (r : ReadTo bytes at s st) → size r.pieces ≡ at
read_size bytes at s st r = omega (arith, r.taken.whole, length-drop at bytes, r.within)

pub few_rows : (bytes : List ℕ) (at : ℕ) (s : State) (st : Standing) → ReadTo bytes at s st → at < length bytes → length bytes ≤ 16777216 → length s.rows < 16777216
few_rows bytes at s st r h small = omega (arith, r.rows.0.few, read_size bytes at s st r)

legal_same : (bytes : List ℕ) (at : ℕ) (s : State) (st : Standing) (r : ReadTo bytes at s st) → legal_within_here st (drop at bytes) ≡ legal_within limits (items_of r.pieces) (drop at bytes)
legal_same bytes at s st r = ap (λ x. legal_within_here x (drop at bytes)) r.stands ∙ within_same (items_of r.pieces) (drop at bytes)

is_true : {A : Type 0} (b : Bool) (x y : A) → when b x ≡ Some y → b ≡ true
is_true true x y e = refl
is_true false x y e = absurd (none-some y e)

not_false : (b : Bool) → not b ≡ true → b ≡ false
not_false true e = sym e
not_false false e = refl

not_true : (b : Bool) → not b ≡ false → b ≡ true
not_true true e = refl
not_true false e = sym e

-- within the limits after a legal item
pub few_after : (st : Standing) (bytes : List ℕ) (found : Piece × List ℕ) → legal_within_here st bytes ≡ Some found → (after found.0.item st).nodes ≤ limits.nodes
few_after st bytes found e =
    let one = bind_some _ (legal_here st bytes) found e in
    let same = when_some _ one.0 found one.2 in
    let both = and_parts (not (is_deep st one.0.0.item)) (not (is_one_too_many st one.0.0.item)) (is_true _ one.0 found one.2) in
    let enough : nat_le (nodes_added st one.0.0.item + st.nodes) limits.nodes ≡ true = not_true _ (not_false _ both.1) in
    let P : Piece × List ℕ → Type 0 = λ f. (after f.0.item st).nodes ≤ limits.nodes in
    subst P same (leb-true (nodes_added st one.0.0.item + st.nodes) limits.nodes enough)

-- one more item
pub read_more : (bytes : List ℕ) (at end : ℕ) (s : State) (st : Standing) (piece : Piece) → length bytes ≤ 16777216 → end ≤ length bytes → ReadTo bytes at s st
    → legal_within_here st (drop at bytes) ≡ Some (piece, drop end bytes) → ReadTo bytes end (step (shape_of piece.item) end s) (after piece.item st)
read_more bytes at end s st piece small h r e =
    let f : legal_within limits (items_of r.pieces) (drop at bytes) ≡ Some (piece, drop end bytes) = sym (legal_same bytes at s st r) ∙ e in
    let next = at_next bytes r.pieces (drop at bytes) (piece, drop end bytes) r.taken f in
    let n : size (piece ∷ r.pieces) ≡ end = omega (arith, next.whole, length-drop end bytes, h) in
    let one = legal_piece limits (items_of r.pieces) (drop at bytes) (piece, drop end bytes) f in
    let P : ℕ → Type 0 = λ k. Built (step (shape_of piece.item) k s) (piece ∷ r.pieces) in
    record {
      within = h;
      pieces = piece ∷ r.pieces;
      taken = next;
      rows = subst P n (built_more s r.pieces piece r.rows (record { follow = (one.1, r.rows.0.follow); some = one.0; small = omega (arith, n, h, small) }));
      stands = ap (after piece.item) r.stands ∙ standing_after (items_of r.pieces) piece.item;
      few = few_after st (drop at bytes) (piece, drop end bytes) e;
    }

-- Where no more item is legal.

fault_from : (n : ℕ) (ended : Run) (before : List items.Item) (rest : List ℕ) → before ≡ ended.before → rest ≡ ended.rest
    → fault_of_run limits n ended ≡ cond (is_empty rest) (cond (is_whole before) None (Some documents.End)) (Some (fault_at limits (n - length rest) before rest))
fault_from n ended before rest e f =
    let P : List items.Item → List ℕ → Option Fault = λ b r. cond (is_empty r) (cond (is_whole b) None (Some documents.End)) (Some (fault_at limits (n - length r) b r)) in
    (λ i. P (sym e i) (sym f i))

pub read_fault : (bytes : List ℕ) (at : ℕ) (s : State) (st : Standing) → at < length bytes → ReadTo bytes at s st → legal_within_here st (drop at bytes) ≡ None
    → fault bytes ≡ Some (fault_here st at (drop at bytes))
unfolding fault
read_fault bytes at s st h r e =
    let ended = at_end bytes r.pieces (drop at bytes) r.taken (sym (legal_same bytes at s st r) ∙ e) in
    let before = items_of r.pieces in
    let n : length bytes - length (drop at bytes) ≡ at = omega (arith, length-drop at bytes) in
    fault_from (length bytes) (run limits bytes) before (drop at bytes) ended.1 ended.2
    ∙ ap (λ b. cond b (cond (is_whole before) None (Some documents.End)) (Some (fault_at limits (length bytes - length (drop at bytes)) before (drop at bytes)))) (has_rest (drop at bytes) (omega (arith, length-drop at bytes)))
    ∙ ap (λ k. Some (fault_at limits k before (drop at bytes))) n
    ∙ ap Some (sym (fault_same before at (drop at bytes)))
    ∙ ap (λ x. Some (fault_here x at (drop at bytes))) (sym r.stands)
  where
    has_rest : (rest : List ℕ) → 0 < length rest → is_empty rest ≡ false
    has_rest [] h = absurd (omega (arith, h))
    has_rest (b ∷ rest) h = refl

-- At the end.

ended_all : (rest : List ℕ) → length rest ≡ 0 → rest ≡ []
ended_all [] e = refl
ended_all (b ∷ rest) e = absurd (omega (arith, e))

at_last : (bytes : List ℕ) (at : ℕ) (s : State) (st : Standing) → length bytes ≤ at → (r : ReadTo bytes at s st)
    → (r.pieces ≡ onto (run limits bytes).pieces []) × (items_of r.pieces ≡ (run limits bytes).before) × ([] ≡ (run limits bytes).rest)
at_last bytes at s st h r =
    let none_left : drop at bytes ≡ [] = ended_all (drop at bytes) (omega (arith, length-drop at bytes)) in
    let P : List ℕ → Type 0 = IsAt bytes r.pieces in
    at_end bytes r.pieces [] (subst P none_left r.taken) (no_item limits (items_of r.pieces))

pub read_all : (bytes : List ℕ) (at : ℕ) (s : State) (st : Standing) → length bytes ≤ at → ReadTo bytes at s st → fault bytes ≡ cond (is_complete st) None (Some documents.End)
unfolding fault
read_all bytes at s st h r =
    let ended = at_last bytes at s st h r in
    fault_from (length bytes) (run limits bytes) (items_of r.pieces) [] ended.1 ended.2
    ∙ ap (λ x. cond (is_complete x) None (Some documents.End)) (sym r.stands)

pub read_tree : (bytes : List ℕ) (at : ℕ) (s : State) (st : Standing) → ReadTo bytes at s st → IsTree s.rows
read_tree bytes at s st r = tree_is s r.pieces r.rows

pub read_whole : (bytes : List ℕ) (at : ℕ) (s : State) (st : Standing) → length bytes ≤ at → ReadTo bytes at s st → is_complete st ≡ true → IsShownOf (shown_of s.rows) bytes
read_whole bytes at s st h r e =
    let ended = at_last bytes at s st h r in
    let P : List Piece → Type 0 = Built s in
    tree_of_run s bytes (subst P ended.0 r.rows) (read_all bytes at s st h r ∙ ap (λ b. cond b None (Some documents.End)) e)

-- Faults in the code.

pub fault_found : (e : DocFault) (bytes : List ℕ) (f : Fault) → fault bytes ≡ Some f → fault_in e ≡ Some f → IsFirstFault e bytes
fault_found (Item at) bytes f h k = h ∙ sym k
fault_found (Doctype at) bytes f h k = h ∙ sym k
fault_found (Depth at) bytes f h k = h ∙ sym k
fault_found (Nodes at) bytes f h k = h ∙ sym k
fault_found End bytes f h k = h ∙ sym k
fault_found OutOfMemory bytes f h k = tt

-- so many steps were counted from a first count on
abbrev pub CountedTo : ℕ → ℕ → ℕ → Type 0
CountedTo first at now = (at ≡ 0 → now ≡ first) × (0 < at → now ≡ counted first at)

-- The turns of the reader's loop.

pub read_first : (bytes : List ℕ) (s : State) (st : Standing) → s ≡ new → st ≡ standing_of [] → ReadTo bytes 0 s st
read_first bytes s st e f =
    let P : State → Standing → Type 0 = ReadTo bytes 0 in
    let Q : State → Type 0 = λ x. P x st in
    subst Q (sym e) (let R : Standing → Type 0 = P new in subst R (sym f) (read_none bytes))

pub read_next : (bytes : List ℕ) (at end : ℕ) (s next : State) (st later : Standing) (piece : Piece) → length bytes ≤ 16777216 → end ≤ length bytes → ReadTo bytes at s st
    → legal_within_here st (drop at bytes) ≡ Some (piece, drop end bytes) → next ≡ step (shape_of piece.item) end s → later ≡ after piece.item st → ReadTo bytes end next later
read_next bytes at end s next st later piece small h r e f g =
    let P : State → Standing → Type 0 = ReadTo bytes end in
    let Q : State → Type 0 = λ x. P x later in
    let R : Standing → Type 0 = P (step (shape_of piece.item) end s) in
    subst Q (sym f) (subst R (sym g) (read_more bytes at end s st piece small h r e))

pub counted_next : (first at n now later : ℕ) → CountedTo first at now → 0 < n → later ≡ counted now n → CountedTo first (at + n) later
counted_next first zero n now later h some e = (λ f. absurd (omega (arith, f, some)), λ f. e ∙ ap (λ k. counted k n) (h.0 refl) ∙ (let m : n ≡ zero + n = omega arith in ap (counted first) m))
counted_next first (suc at) n now later h some e =
    let k : now ≡ counted first (suc at) = h.1 (omega arith) in
    (λ f. absurd (omega (arith, f, some)), λ f. omega (arith, e, k))
