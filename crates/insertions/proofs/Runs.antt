-- Runs and pieces that stand.
use Rattle.std.proofs.Common.{◌≡◌, ℕ, zero, suc, ◌-◌, ◌≤◌, ◌<◌, Bool, true, false, cond, not, ◌&&◌, List, [], ◌∷◌, ◌++◌, length, Option, Some, None, refl, sym, ◌∙◌, ap, subst, ◌⊎◌, inl, inr, arith, nat_eq, append_assoc, length-append, codes}
use Rattle.std.proofs.lemmas.Option.{none-some}
use Rattle.std.proofs.lemmas.List.{append-nil}
use Rattle.std.specs.Prelude.{option_and_then}
use Rattle.std.specs.Option.{option_map_or}
use Rattle.std.specs.List.{starts_with}
use Rattle.std.proofs.lemmas.Bool.{true≢false}
use Rattle.document_model.specs.Characters.{is_empty}
use Rattle.document_model.specs.Items.{Item, Piece, when}
use Rattle.document_model.specs.Tree.{tree_after}
use Rattle.document_model.specs.Documents.{has_element, is_whole, Limits, limits, is_too_deep, has_too_many, legal, legal_within, Run, stopped, with_piece, run_of, run, Fault, Doctype, End, Depth, TooMany, fault_at, otherwise_legal, fault_of_run, fault, document_of}
use Rattle.document_model.proofs.Joins.{bind_some, legal_within_joins, run_joins, by_option}
use Rattle.doc_spans.proofs.Going.{no_item}
use Rattle.doc_spans.proofs.Run.{piece_has}
use Rattle.doc_spans.proofs.Whole.{run_ends}
use Rattle.insertions.specs.Content.{texts, items_after, Stand}
use Rattle.insertions.proofs.Standing.{legal_is, texts_join, after_join, after_all, stand_first, stand_second, when_true}
use Rattle.insertions.proofs.Alike.{begun_around}

-- pieces within the limits
abbrev pub Within : Limits → List Item → List Piece → Type 0
Within most before [] = Unit {0}
Within most before (piece ∷ pieces) =
    (is_too_deep most before piece.item ≡ false) × (has_too_many most before piece.item ≡ false) × Within most (piece.item ∷ before) pieces

pub within_first : (most : Limits) (before : List Item) (p q : List Piece) → Within most before (p ++ q) → Within most before p
within_first most before [] q w = tt
within_first most before (piece ∷ p) q w = (w.0, w.1, within_first most (piece.item ∷ before) p q w.2)

pub within_second : (most : Limits) (before : List Item) (p q : List Piece) → Within most before (p ++ q) → Within most (items_after p before) q
within_second most before [] q w = w
within_second most before (piece ∷ p) q w = within_second most (piece.item ∷ before) p q w.2

pub within_both : (most : Limits) (before : List Item) (p q : List Piece) → Within most before p → Within most (items_after p before) q → Within most before (p ++ q)
within_both most before [] q v w = w
within_both most before (piece ∷ p) q v w = (v.0, v.1, within_both most (piece.item ∷ before) p q v.2 w)

both_false : (a b : Bool) → (not a && not b) ≡ true → (a ≡ false) × (b ≡ false)
both_false false false e = (refl, refl)
both_false true b e = cc
both_false false true e = cc

-- what a run has taken
pub record Taken (most : Limits) (before : List Item) (run : Run) : Type 0 where
  pub stand : Stand before run.pieces run.rest
  pub within : Within most before run.pieces
  pub items : run.before ≡ items_after run.pieces before

pub taken : (most : Limits) (n : ℕ) (before : List Item) (bytes : List ℕ) → Taken most before (run_of most n before bytes)
taken most zero before bytes = record { stand = tt; within = tt; items = refl }
taken most (suc n) before bytes = by_option (Taken most before) _ (legal_within most before bytes) (stopped before bytes)
    (λ found e.
    let legal_one = bind_some _ (legal before bytes) found e in
    let tests = when_true _ legal_one.0 found legal_one.2 in
    let P : Piece × List ℕ → Type 0 = λ f. (legal before bytes ≡ Some f) × (is_too_deep most before f.0.item ≡ false) × (has_too_many most before f.0.item ≡ false) in
    let here : P found = subst P tests.1 (let b = both_false _ _ tests.0 in (legal_one.1, b.0, b.1)) in
    let others = taken most n (found.0.item ∷ before) found.1 in
    let inner : Run = run_of most n (found.0.item ∷ before) found.1 in
    let j : texts inner.pieces ++ inner.rest ≡ found.1 = run_joins most n (found.0.item ∷ before) found.1 in
    let whole : found.0.text ++ found.1 ≡ bytes = legal_within_joins most before bytes found e in
    let Q : List ℕ → Type 0 = λ x. legal before (found.0.text ++ x) ≡ Some (found.0, x) in
    let first : Q found.1 = ap (legal before) whole ∙ here.0 in
    record { stand = (subst Q (sym j) first, others.stand); within = (here.1, here.2, others.within); items = others.items })
    (λ e. record { stand = tt; within = tt; items = refl })

-- The run over pieces that stand.

one_more : (most : Limits) (n : ℕ) (before : List Item) (bytes : List ℕ) (found : Piece × List ℕ) → legal_within most before bytes ≡ Some found
    → run_of most (suc n) before bytes ≡ with_piece found.0 (run_of most n (found.0.item ∷ before) found.1)
one_more most n before bytes found e = ap (λ o. option_map_or (λ f. with_piece f.0 (run_of most n (f.0.item ∷ before) f.1)) o (stopped before bytes)) e

no_more : (most : Limits) (n : ℕ) (before : List Item) (bytes : List ℕ) → legal_within most before bytes ≡ None → run_of most n before bytes ≡ stopped before bytes
no_more most zero before bytes e = refl
no_more most (suc n) before bytes e = ap (λ o. option_map_or (λ f. with_piece f.0 (run_of most n (f.0.item ∷ before) f.1)) o (stopped before bytes)) e

within_is : (most : Limits) (before : List Item) (bytes : List ℕ) (found : Piece × List ℕ) → legal before bytes ≡ Some found
    → legal_within most before bytes ≡ when (not (is_too_deep most before found.0.item) && not (has_too_many most before found.0.item)) found
within_is most before bytes found e = ap (option_and_then (λ f. when (not (is_too_deep most before f.0.item) && not (has_too_many most before f.0.item)) f)) e

-- where runs end alike
pub record EndAlike (a b : Run) : Type 0 where
  pub before : a.before ≡ b.before
  pub rest : a.rest ≡ b.rest

pub record GoesOn (most : Limits) (n : ℕ) (before : List Item) (bytes : List ℕ) (later : List Item) (rest : List ℕ) : Type 0 where
  pub bound : ℕ
  pub enough : length rest ≤ bound
  pub alike : EndAlike (run_of most n before bytes) (run_of most bound later rest)

fewer : (t x : List ℕ) → 0 < length t → length x < length (t ++ x)
fewer t x h = omega (arith, length-append t x, h)

next_on : (most : Limits) (n : ℕ) (before : List Item) (bytes : List ℕ) (found : Piece × List ℕ) (later : List Item) (rest : List ℕ) → legal_within most before bytes ≡ Some found
    → length bytes ≤ n → length found.1 < length bytes → ((m : ℕ) → length found.1 ≤ m → GoesOn most m (found.0.item ∷ before) found.1 later rest) → GoesOn most n before bytes later rest
next_on most zero before bytes found later rest e h k f = absurd (omega (arith, h, k))
next_on most (suc n) before bytes found later rest e h k f =
    let g = f n (omega (arith, h, k)) in
    let one = one_more most n before bytes found e in
    record { bound = g.bound; enough = g.enough; alike = record { before = ap (λ r. r.before) one ∙ g.alike.before; rest = ap (λ r. r.rest) one ∙ g.alike.rest } }

-- the run goes over pieces that stand within the limits
pub goes_on : (most : Limits) (n : ℕ) (before : List Item) (p : List Piece) (rest : List ℕ) → Stand before p rest → Within most before p → length (texts p ++ rest) ≤ n
    → GoesOn most n before (texts p ++ rest) (items_after p before) rest
goes_on most n before [] rest s w h = record { bound = n; enough = h; alike = record { before = refl; rest = refl } }
goes_on most n before (piece ∷ p) rest s w h =
    let x : List ℕ = texts p ++ rest in
    let l = legal_is before (piece.text ++ x) (piece, x) s.0 in
    let has = piece_has (piece.text ++ x) (piece, x) l.piece in
    let e : legal_within most before (piece.text ++ x) ≡ Some (piece, x) =
    within_is most before (piece.text ++ x) (piece, x) s.0 ∙ (λ i. when (not (w.0 i) && not (w.1 i)) (piece, x)) in
    let j : (piece.text ++ texts p) ++ rest ≡ piece.text ++ x = append_assoc piece.text (texts p) rest in
    let P : List ℕ → Type 0 = λ bytes. GoesOn most n before bytes (items_after p (piece.item ∷ before)) rest in
    subst P (sym j) (next_on most n before (piece.text ++ x) (piece, x) (items_after p (piece.item ∷ before)) rest e (subst (λ bytes. length bytes ≤ n) j h) (fewer piece.text x has)
    (λ m k. goes_on most m (piece.item ∷ before) p rest s.1 w.2 k))

-- and ends behind all pieces, or in front of one that passes a limit
pub record PassesAt (most : Limits) (before : List Item) (pieces : List Piece) (r : Run) : Type 0 where
  pub front : List Piece
  pub piece : Piece
  pub behind : List Piece
  pub parts : pieces ≡ front ++ (piece ∷ behind)
  pub items : r.before ≡ items_after front before
  pub rest : r.rest ≡ piece.text ++ (texts behind ++ [])
  pub legal_there : legal (items_after front before) (piece.text ++ (texts behind ++ [])) ≡ Some (piece, texts behind ++ [])
  pub passes : (is_too_deep most (items_after front before) piece.item ≡ true) ⊎ (has_too_many most (items_after front before) piece.item ≡ true)

abbrev pub Ends : Limits → List Item → List Piece → Run → Type 0
Ends most before pieces r = (Within most before pieces × (r.before ≡ items_after pieces before) × (r.rest ≡ [])) ⊎ PassesAt most before pieces r

pub ends : (most : Limits) (n : ℕ) (before : List Item) (pieces : List Piece) → Stand before pieces [] → length (texts pieces ++ []) ≤ n
    → Ends most before pieces (run_of most n before (texts pieces ++ []))
ends most n before [] s h = let e = no_more most n before [] (no_item most before) in inl (tt, ap (λ r. r.before) e, ap (λ r. r.rest) e)
ends most n before (piece ∷ p) s h =
    let x : List ℕ = texts p ++ [] in
    let l = legal_is before (piece.text ++ x) (piece, x) s.0 in
    let has = piece_has (piece.text ++ x) (piece, x) l.piece in
    let j : (piece.text ++ texts p) ++ [] ≡ piece.text ++ x = append_assoc piece.text (texts p) [] in
    let P : List ℕ → Type 0 = λ bytes. Ends most before (piece ∷ p) (run_of most n before bytes) in
    subst P (sym j) (by_tests (is_too_deep most before piece.item) (has_too_many most before piece.item) refl refl n (subst (λ bytes. length bytes ≤ n) j h) (fewer piece.text x has)
    (λ m k. ends most m (piece.item ∷ before) p s.1 k))
  where
    bytes : List ℕ
    bytes = piece.text ++ (texts p ++ [])

    stops : (is_too_deep most before piece.item ≡ true) ⊎ (has_too_many most before piece.item ≡ true) → legal_within most before bytes ≡ None → (n : ℕ)
        → Ends most before (piece ∷ p) (run_of most n before bytes)
    stops passed none n = let e = no_more most n before bytes none in
        inr (record { front = []; piece = piece; behind = p; parts = refl; items = ap (λ r. r.before) e; rest = ap (λ r. r.rest) e; legal_there = s.0; passes = passed })

    onward : is_too_deep most before piece.item ≡ false → has_too_many most before piece.item ≡ false → (r t : Run) → r.before ≡ t.before → r.rest ≡ t.rest
        → Ends most (piece.item ∷ before) p t → Ends most before (piece ∷ p) r
    onward deep many r t b e o = elim o [
      | inl all ↦ inl ((deep, many, all.0), b ∙ all.1, e ∙ all.2)
      | inr q ↦ inr (record {
        front = piece ∷ q.front;
        piece = q.piece;
        behind = q.behind;
        parts = ap (λ ps. piece ∷ ps) q.parts;
        items = b ∙ q.items;
        rest = e ∙ q.rest;
        legal_there = q.legal_there;
        passes = q.passes;
      })
    ]

    by_tests : (deep many : Bool) → is_too_deep most before piece.item ≡ deep → has_too_many most before piece.item ≡ many → (n : ℕ) → length bytes ≤ n → length (texts p ++ []) < length bytes
        → ((m : ℕ) → length (texts p ++ []) ≤ m → Ends most (piece.item ∷ before) p (run_of most m (piece.item ∷ before) (texts p ++ [])))
        → Ends most before (piece ∷ p) (run_of most n before bytes)
    by_tests true many d e n h k f =
        stops (inl d) (within_is most before bytes (piece, texts p ++ []) s.0 ∙ ap (λ b. when (not b && not (has_too_many most before piece.item)) (piece, texts p ++ [])) d) n
    by_tests false true d e n h k f =
        stops (inr e) (within_is most before bytes (piece, texts p ++ []) s.0 ∙ (λ i. when (not (d i) && not (e i)) (piece, texts p ++ []))) n
    by_tests false false d e zero h k f = absurd (omega (arith, h, k))
    by_tests false false d e (suc n) h k f =
        let one = one_more most n before bytes (piece, texts p ++ []) (within_is most before bytes (piece, texts p ++ []) s.0 ∙ (λ i. when (not (d i) && not (e i)) (piece, texts p ++ []))) in
        onward d e (run_of most (suc n) before bytes) (run_of most n (piece.item ∷ before) (texts p ++ [])) (ap (λ r. r.before) one) (ap (λ r. r.rest) one) (f n (omega (arith, h, k)))

-- The old document.

rest_none : (whole : ℕ) (r : Run) → fault_of_run limits whole r ≡ None → r.rest ≡ []
rest_none whole r e = go r.rest refl e
  where
    go : (rest : List ℕ) → r.rest ≡ rest → cond (is_empty rest) (cond (is_whole r.before) None (Some End)) (Some (fault_at limits (whole - length rest) r.before rest)) ≡ None → r.rest ≡ []
    go [] at h = at
    go (b ∷ rest) at h = absurd (none-some (fault_at limits (whole - length (b ∷ rest)) r.before (b ∷ rest)) (sym h))

-- a document without fault is pieces that stand, within the limits
pub record IsDocument (bytes : List ℕ) (pieces : List Piece) : Type 0 where
  pub spelled : texts pieces ≡ bytes
  pub stand : Stand [] pieces []
  pub within : Within limits [] pieces
  pub whole : is_whole (items_after pieces []) ≡ true
  pub tree : document_of bytes ≡ tree_after (items_after pieces [])
  pub none_left : (run limits bytes).rest ≡ []

pub is_document : (bytes : List ℕ) → fault bytes ≡ None → IsDocument bytes (run limits bytes).pieces
unfolding fault document_of
is_document bytes e =
    let r : Run = run limits bytes in
    let t = taken limits (length bytes) [] bytes in
    let none : r.rest ≡ [] = rest_none (length bytes) r e in
    record {
      spelled = sym (append-nil (texts r.pieces)) ∙ ap (λ x. texts r.pieces ++ x) (sym none) ∙ run_joins limits (length bytes) [] bytes;
      stand = subst (Stand [] r.pieces) none t.stand;
      within = t.within;
      whole = ap is_whole (sym t.items) ∙ run_ends bytes e;
      tree = ap tree_after t.items;
      none_left = none;
    }

-- The new one: pieces within the limits, where the document element begins, and others behind them.

-- the fault is that of an item that passes a limit
abbrev pub PassedItem : List Item → Item → Option Fault → Type 0
PassedItem before item found = (place : ℕ)
    × (((found ≡ Some (Depth place)) × (is_too_deep limits before item ≡ true)) ⊎ ((found ≡ Some (TooMany place)) × (has_too_many limits before item ≡ true)))

passed_fault : (whole : ℕ) (before : List Item) (piece : Piece) (x : List ℕ) → has_element before ≡ true → legal before (piece.text ++ x) ≡ Some (piece, x)
    → (is_too_deep limits before piece.item ≡ true) ⊎ (has_too_many limits before piece.item ≡ true)
    → PassedItem before piece.item (Some (fault_at limits whole before (piece.text ++ x)))
passed_fault whole before piece x begun l passed =
    (whole, by_deep (is_too_deep limits before piece.item) refl)
  where
    at : fault_at limits whole before (piece.text ++ x) ≡ cond (is_too_deep limits before piece.item) (Depth whole) (TooMany whole)
    at = (λ i. cond (starts_with nat_eq (piece.text ++ x) (codes "<!DOCTYPE") && not (begun i)) (Doctype whole) (otherwise_legal limits before whole (l i)))
        ∙ ap (λ b. cond b (Doctype whole) (cond (is_too_deep limits before piece.item) (Depth whole) (TooMany whole))) (never (starts_with nat_eq (piece.text ++ x) (codes "<!DOCTYPE")))
      where
        never : (b : Bool) → (b && false) ≡ false
        never true = refl
        never false = refl

    by_deep : (b : Bool) → is_too_deep limits before piece.item ≡ b
        → ((Some (fault_at limits whole before (piece.text ++ x)) ≡ Some (Depth whole)) × (is_too_deep limits before piece.item ≡ true))
        ⊎ ((Some (fault_at limits whole before (piece.text ++ x)) ≡ Some (TooMany whole)) × (has_too_many limits before piece.item ≡ true))
    by_deep true e = inl (ap Some (at ∙ ap (λ b. cond b (Depth whole) (TooMany whole)) e), e)
    by_deep false e = inr (ap Some (at ∙ ap (λ b. cond b (Depth whole) (TooMany whole)) e), elim passed [ inl d ↦ absurd (true≢false (sym d ∙ e)) | inr m ↦ m ])

empty_no : (t x : List ℕ) → 0 < length t → is_empty (t ++ x) ≡ false
empty_no [] x h = absurd (omega (arith, h))
empty_no (b ∷ t) x h = refl

-- what the run says
run_whole : (whole : ℕ) (r : Run) → r.rest ≡ [] → is_whole r.before ≡ true → fault_of_run limits whole r ≡ None
run_whole whole r e h =
    (λ i. cond (is_empty (e i)) (cond (is_whole r.before) None (Some End)) (Some (fault_at limits (whole - length (e i)) r.before (e i)))) ∙ ap (λ b. cond b None (Some End)) h

run_passed : (whole : ℕ) (r : Run) (before : List Item) (piece : Piece) (x : List ℕ) → r.before ≡ before → r.rest ≡ piece.text ++ x → has_element before ≡ true
    → legal before (piece.text ++ x) ≡ Some (piece, x) → (is_too_deep limits before piece.item ≡ true) ⊎ (has_too_many limits before piece.item ≡ true)
    → PassedItem before piece.item (fault_of_run limits whole r)
run_passed whole r before piece x b e begun l passed =
    let bytes : List ℕ = piece.text ++ x in
    let has = piece_has bytes (piece, x) (legal_is before bytes (piece, x) l).piece in
    let same : fault_of_run limits whole r ≡ Some (fault_at limits (whole - length bytes) before bytes) =
    (λ i. cond (is_empty (e i)) (cond (is_whole (b i)) None (Some End)) (Some (fault_at limits (whole - length (e i)) (b i) (e i))))
    ∙ ap (λ t. cond t (cond (is_whole before) None (Some End)) (Some (fault_at limits (whole - length bytes) before bytes))) (empty_no piece.text x has) in
    subst (PassedItem before piece.item) (sym same) (passed_fault (whole - length bytes) before piece x begun l passed)

pub begun_along : (pieces : List Piece) (before : List Item) → has_element before ≡ true → has_element (items_after pieces before) ≡ true
begun_along pieces before h = ap has_element (after_all pieces before) ∙ begun_around (items_after pieces []) before h

-- one of the items passes a limit
pub record PassesIn (items : List Item) (bytes : List ℕ) : Type 0 where
  pub early : List Item
  pub item : Item
  pub later : List Piece
  pub parts : items ≡ items_after later (item ∷ early)
  pub passed : PassedItem early item (fault bytes)

pub record Spelling (front behind : List Piece) (bytes : List ℕ) : Type 0 where
  pub ends : (Within limits [] (front ++ behind) × (fault bytes ≡ None) × (document_of bytes ≡ tree_after (items_after (front ++ behind) [])))
      ⊎ PassesIn (items_after (front ++ behind) []) bytes

pub spells : (front behind : List Piece) (bytes : List ℕ) → texts (front ++ behind) ≡ bytes → Stand [] (front ++ behind) [] → Within limits [] front
    → has_element (items_after front []) ≡ true → is_whole (items_after (front ++ behind) []) ≡ true → Spelling front behind bytes
unfolding fault document_of
spells front behind bytes same s w begun whole =
    let joined : texts front ++ (texts behind ++ []) ≡ bytes = ap (λ x. texts front ++ x) (append-nil (texts behind)) ∙ sym (texts_join front behind) ∙ same in
    subst (Spelling front behind) joined (record { ends = here (goes_on limits (length start) [] front (texts behind ++ []) (stand_first [] front behind [] s) w (omega arith)) })
  where
    start : List ℕ
    start = texts front ++ (texts behind ++ [])

    here : (g : GoesOn limits (length start) [] start (items_after front []) (texts behind ++ []))
        → (Within limits [] (front ++ behind) × (fault start ≡ None) × (document_of start ≡ tree_after (items_after (front ++ behind) [])))
        ⊎ PassesIn (items_after (front ++ behind) []) start
    here g = elim (ends limits g.bound (items_after front []) behind (stand_second [] front behind [] s) g.enough) [
      | inl all ↦
          let items : (run limits start).before ≡ items_after (front ++ behind) [] = g.alike.before ∙ all.1 ∙ sym (after_join front behind []) in
          inl (
            within_both limits [] front behind w all.0,
            run_whole (length start) (run limits start) (g.alike.rest ∙ all.2) (ap is_whole items ∙ whole),
            ap tree_after items,
          )
      | inr q ↦ inr (record {
        early = items_after q.front (items_after front []);
        item = q.piece.item;
        later = q.behind;
        parts = after_join front behind [] ∙ ap (λ p. items_after p (items_after front [])) q.parts ∙ after_join q.front (q.piece ∷ q.behind) (items_after front []);
        passed = run_passed (length start) (run limits start) (items_after q.front (items_after front [])) q.piece (texts q.behind ++ []) (g.alike.before ∙ q.items) (g.alike.rest ∙ q.rest)
            (begun_along q.front (items_after front []) begun) q.legal_there q.passes;
      })
    ]
