-- The bytes that have content in the element of a path: it is closed by one item.
use Rattle.std.proofs.Common.{◌≡◌, ℕ, zero, suc, pred, ◌<◌, Bool, true, false, cond, ◌&&◌, List, [], ◌∷◌, ◌++◌, Option, refl, sym, ◌∙◌, ap, subst, subst₂, arith, inl, inr, append_assoc, ◌+◌, length, length-append}
use Rattle.std.proofs.lemmas.Bool.{and_parts}
use Rattle.std.proofs.lemmas.List.{append-nil}
use Rattle.std.specs.Option.{option_map_or}
use Rattle.std.specs.Str.{bytes_eq}
use Rattle.std.specs.Cmp.Lexicographic.{same_text}
use Rattle.std.proofs.lemmas.Option.{same_Some}
use Rattle.document_model.specs.Items.{Item, Piece, declaration, start_tag, empty_tag, end_tag, character, reference, cdata, comment, instruction}
use Rattle.document_model.specs.Tree.{Node, Nodes, Path, no_nodes, ◌⨾◌, below, IsElementAt, depth, tree_after, last_path, count}
use Rattle.document_model.specs.Places.{path_of}
use Rattle.document_model.specs.Insertion.{may_close, pieces_with, with_content}
use Rattle.document_model.proofs.Grown.{Spine}
use Rattle.document_model.proofs.Put.{Before, Off, last_nth, closing, off_after, off_closed}
use Rattle.xml_items.proofs.AsciiTexts.{same_from}
use Rattle.doc_spans.specs.Marks.{items_of, Fits, Follow}
use Rattle.doc_spans.proofs.Marks.{onto}
use Rattle.doc_spans.proofs.Steps.{spine}
use Rattle.insertions.specs.Content.{texts, items_after}
use Rattle.insertions.proofs.Standing.{after_join}
use Rattle.insertions.proofs.Closings.{end_path, same_tree, empty_path, closed_or_open}
use Rattle.insertions.specs.Placed.{for_content, placed_in}

not_before : (nodes : Nodes) → Before (pred (count nodes)) nodes → ⊥
not_before no_nodes h = h
not_before (node ⨾ no_nodes) h = h
not_before (node ⨾ next ⨾ nodes) h = not_before (next ⨾ nodes) h

-- the path of the innermost open element is not off
pub off_open : (d : ℕ) (nodes : Nodes) → Spine d nodes → Off (last_path d nodes) d nodes → ⊥
off_open zero nodes s o = o
off_open (suc d) nodes s o = elim o.3 [
  | inl b ↦ not_before nodes b
  | inr l ↦
      let same : o.0 ≡ s.0 = same_Some o.0 s.0 (sym o.1 ∙ last_nth nodes s.0 s.1) in
      let P : Option Node → Node → Type 0 = λ last node. Off (option_map_or (λ node. last_path d (below node)) last []) d (below node) in
      off_open d (below s.0) s.3 (subst₂ P s.1 same l.1)
]

-- an element that is closed is off
pub closes_off : (host : Path) (item : Item) (before : List Item) → Fits before item → Follow before → may_close item ≡ true → path_of before item ≡ host
    → Off host (depth (item ∷ before)) (tree_after (item ∷ before))
closes_off host (end_tag name) before f h may at =
    let P : Path → Nodes → Type 0 = λ path nodes. Off path (pred (depth before)) nodes in
    subst₂ P (sym (end_path before name) ∙ at) (sym (closing name before)) (go (depth before) f (spine before h))
  where
    go : (n : ℕ) → 0 < n → Spine n (tree_after before) → Off (last_path n (tree_after before)) (pred n) (tree_after before)
    go zero lt s = absurd (omega (arith, lt))
    go (suc d) lt s = off_closed d (tree_after before) s
closes_off host (empty_tag name attributes) before f h may at =
    let P : Path → Nodes → Type 0 = λ path nodes. Off path (depth before) nodes in
    subst₂ P (sym (empty_path before name attributes) ∙ at) (sym (same_tree before name attributes))
    (off_closed (depth before) (tree_after (start_tag name attributes ∷ before)) (spine (start_tag name attributes ∷ before) (tt, h)))
closes_off host declaration before f h may at = cc
closes_off host (start_tag name attributes) before f h may at = cc
closes_off host (character c) before f h may at = cc
closes_off host (reference c) before f h may at = cc
closes_off host (cdata cs) before f h may at = cc
closes_off host (comment cs) before f h may at = cc
closes_off host (instruction target content) before f h may at = cc

-- and isn't closed again
not_closing : (host : Path) (item : Item) (before : List Item) → Follow before → Off host (depth before) (tree_after before) → may_close item ≡ true → path_of before item ≡ host → ⊥
not_closing host (end_tag name) before h o may at =
    let P : Path → Type 0 = λ path. Off path (depth before) (tree_after before) in
    off_open (depth before) (tree_after before) (spine before h) (subst P (sym at ∙ end_path before name) o)
not_closing host (empty_tag name attributes) before h o may at =
    let items : List Item = start_tag name attributes ∷ before in
    let P : Path → Type 0 = λ path. Off path (depth items) (tree_after items) in
    off_open (depth items) (tree_after items) (spine items (tt, h)) (subst P (sym at ∙ empty_path before name attributes) (off_after (start_tag name attributes) before host o))
not_closing host declaration before h o may at = cc
not_closing host (start_tag name attributes) before h o may at = cc
not_closing host (character c) before h o may at = cc
not_closing host (reference c) before h o may at = cc
not_closing host (cdata cs) before h o may at = cc
not_closing host (comment cs) before h o may at = cc
not_closing host (instruction target content) before h o may at = cc

pub follow_before : (pieces : List Piece) (before : List Item) → Follow (items_after pieces before) → Follow before
follow_before [] before h = h
follow_before (piece ∷ pieces) before h = (follow_before pieces (piece.item ∷ before) h).1

off_along : (host : Path) (pieces : List Piece) (before : List Item) → Off host (depth before) (tree_after before) → Off host (depth (items_after pieces before)) (tree_after (items_after pieces before))
off_along host [] before o = o
off_along host (piece ∷ pieces) before o = off_along host pieces (piece.item ∷ before) (off_after piece.item before host o)

abbrev pub is_host : Path → List Item → Item → Bool
is_host host before item = may_close item && bytes_eq (path_of before item) host

host_parts : (host : Path) (before : List Item) (item : Item) → is_host host before item ≡ true → (may_close item ≡ true) × (path_of before item ≡ host)
host_parts host before item e =
    let both = and_parts (may_close item) (bytes_eq (path_of before item) host) e in (both.0, same_text (path_of before item) host (sym both.1))

is_the_host : (host : Path) (before : List Item) (item : Item) → may_close item ≡ true → path_of before item ≡ host → is_host host before item ≡ true
is_the_host host before item may at = (λ i. may i && bytes_eq (at i) host) ∙ same_from host host refl

-- no piece closes the element
abbrev pub NoneCloses : Path → List Item → List Piece → Type 0
NoneCloses host before [] = Unit {0}
NoneCloses host before (piece ∷ pieces) = (is_host host before piece.item ≡ false) × NoneCloses host (piece.item ∷ before) pieces

-- one does, and no other one
pub record ClosedOnce (host : Path) (before : List Item) (front : List Piece) (piece : Piece) (behind : List Piece) : Type 0 where
  pub none_in_front : NoneCloses host before front
  pub here : is_host host (items_after front before) piece.item ≡ true
  pub none_behind : NoneCloses host (piece.item ∷ items_after front before) behind

either_way : (b : Bool) → (b ≡ true → ⊥) → b ≡ false
either_way true h = absurd (h refl)
either_way false h = refl

none_behind : (host : Path) (before : List Item) (pieces : List Piece) → Off host (depth before) (tree_after before) → Follow (items_after pieces before) → NoneCloses host before pieces
none_behind host before [] o h = tt
none_behind host before (piece ∷ pieces) o h = (
  either_way (is_host host before piece.item) (λ e.
      let parts = host_parts host before piece.item e in not_closing host piece.item before (follow_before (piece ∷ pieces) before h) o parts.0 parts.1),
  none_behind host (piece.item ∷ before) pieces (off_after piece.item before host o) h,
)

none_in_front : (host : Path) (before : List Item) (front : List Piece) (piece : Piece) (behind : List Piece) → Follow (items_after (front ++ (piece ∷ behind)) before)
    → may_close piece.item ≡ true → path_of (items_after front before) piece.item ≡ host → NoneCloses host before front
none_in_front host before [] piece behind h may at = tt
none_in_front host before (first ∷ front) piece behind h may at =
    (either_way (is_host host before first.item) twice, none_in_front host (first.item ∷ before) front piece behind h may at)
  where
    twice : is_host host before first.item ≡ true → ⊥
    twice e =
        let parts = host_parts host before first.item e in
        let f = follow_before (front ++ (piece ∷ behind)) (first.item ∷ before) h in
        let o = closes_off host first.item before f.0 f.1 parts.0 parts.1 in
        let later : List Item = items_after front (first.item ∷ before) in
        let g : Follow (items_after (piece ∷ behind) later) = subst Follow (after_join front (piece ∷ behind) (first.item ∷ before)) h in
        not_closing host piece.item later (follow_before (piece ∷ behind) later g) (off_along host front (first.item ∷ before) o) may at

pub closed_once : (host : Path) (before : List Item) (front : List Piece) (piece : Piece) (behind : List Piece) → Follow (items_after (front ++ (piece ∷ behind)) before)
    → may_close piece.item ≡ true → path_of (items_after front before) piece.item ≡ host → ClosedOnce host before front piece behind
closed_once host before front piece behind h may at =
    let later : List Item = items_after front before in
    let g : Follow (items_after behind (piece.item ∷ later)) = subst Follow (after_join front (piece ∷ behind) before) h in
    let f = follow_before behind (piece.item ∷ later) g in
    record {
      none_in_front = none_in_front host before front piece behind h may at;
      here = is_the_host host later piece.item may at;
      none_behind = none_behind host (piece.item ∷ later) behind (closes_off host piece.item later f.0 f.1 may at) g;
    }

pieces_none : (content : List ℕ) (host : Path) (before : List Item) (pieces : List Piece) → NoneCloses host before pieces → pieces_with content host before pieces ≡ texts pieces
pieces_none content host before [] n = refl
pieces_none content host before (piece ∷ pieces) n =
    (λ i. cond (n.0 i) (with_content content piece.text piece.item) piece.text ++ pieces_with content host (piece.item ∷ before) pieces)
    ∙ ap (λ x. piece.text ++ x) (pieces_none content host (piece.item ∷ before) pieces n.1)

pieces_once : (content : List ℕ) (host : Path) (before : List Item) (front : List Piece) (piece : Piece) (behind : List Piece)
    → NoneCloses host before front → is_host host (items_after front before) piece.item ≡ true → NoneCloses host (piece.item ∷ items_after front before) behind
    → pieces_with content host before (front ++ (piece ∷ behind)) ≡ texts front ++ (with_content content piece.text piece.item ++ texts behind)
pieces_once content host before [] piece behind n here m =
    (λ i. cond (here i) (with_content content piece.text piece.item) piece.text ++ pieces_with content host (piece.item ∷ before) behind)
    ∙ ap (λ x. with_content content piece.text piece.item ++ x) (pieces_none content host (piece.item ∷ before) behind m)
pieces_once content host before (first ∷ front) piece behind n here m =
    (λ i. cond (n.0 i) (with_content content first.text first.item) first.text ++ pieces_with content host (first.item ∷ before) (front ++ (piece ∷ behind)))
    ∙ ap (λ x. first.text ++ x) (pieces_once content host (first.item ∷ before) front piece behind n.1 here m)
    ∙ sym (append_assoc first.text (texts front) (with_content content piece.text piece.item ++ texts behind))

-- all pieces
pub pieces_spliced : (content : List ℕ) (host : Path) (before : List Item) (front : List Piece) (piece : Piece) (behind : List Piece)
    → Follow (items_after (front ++ (piece ∷ behind)) before) → may_close piece.item ≡ true → path_of (items_after front before) piece.item ≡ host
    → pieces_with content host before (front ++ (piece ∷ behind)) ≡ texts front ++ (with_content content piece.text piece.item ++ texts behind)
pieces_spliced content host before front piece behind h may at =
    let once = closed_once host before front piece behind h may at in
    pieces_once content host before front piece behind once.none_in_front once.here once.none_behind

-- What is put in for the content.

placed_none : (content : List ℕ) (host : Path) (at : ℕ) (before : List Item) (pieces : List Piece) → NoneCloses host before pieces → placed_in content host at before pieces ≡ []
placed_none content host at before [] n = refl
placed_none content host at before (piece ∷ pieces) n =
    (λ i. cond (n.0 i) (for_content content at piece.text piece.item) [] ++ placed_in content host (at + length piece.text) (piece.item ∷ before) pieces)
    ∙ placed_none content host (at + length piece.text) (piece.item ∷ before) pieces n.1

placed_by : (content : List ℕ) (host : Path) (at : ℕ) (before : List Item) (front : List Piece) (piece : Piece) (behind : List Piece)
    → NoneCloses host before front → is_host host (items_after front before) piece.item ≡ true → NoneCloses host (piece.item ∷ items_after front before) behind
    → placed_in content host at before (front ++ (piece ∷ behind)) ≡ for_content content (at + length (texts front)) piece.text piece.item
placed_by content host at before [] piece behind n here m =
    (λ i. cond (here i) (for_content content at piece.text piece.item) [] ++ placed_in content host (at + length piece.text) (piece.item ∷ before) behind)
    ∙ ap (λ x. for_content content at piece.text piece.item ++ x) (placed_none content host (at + length piece.text) (piece.item ∷ before) behind m)
    ∙ append-nil (for_content content at piece.text piece.item)
    ∙ ap (λ k. for_content content k piece.text piece.item) (let z : at ≡ at + 0 = omega arith in z)
placed_by content host at before (first ∷ front) piece behind n here m =
    (λ i. cond (n.0 i) (for_content content at first.text first.item) [] ++ placed_in content host (at + length first.text) (first.item ∷ before) (front ++ (piece ∷ behind)))
    ∙ placed_by content host (at + length first.text) (first.item ∷ before) front piece behind n.1 here m
    ∙ ap (λ k. for_content content k piece.text piece.item)
    (let e = length-append first.text (texts front) in let z : at + length first.text + length (texts front) ≡ at + length (first.text ++ texts front) = omega (arith, e) in z)

pub placed_once : (content : List ℕ) (host : Path) (at : ℕ) (before : List Item) (front : List Piece) (piece : Piece) (behind : List Piece)
    → Follow (items_after (front ++ (piece ∷ behind)) before) → may_close piece.item ≡ true → path_of (items_after front before) piece.item ≡ host
    → placed_in content host at before (front ++ (piece ∷ behind)) ≡ for_content content (at + length (texts front)) piece.text piece.item
placed_once content host at before front piece behind h may there =
    let once = closed_once host before front piece behind h may there in
    placed_by content host at before front piece behind once.none_in_front once.here once.none_behind

-- From the last piece to the first.

pub items_onto : (pieces before : List Piece) → items_of (onto pieces before) ≡ items_after pieces (items_of before)
items_onto [] before = refl
items_onto (piece ∷ pieces) before = items_onto pieces (piece ∷ before)

onto_twice : (p a b : List Piece) → onto (onto p a) b ≡ onto a (p ++ b)
onto_twice [] a b = refl
onto_twice (piece ∷ p) a b = onto_twice p (piece ∷ a) b

onto_join : (a b c : List Piece) → onto (a ++ b) c ≡ onto b (onto a c)
onto_join [] b c = refl
onto_join (piece ∷ a) b c = onto_join a b (piece ∷ c)

onto_front : (a c : List Piece) → onto a c ≡ onto a [] ++ c
onto_front [] c = refl
onto_front (piece ∷ a) c = onto_front a (piece ∷ c) ∙ sym (append_assoc (onto a []) (piece ∷ []) c) ∙ ap (λ x. x ++ c) (sym (onto_front a (piece ∷ [])))

back : (p : List Piece) → onto (onto p []) [] ≡ p
back p = onto_twice p [] [] ∙ append-nil p

-- the pieces in front of the one that closes an element, that one, and those behind it
pub record Splits (host : Path) (pieces : List Piece) : Type 0 where
  pub front : List Piece
  pub piece : Piece
  pub behind : List Piece
  pub parts : pieces ≡ front ++ (piece ∷ behind)
  pub may : may_close piece.item ≡ true
  pub at : path_of (items_after front []) piece.item ≡ host

pub splits : (host : Path) (pieces : List Piece) → Follow (items_after pieces []) → depth (items_after pieces []) ≡ 0 → IsElementAt (tree_after (items_after pieces [])) host → Splits host pieces
splits host pieces h flat e =
    let same : items_of (onto pieces []) ≡ items_after pieces [] = items_onto pieces [] in
    elim (closed_or_open (onto pieces []) (subst Follow (sym same) h) host (subst (λ items. IsElementAt (tree_after items) host) (sym same) e)) [
      | inl c ↦ record {
        front = onto c.front [];
        piece = c.piece;
        behind = onto c.behind [];
        parts = sym (back pieces) ∙ ap (λ p. onto p []) c.parts ∙ onto_join c.behind (c.piece ∷ c.front) [] ∙ onto_front c.front (c.piece ∷ onto c.behind []);
        may = c.may;
        at = ap (λ items. path_of items c.piece.item) (sym (items_onto (onto c.front []) []) ∙ ap items_of (back c.front)) ∙ c.at;
      }
      | inr o ↦ absurd (let l = o.inside in let z : depth (items_of (onto pieces [])) ≡ 0 = ap depth same ∙ flat in omega (arith, l, z))
    ]
