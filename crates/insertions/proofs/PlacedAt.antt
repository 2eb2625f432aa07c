-- What is put in for content, by the place of the element.
use Rattle.std.proofs.Common.{◌≡◌, ℕ, zero, suc, ◌+◌, ◌-◌, ◌≤◌, ◌<◌, Bool, true, false, not, List, [], ◌∷◌, ◌++◌, length, get_or, Some, refl, sym, ◌∙◌, ap, subst, inl, inr, arith, nat_eq, length-append, codes}
use Rattle.std.proofs.lemmas.Bool.{true≢false, eqb-true, eqb-false, eq-eqb, and_parts}
use Rattle.std.proofs.Math.Seq.{get_or-append_seam, get_or-append_right}
use Rattle.std.proofs.Math.ListN.{get_or-append}
use Rattle.std.specs.Prelude.{encode_utf8_all}
use Rattle.std.specs.List.{list_all}
use Rattle.std.specs.Prelude.{slice_get}
use Rattle.std.proofs.lemmas.List.Sorted.{IsPermutation-sym, All-permutation}
use Rattle.document_model.specs.Names.{Name, spelled}
use Rattle.document_model.specs.Documents.{run, limits, document_of}
use Rattle.document_model.specs.Items.{Attribute, Piece, empty_tag, end_tag}
use Rattle.document_model.specs.Tree.{Node, Path, node_at, IsElementAt}
use Rattle.document_model.specs.Places.{Place, places_of}
use Rattle.doc_spans.specs.Seen.{name_of_node}
use Rattle.doc_spans.specs.Shown.{Shown, IsShownOf}
use Rattle.doc_spans.specs.View.{Each}
use Rattle.doc_spans.proofs.Each.{each_get}
use Rattle.doc_spans.proofs.NodeTexts.{all_of_each, each_of_all}
use Rattle.insertions.proofs.Spot.{PlaceAt, places_stand}
use Rattle.insertions.specs.Content.{texts}
use Rattle.insertions.proofs.Opened.{EmptyTag, front_of}
use Rattle.insertions.proofs.Found.{no_less, EndText, ElementSpot, ready, spot_of}
use Rattle.insertions.specs.Placed.{for_content, placed_inside}
use Rattle.insertions.specs.declared.pieces.Placed.{Placed}

abbrev pub one_at : List ℕ → ℕ → List Placed
one_at content at = record { at = at; bytes = content } ∷ []

abbrev pub two_at : List ℕ → List ℕ → ℕ → ℕ → List Placed
two_at content name at next = record { at = at; bytes = codes ">" ++ (content ++ codes "<") } ∷ record { at = next; bytes = name } ∷ []

none_at : (rest : List ℕ) (j : ℕ) → list_all no_less rest ≡ true → j < length rest → get_or rest j 0 ≡ 0x3C → ⊥
none_at [] j h l e = absurd (omega (arith, l))
none_at (b ∷ rest) zero h l e = true≢false (sym (and_parts (no_less b) (list_all no_less rest) h).0 ∙ ap not (eq-eqb b 0x3C e))
none_at (b ∷ rest) (suc j) h l e = none_at rest j (and_parts (no_less b) (list_all no_less rest) h).1 (omega (arith, l)) e

-- the last `<` in front of a place
pub record IsLastOpening (bytes : List ℕ) (end at : ℕ) : Type 0 where
  pub within : at < end
  pub here : get_or bytes at 0 ≡ 0x3C
  pub last : (k : ℕ) → k < end → get_or bytes k 0 ≡ 0x3C → k ≤ at

-- the parts of bytes with an end tag in them
at_front : (front rest behind : List ℕ) (a : ℕ) → list_all no_less rest ≡ true → IsLastOpening (front ++ (0x3C ∷ (rest ++ behind))) (length front + suc (length rest)) a → a ≡ length front
at_front front rest behind a none l =
    let bytes : List ℕ = front ++ (0x3C ∷ (rest ++ behind)) in
    let first : length front ≤ a = l.last (length front) (omega arith) (get_or-append_seam front 0x3C (rest ++ behind) 0) in
    either (nat_eq a (length front)) refl first
  where
    either : (b : Bool) → nat_eq a (length front) ≡ b → length front ≤ a → a ≡ length front
    either true e first = eqb-true a (length front) e
    either false e first =
        let other = eqb-false a (length front) e in
        let w : a < length front + suc (length rest) = l.within in
        let j : ℕ = a - length front - 1 in
        let is_suc : a - length front ≡ suc j = omega (arith, first, other) in
        let short : j < length rest = omega (arith, first, other, w) in
        absurd (none_at rest j none short
        (sym (get_or-append rest behind 0 j short)
        ∙ sym (get_or-append_right front (0x3C ∷ (rest ++ behind)) a 0 first ∙ ap (λ n. get_or (0x3C ∷ (rest ++ behind)) n 0) is_suc) ∙ l.here))

-- what is put in for content in front of an end tag
pub end_at : (bytes : List ℕ) (host : Path) (place : Place) → ElementSpot bytes host place → (place.first_end ≡ place.end → ⊥) → (a : ℕ) → IsLastOpening bytes place.end a
    → (content : List ℕ) → placed_inside content host bytes ≡ one_at content a
end_at bytes host place s other a l content = elim s.kind [
  | inl empty ↦ absurd (other empty.3)
  | inr closed ↦ go closed.1 closed.2.0 closed.2.1
]
  where
    front : List ℕ
    front = texts s.front

    behind : List ℕ
    behind = texts s.behind

    go : (t : EndText s.piece.text) → (name : _) → s.piece.item ≡ end_tag name → placed_inside content host bytes ≡ one_at content a
    go t name e =
        let text : s.piece.text ++ behind ≡ 0x3C ∷ (t.rest ++ behind) = ap (λ x. x ++ behind) t.is_text in
        let whole : bytes ≡ front ++ (0x3C ∷ (t.rest ++ behind)) = s.joined ∙ ap (λ x. front ++ x) text in
        let end : place.end ≡ length front + suc (length t.rest) = s.end ∙ ap (λ x. length front + length x) t.is_text in
        let n : a ≡ length front = at_front front t.rest behind a t.none (subst (λ m. IsLastOpening (front ++ (0x3C ∷ (t.rest ++ behind))) m a) end (subst (λ x. IsLastOpening x place.end a) whole l)) in
        s.placed content ∙ ap (λ item. for_content content (length front) s.piece.text item) e ∙ ap (λ k. one_at content k) (sym n)

-- there is such a place
pub some_opening : (bytes : List ℕ) (host : Path) (place : Place) → ElementSpot bytes host place → (place.first_end ≡ place.end → ⊥) → (k : ℕ) × (k < place.end) × (get_or bytes k 0 ≡ 0x3C)
some_opening bytes host place s other = elim s.kind [
  | inl empty ↦ absurd (other empty.3)
  | inr closed ↦
      let t = closed.1 in (
        length (texts s.front),
        (let e : place.end ≡ length (texts s.front) + suc (length t.rest) = s.end ∙ ap (λ x. length (texts s.front) + length x) t.is_text in omega (arith, e)),
        ap (λ x. get_or x (length (texts s.front)) 0) (s.joined ∙ ap (λ x. texts s.front ++ (x ++ texts s.behind)) t.is_text)
            ∙ get_or-append_seam (texts s.front) 0x3C (t.rest ++ texts s.behind) 0,
      )
]

-- what is put in for content in an empty tag
pub opened_at : (bytes name_bytes : List ℕ) (host : Path) (place : Place) → (s : ElementSpot bytes host place) → place.first_end ≡ place.end → IsElementAt (document_of bytes) host
    → ((node : Node) → node_at (document_of bytes) host ≡ Some node → name_bytes ≡ encode_utf8_all (name_of_node node))
    → (2 ≤ place.end) × ((content : List ℕ) → placed_inside content host bytes ≡ two_at content name_bytes (place.end - 2) (place.end - 1))
opened_at bytes name_bytes host place s same e named = elim s.kind [
  | inl empty ↦ go empty.0 empty.1 empty.2 empty.4 empty.5
  | inr closed ↦
      let t = closed.1 in
      absurd (let n : place.end ≡ length (texts s.front) + suc (length t.rest) = s.end ∙ ap (λ x. length (texts s.front) + length x) t.is_text in
      let l : place.first_end ≤ length (texts s.front) = closed.0 in omega (arith, same, n, l))
]
  where
    go : (name : Name) (attributes : List Attribute) → s.piece.item ≡ empty_tag name attributes → (w : EmptyTag s.piece.text name attributes)
        → ((node : Node) → node_at (document_of bytes) host ≡ Some node → name_of_node node ≡ spelled name)
        → (2 ≤ place.end) × ((content : List ℕ) → placed_inside content host bytes ≡ two_at content name_bytes (place.end - 2) (place.end - 1))
    go name attributes is_empty_tag w names =
        let size : length s.piece.text ≡ length (front_of w.inner) + 2 = ap length w.is_text ∙ length-append (front_of w.inner) (0x2F ∷ 0x3E ∷ []) in
        let end : place.end ≡ length (texts s.front) + length s.piece.text = s.end in
        let slash : length (texts s.front) + (length s.piece.text - 2) ≡ place.end - 2 = omega (arith, end, size) in
        let next : length (texts s.front) + (length s.piece.text - 2) + 1 ≡ place.end - 1 = omega (arith, end, size) in
        let nb : encode_utf8_all (spelled name) ≡ name_bytes = sym (named e.0 e.1 ∙ ap encode_utf8_all (names e.0 e.1)) in (
          (let l : 2 ≤ place.end = omega (arith, end, size) in l),
          (λ content. s.placed content ∙ ap (λ item. for_content content (length (texts s.front)) s.piece.text item) is_empty_tag ∙ (λ i. two_at content (nb i) (slash i) (next i))),
        )

-- In a document that was read.

pub spot_in : (bytes : List ℕ) (shown : Shown) (k : ℕ) (place : Place) → IsShownOf shown bytes → slice_get shown.places k ≡ Some place → IsElementAt (document_of bytes) place.path
    → ElementSpot bytes place.path place
spot_in bytes shown k place is_shown at e =
    let pieces : List Piece = (run limits bytes).pieces in
    let P : Place → Type 0 = PlaceAt [] 0 pieces in
    let all : Each P shown.places = each_of_all P shown.places
    (All-permutation P (places_of bytes) shown.places (IsPermutation-sym shown.places (places_of bytes) is_shown.tree.numbered) (all_of_each P (places_of bytes) (places_stand [] 0 pieces))) in
    spot_of bytes place (ready bytes is_shown.tree.spelled) e (each_get P shown.places k place all at)
