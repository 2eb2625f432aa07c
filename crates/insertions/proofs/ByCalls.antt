-- What the calls of a document tell of where content is put.
use Rattle.std.proofs.Common.{◌≡◌, ℕ, ◌+◌, ◌-◌, ◌≤◌, ◌<◌, List, [], ◌++◌, length, get_or, Option, Some, None, refl, sym, ◌∙◌, ap, subst, arith, length-append}
use Rattle.std.proofs.Math.Logic.{∥∥₁_elim}
use Rattle.std.proofs.Props.{props}
use Rattle.std.proofs.lemmas.Option.{none-some, slice_get-map}
use Rattle.std.proofs.lemmas.Str.{encodes-chars}
use Rattle.std.specs.Prelude.{slice_get, option_map, IfSome, encode_utf8_all}
use Rattle.std.specs.Option.{option_map_or}
use Rattle.std.specs.Str.{chars, IsUtf8}
use Rattle.document_model.specs.Tree.{Node, Nodes, Path, Element, Text, Comment, Instruction, node_at, IsElementAt}
use Rattle.document_model.specs.Places.{Place}
use Rattle.document_model.specs.Documents.{document_of}
use Rattle.doc_spans.specs.declared.rows.Kind.TheVariants as kinds
use Rattle.doc_spans.specs.Seen.{name_of_node}
use Rattle.doc_spans.specs.Shown.{Shown, IsShownOf, path_at, kind_of}
use Rattle.doc_spans.proofs.ChildNodes.{get_there}
use Rattle.insertions.specs.Content.{texts}
use Rattle.insertions.proofs.Found.{ElementSpot}
use Rattle.insertions.proofs.PlacedAt.{one_at, two_at, end_at, some_opening, opened_at, spot_in}
use Rattle.insertions.specs.Placed.{placed_inside}
use Rattle.insertions.specs.declared.pieces.Placed.{Placed}

-- what is asked of an element
pub record IsTheElement (bytes : List ℕ) (shown : Shown) (k start_end end : ℕ) : Type 0 where
  pub has : k < length shown.places
  pub element : option_map kind_of (node_at (document_of bytes) (path_at shown k)) ≡ Some kinds.Element
  pub first : IfSome (slice_get shown.places k) (λ place. start_end ≡ place.first_end)
  pub last : IfSome (slice_get shown.places k) (λ place. end ≡ place.end)

pub element_at : (document : Nodes) (path : Path) → option_map kind_of (node_at document path) ≡ Some kinds.Element → IsElementAt document path
element_at document path e = go (node_at document path) refl e
  where
    go : (o : Option Node) → node_at document path ≡ o → option_map kind_of o ≡ Some kinds.Element → IsElementAt document path
    go None h e = absurd (none-some kinds.Element e)
    go (Some (Element name attributes nodes)) h e = (Element name attributes nodes, h, tt)
    go (Some (Text cs)) h e = cc
    go (Some (Comment cs)) h e = cc
    go (Some (Instruction target content)) h e = cc

-- the last `<` in front of a place, where there is one
pub record IsLastBefore (bytes : List ℕ) (end a : ℕ) : Type 0 where
  pub last : (j : ℕ) → j < end → get_or bytes j 0 ≡ 0x3C → j ≤ a
  pub here : (j : ℕ) → j < end → get_or bytes j 0 ≡ 0x3C → (a < end) × (get_or bytes a 0 ≡ 0x3C)

-- the spot of the element
record Spotted (bytes : List ℕ) (shown : Shown) (k start_end end : ℕ) : Type 0 where
  pub place : Place
  pub first : start_end ≡ place.first_end
  pub last : end ≡ place.end
  pub path : path_at shown k ≡ place.path
  pub spot : ElementSpot bytes place.path place
  pub element : IsElementAt (document_of bytes) place.path

spotted : (bytes : List ℕ) (shown : Shown) (k start_end end : ℕ) → IsShownOf shown bytes → IsTheElement bytes shown k start_end end → Spotted bytes shown k start_end end
spotted bytes shown k start_end end is_shown t =
    let there = get_there shown.places k t.has in
    let place : Place = there.0 in
    let path : path_at shown k ≡ place.path =
    ap (λ o. option_map_or (λ path. path) o []) (slice_get-map (λ (p : Place). p.path) shown.places k ∙ ap (option_map (λ (p : Place). p.path)) there.1) in
    let e : IsElementAt (document_of bytes) place.path = element_at (document_of bytes) place.path (ap (λ p. option_map kind_of (node_at (document_of bytes) p)) (sym path) ∙ t.element) in
    record {
      place = place;
      first = subst (λ o. IfSome o (λ (p : Place). start_end ≡ p.first_end)) there.1 t.first;
      last = subst (λ o. IfSome o (λ (p : Place). end ≡ p.end)) there.1 t.last;
      path = path;
      spot = spot_in bytes shown k place is_shown there.1 e;
      element = e;
    }

-- within the bytes
end_within : (bytes : List ℕ) (shown : Shown) (k start_end end : ℕ) → IsShownOf shown bytes → IsTheElement bytes shown k start_end end → end ≤ length bytes
end_within bytes shown k start_end end is_shown t =
    let s = spotted bytes shown k start_end end is_shown t in
    let w = s.spot in
    let n : length bytes ≡ length (texts w.front) + (length w.piece.text + length (texts w.behind)) =
    ap length w.joined ∙ length-append (texts w.front) (w.piece.text ++ texts w.behind) ∙ ap (λ m. length (texts w.front) + m) (length-append w.piece.text (texts w.behind)) in
    omega (arith, s.last, w.end, n)

-- in front of an end tag
at_end : (bytes : List ℕ) (shown : Shown) (k start_end end a : ℕ) → IsShownOf shown bytes → IsTheElement bytes shown k start_end end → (start_end ≡ end → ⊥) → IsLastBefore bytes end a
    → (content : List ℕ) → placed_inside content (path_at shown k) bytes ≡ one_at content a
at_end bytes shown k start_end end a is_shown t other l content =
    let s = spotted bytes shown k start_end end is_shown t in
    let differ : s.place.first_end ≡ s.place.end → ⊥ = λ e. other (s.first ∙ e ∙ sym s.last) in
    let one = some_opening bytes s.place.path s.place s.spot differ in
    let found = l.here one.0 (subst (λ n. one.0 < n) (sym s.last) one.1) one.2 in
    ap (λ p. placed_inside content p bytes) s.path
    ∙ end_at bytes s.place.path s.place s.spot differ a
    (record { within = subst (λ n. a < n) s.last found.0; here = found.1; last = λ j w e. l.last j (subst (λ n. j < n) (sym s.last) w) e }) content

-- in an empty tag
empty_end : (bytes name : List ℕ) (shown : Shown) (k start_end end : ℕ) → IsShownOf shown bytes → IsTheElement bytes shown k start_end end → start_end ≡ end → IsUtf8 name
    → chars name ≡ option_map_or name_of_node (node_at (document_of bytes) (path_at shown k)) []
    → (2 ≤ end) × ((content : List ℕ) → placed_inside content (path_at shown k) bytes ≡ two_at content name (end - 2) (end - 1))
empty_end bytes name shown k start_end end is_shown t same u named =
    let s = spotted bytes shown k start_end end is_shown t in
    let p = opened_at bytes name s.place.path s.place s.spot (sym s.first ∙ same ∙ s.last) s.element
    (λ node n. sym (encodes-chars name u) ∙ ap encode_utf8_all (named ∙ ap (λ o. option_map_or name_of_node o []) (ap (node_at (document_of bytes)) s.path ∙ n))) in (
      subst (λ n. 2 ≤ n) (sym s.last) p.0,
      (λ content. ap (λ q. placed_inside content q bytes) s.path ∙ p.1 content ∙ (λ i. two_at content name (sym s.last i - 2) (sym s.last i - 1))),
    )

-- For the calls, which know that there is such a tree.

le_is_prop : (a b : ℕ) → IsProp (a ≤ b)
le_is_prop a b = hlevel props

placed_set : IsSet (List Placed)
placed_set = hlevel props

pub seen_within : (bytes : List ℕ) (shown : Shown) (k start_end end : ℕ) → ∥ IsShownOf shown bytes ∥₁ → IsTheElement bytes shown k start_end end → end ≤ length bytes
seen_within bytes shown k start_end end whole t = ∥∥₁_elim whole (le_is_prop end (length bytes)) (λ w. end_within bytes shown k start_end end w t)

pub seen_at_end : (bytes : List ℕ) (shown : Shown) (k start_end end a : ℕ) → ∥ IsShownOf shown bytes ∥₁ → IsTheElement bytes shown k start_end end → (start_end ≡ end → ⊥) → IsLastBefore bytes end a
    → (content : List ℕ) → placed_inside content (path_at shown k) bytes ≡ one_at content a
seen_at_end bytes shown k start_end end a whole t other l content = ∥∥₁_elim whole (placed_set _ _) (λ w. at_end bytes shown k start_end end a w t other l content)

pub seen_two : (bytes name : List ℕ) (shown : Shown) (k start_end end : ℕ) → ∥ IsShownOf shown bytes ∥₁ → IsTheElement bytes shown k start_end end → start_end ≡ end → IsUtf8 name
    → chars name ≡ option_map_or name_of_node (node_at (document_of bytes) (path_at shown k)) [] → 2 ≤ end
seen_two bytes name shown k start_end end whole t same u named =
    ∥∥₁_elim whole (le_is_prop 2 end) (λ w. (empty_end bytes name shown k start_end end w t same u named).0)

pub seen_empty : (bytes name : List ℕ) (shown : Shown) (k start_end end : ℕ) → ∥ IsShownOf shown bytes ∥₁ → IsTheElement bytes shown k start_end end → start_end ≡ end → IsUtf8 name
    → chars name ≡ option_map_or name_of_node (node_at (document_of bytes) (path_at shown k)) []
    → (content : List ℕ) → placed_inside content (path_at shown k) bytes ≡ two_at content name (end - 2) (end - 1)
seen_empty bytes name shown k start_end end whole t same u named content =
    ∥∥₁_elim whole (placed_set _ _) (λ w. (empty_end bytes name shown k start_end end w t same u named).1 content)

pub the_element : (bytes : List ℕ) (shown : Shown) (k s t start_end end : ℕ) → k < length shown.places → option_map kind_of (node_at (document_of bytes) (path_at shown k)) ≡ Some kinds.Element
    → IfSome (slice_get shown.places k) (λ place. (s ≡ place.start) × (start_end ≡ place.first_end)) → IfSome (slice_get shown.places k) (λ place. (t ≡ place.start) × (end ≡ place.end))
    → IsTheElement bytes shown k start_end end
the_element bytes shown k s t start_end end has element first last =
    record { has = has; element = element; first = second_first (slice_get shown.places k) first; last = second_last (slice_get shown.places k) last }
  where
    second_first : (o : Option Place) → IfSome o (λ place. (s ≡ place.start) × (start_end ≡ place.first_end)) → IfSome o (λ place. start_end ≡ place.first_end)
    second_first None h = tt
    second_first (Some place) h = h.1

    second_last : (o : Option Place) → IfSome o (λ place. (t ≡ place.start) × (end ≡ place.end)) → IfSome o (λ place. end ≡ place.end)
    second_last None h = tt
    second_last (Some place) h = h.1
