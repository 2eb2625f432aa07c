-- What is kept of the items before a place decides what may follow them.
use Rattle.std.proofs.Common.{◌≡◌, ℕ, ◌+◌, not, ◌&&◌, ◌||◌, cond, nat_eq, nat_le, List, [], ◌∷◌, Option, Some, None, refl, sym, ◌∙◌, ap}
use Rattle.std.specs.Prelude.{option_and_then, codes}
use Rattle.std.specs.List.{starts_with}
use Rattle.document_model.specs.Characters.{is_empty}
use Rattle.document_model.specs.Items.{Item, Piece, declaration, start_tag, empty_tag, end_tag, character, reference, cdata, comment, instruction, piece_at, when}
use Rattle.document_model.specs.Tree.{depth}
use Rattle.document_model.specs.Documents.{open_elements, has_element, may_follow, limits, is_too_deep, is_in_text, text_nodes, new_nodes, nodes_of, has_too_many, legal, legal_within, Doctype, Depth, TooMany, otherwise_legal, fault_at}
use Rattle.doc_spans.specs.Standing.{standing_of, may_stand, is_deep, new_texts, nodes_added, is_one_too_many, legal_here, legal_within_here, limit_fault, fault_here, after}
use Rattle.doc_spans.proofs.Run.{opens}
use Rattle.doc_spans.proofs.Tags.{none_open}

pub flat : (before : List Item) → is_empty (open_elements before) ≡ nat_eq (depth before) 0
flat before = none_open (open_elements before) ∙ ap (λ n. nat_eq n 0) (sym (opens before))

texts_same : (before : List Item) (cs : List ℕ) → new_texts (standing_of before) cs ≡ text_nodes before cs
texts_same before [] = refl
texts_same before (c ∷ cs) = ap (λ b. cond (b || is_in_text before) 0 1) (flat before)

pub nodes_same : (before : List Item) (item : Item) → nodes_added (standing_of before) item ≡ new_nodes before item
nodes_same before declaration = refl
nodes_same before (start_tag name attributes) = refl
nodes_same before (empty_tag name attributes) = refl
nodes_same before (end_tag name) = refl
nodes_same before (character c) = texts_same before (c ∷ [])
nodes_same before (reference c) = texts_same before (c ∷ [])
nodes_same before (cdata cs) = texts_same before cs
nodes_same before (comment cs) = refl
nodes_same before (instruction target content) = refl

after_but_nodes : (before : List Item) (item : Item) → record (after item (standing_of before)) { nodes = 0 } ≡ record (standing_of (item ∷ before)) { nodes = 0 }
after_but_nodes before declaration = refl
after_but_nodes before (start_tag name attributes) = refl
after_but_nodes before (empty_tag name attributes) = refl
after_but_nodes before (end_tag name) = refl
after_but_nodes before (character c) = refl
after_but_nodes before (reference c) = refl
after_but_nodes before (cdata []) = refl
after_but_nodes before (cdata (c ∷ cs)) = refl
after_but_nodes before (comment cs) = refl
after_but_nodes before (instruction target content) = refl

pub standing_after : (before : List Item) (item : Item) → after item (standing_of before) ≡ standing_of (item ∷ before)
standing_after before item =
    (λ i. record (after_but_nodes before item i) { nodes = nodes_same before item i + nodes_of before })

may_same : (before : List Item) (item : Item) → may_stand (standing_of before) item ≡ may_follow before item
may_same before declaration = refl
may_same before (start_tag name attributes) = refl
may_same before (empty_tag name attributes) = refl
may_same before (end_tag name) = refl
may_same before (character c) = refl
may_same before (reference c) = refl
may_same before (cdata cs) = refl
may_same before (comment cs) = refl
may_same before (instruction target content) = refl

deep_same : (before : List Item) (item : Item) → is_deep (standing_of before) item ≡ is_too_deep limits before item
deep_same before declaration = refl
deep_same before (start_tag name attributes) = ap (nat_le limits.depth) (sym (opens before))
deep_same before (empty_tag name attributes) = ap (nat_le limits.depth) (sym (opens before))
deep_same before (end_tag name) = refl
deep_same before (character c) = refl
deep_same before (reference c) = refl
deep_same before (cdata cs) = refl
deep_same before (comment cs) = refl
deep_same before (instruction target content) = refl

many_same : (before : List Item) (item : Item) → is_one_too_many (standing_of before) item ≡ has_too_many limits before item
many_same before item = ap (λ n. not (nat_le (n + nodes_of before) limits.nodes)) (nodes_same before item)

legal_same : (before : List Item) (bytes : List ℕ) → legal_here (standing_of before) bytes ≡ legal before bytes
legal_same before bytes = go (piece_at bytes)
  where
    go : (o : Option (Piece × List ℕ))
        → option_and_then (λ found. when (may_stand (standing_of before) found.0.item) found) o ≡ option_and_then (λ found. when (may_follow before found.0.item) found) o
    go None = refl
    go (Some found) = ap (λ b. when b found) (may_same before found.0.item)

pub within_same : (before : List Item) (bytes : List ℕ) → legal_within_here (standing_of before) bytes ≡ legal_within limits before bytes
within_same before bytes = go (legal_here (standing_of before) bytes) ∙ ap (option_and_then (λ found. when (not (is_too_deep limits before found.0.item) && not (has_too_many limits before found.0.item)) found)) (legal_same before bytes)
  where
    go : (o : Option (Piece × List ℕ))
        → option_and_then (λ found. when (not (is_deep (standing_of before) found.0.item) && not (is_one_too_many (standing_of before) found.0.item)) found) o
        ≡ option_and_then (λ found. when (not (is_too_deep limits before found.0.item) && not (has_too_many limits before found.0.item)) found) o
    go None = refl
    go (Some found) = (λ i. when (not (deep_same before found.0.item i) && not (many_same before found.0.item i)) found)

limit_same : (before : List Item) (place : ℕ) (o : Option (Piece × List ℕ)) → limit_fault (standing_of before) place o ≡ otherwise_legal limits before place o
limit_same before place None = refl
limit_same before place (Some found) = ap (λ b. cond b (Depth place) (TooMany place)) (deep_same before found.0.item)

pub fault_same : (before : List Item) (place : ℕ) (bytes : List ℕ) → fault_here (standing_of before) place bytes ≡ fault_at limits place before bytes
fault_same before place bytes =
    ap (λ f. cond (starts_with nat_eq bytes (codes "<!DOCTYPE") && not (has_element before)) (Doctype place) f)
    (limit_same before place (legal_here (standing_of before) bytes) ∙ ap (otherwise_legal limits before place) (legal_same before bytes))
