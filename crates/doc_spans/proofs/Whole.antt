-- The rows of a whole document's items are its tree.
use Rattle.std.proofs.Common.{◌≡◌, ℕ, zero, suc, Bool, true, false, cond, ◌&&◌, List, [], ◌∷◌, ◌++◌, length, Some, None, refl, sym, ◌∙◌, ap, subst, arith, ◌-◌}
use Rattle.std.proofs.lemmas.Option.{none-some, same_Some}
use Rattle.std.specs.Prelude.{map, slice_get, option_map, IsPermutation}
use Rattle.document_model.specs.Characters.{is_empty}
use Rattle.document_model.specs.Items.{Item, Piece, declaration, start_tag, empty_tag, end_tag, character, reference, cdata, comment, instruction}
use Rattle.document_model.specs.Tree.{Node, Nodes, Path, node_at, depth, tree_after}
use Rattle.document_model.specs.Tree as tree
use Rattle.document_model.specs.Scopes.{Tag}
use Rattle.document_model.specs.NodeSets.{is_within}
use Rattle.document_model.specs.Documents.{Run, run, limits, open_elements, is_whole, has_element, fault_at, fault_of_run, fault, document_of, End}
use Rattle.document_model.specs.Places.{Place, places_of, begins_node, path_of}
use Rattle.doc_spans.specs.declared.rows.Kind.{Kind}
use Rattle.doc_spans.specs.Marks.{size, items_of, begun, places_after, kinds_after, kind_of_item}
use Rattle.doc_spans.specs.Building.{State}
use Rattle.doc_spans.specs.View.{Each, places_of_rows, seen_at, IsTree, Distinct}
use Rattle.doc_spans.specs.Shown.{shown_of, kind_of, IsShownOf}
use Rattle.doc_spans.proofs.Each.{each_get, map_map, map_join}
use Rattle.doc_spans.proofs.Marks.{onto}
use Rattle.doc_spans.proofs.Named.{paths, IsNode, paths_name, Mark, IsMark, marks_after, marks_name, marks_places, mark_gone_on, places, head_of}
use Rattle.doc_spans.proofs.Stays.{head}
use Rattle.doc_spans.proofs.Builds.{Builds, rows_distinct, row_paths, shown_paths}
use Rattle.doc_spans.proofs.Links.{Built}
use Rattle.doc_spans.proofs.Run.{opens, run_good, places_of_run}

-- At the end no element is open.

no_tags : (tags : List Tag) → is_empty tags ≡ true → length tags ≡ 0
no_tags [] e = refl
no_tags (tag ∷ tags) e = cc

both_true : (a b : Bool) → (a && b) ≡ true → b ≡ true
both_true true b e = e
both_true false b e = cc

whole_ends : (whole : ℕ) (run : Run) → fault_of_run limits whole run ≡ None → is_whole run.before ≡ true
whole_ends whole run e = by_rest (is_empty run.rest) e
  where
    by_whole : (b : Bool) → cond b None (Some End) ≡ None → b ≡ true
    by_whole true e = refl
    by_whole false e = absurd (none-some End (sym e))

    by_rest : (b : Bool) → cond b (cond (is_whole run.before) None (Some End)) (Some (fault_at limits (whole - length run.rest) run.before run.rest)) ≡ None → is_whole run.before ≡ true
    by_rest true e = by_whole (is_whole run.before) e
    by_rest false e = absurd (none-some (fault_at limits (whole - length run.rest) run.before run.rest) (sym e))

pub run_ends : (bytes : List ℕ) → fault bytes ≡ None → is_whole (run limits bytes).before ≡ true
unfolding fault
run_ends bytes e = whole_ends (length bytes) (run limits bytes) e

-- no place has the empty path, so nothing is open
not_empty : (ps : List Place) (nodes : Nodes) (at : ℕ) → Each (IsNode nodes) (paths ps) → map (seen_at [] at) ps ≡ ps
not_empty [] nodes at h = refl
not_empty (place ∷ ps) nodes at h = (λ i. (closed place.path h.0 i ∷ not_empty ps nodes at h.1 i))
  where
    closed : (path : Path) → IsNode nodes path → cond (is_within path []) (record place { end = at }) place ≡ place
    closed [] n = absurd (none-some n.0 n.1)
    closed (k ∷ path) n = refl

-- Kinds.

kinds_marks : (pieces : List Piece) → kinds_after pieces ≡ map (λ mark. kind_of_item mark.1) (marks_after pieces)
kinds_marks [] = refl
kinds_marks (piece ∷ before) = added (kinds_marks before) (begins_node (items_of before) piece.item)
  where
    old : kinds_after before ≡ map (λ mark. kind_of_item mark.1) (marks_after before)
        → kinds_after before ≡ map (λ mark. kind_of_item mark.1) (map (mark_gone_on (path_of (items_of before) piece.item) (size before) (size (piece ∷ before))) (marks_after before))
    old e = e ∙ sym (map_map (λ mark. kind_of_item mark.1) (mark_gone_on (path_of (items_of before) piece.item) (size before) (size (piece ∷ before))) (marks_after before))

    added : kinds_after before ≡ map (λ mark. kind_of_item mark.1) (marks_after before) → (b : Bool)
        → cond b (kinds_after before ++ kind_of_item piece.item ∷ []) (kinds_after before)
        ≡ map (λ mark. kind_of_item mark.1)
        (cond b (map (mark_gone_on (path_of (items_of before) piece.item) (size before) (size (piece ∷ before))) (marks_after before) ++ (begun before piece, piece.item) ∷ [])
        (map (mark_gone_on (path_of (items_of before) piece.item) (size before) (size (piece ∷ before))) (marks_after before)))
    added e false = old e
    added e true = ap (λ l. l ++ kind_of_item piece.item ∷ []) (old e) ∙ sym (map_join (λ mark. kind_of_item mark.1) _ ((begun before piece, piece.item) ∷ []))

kind_of_head : (node : Node) → kind_of (head node) ≡ kind_of node
kind_of_head (tree.Element name attributes nodes) = refl
kind_of_head (tree.Text cs) = refl
kind_of_head (tree.Comment cs) = refl
kind_of_head (tree.Instruction target content) = refl

kind_of_begun : (item : Item) (node : Node) → Some node ≡ head_of item → kind_of node ≡ kind_of_item item
kind_of_begun declaration node e = absurd (none-some node (sym e))
kind_of_begun (end_tag name) node e = absurd (none-some node (sym e))
kind_of_begun (start_tag name attributes) node e = ap kind_of (same_Some node _ e)
kind_of_begun (empty_tag name attributes) node e = ap kind_of (same_Some node _ e)
kind_of_begun (character c) node e = ap kind_of (same_Some node _ e)
kind_of_begun (reference c) node e = ap kind_of (same_Some node _ e)
kind_of_begun (cdata cs) node e = ap kind_of (same_Some node _ e)
kind_of_begun (comment cs) node e = ap kind_of (same_Some node _ e)
kind_of_begun (instruction target content) node e = ap kind_of (same_Some node _ e)

get_marks : (marks : List Mark) (k : ℕ) (place : Place) (kind : Kind) → slice_get (places marks) k ≡ Some place → slice_get (map (λ mark. kind_of_item mark.1) marks) k ≡ Some kind
    → (mark : Mark) × (slice_get marks k ≡ Some mark) × (mark.0 ≡ place) × (kind_of_item mark.1 ≡ kind)
get_marks [] k place kind e f = absurd (none-some place e)
get_marks (mark ∷ marks) zero place kind e f = (mark, refl, same_Some mark.0 place e, same_Some (kind_of_item mark.1) kind f)
get_marks (mark ∷ marks) (suc k) place kind e f = get_marks marks k place kind e f

-- The rows of a whole document.

pub tree_is : (s : State) (pieces : List Piece) → Built s pieces → IsTree s.rows
tree_is s pieces b =
    let P : List Path → Type 0 = Distinct in
    record {
      few = omega (arith, b.0.few, b.0.small);
      before = b.0.before;
      distinct = subst P (row_paths s.rows) (rows_distinct s pieces b.0);
      linked = b.1.linked;
      first = b.1.first;
    }

-- what the rows show, where no element is open
pub rows_are : (s : State) (pieces : List Piece) → Builds s pieces → depth (items_of pieces) ≡ 0 → places_of_rows s.rows ≡ places_after pieces
rows_are s pieces b flat =
    let P : List Path → Type 0 = Each (IsNode (tree_after (items_of pieces))) in
    sym (not_empty (places_of_rows s.rows) (tree_after (items_of pieces)) (size pieces) (subst P (shown_paths s pieces b) (paths_name pieces b.follow)))
    ∙ ap (λ o. map (seen_at o (size pieces)) (places_of_rows s.rows)) (sym (ap (λ d. tree.last_path d (tree_after (items_of pieces))) flat))
    ∙ b.shown

same_order : (xs ys : List Place) → xs ≡ ys → IsPermutation xs ys
same_order xs ys e = record { moves = []; below = tt; is = sym e }

-- The builder's rows, after the pieces of the run of bytes without a fault, are the tree of these bytes.
pub tree_of_run : (s : State) (bytes : List ℕ) → Built s (onto (run limits bytes).pieces []) → fault bytes ≡ None → IsShownOf (shown_of s.rows) bytes
unfolding document_of
tree_of_run s bytes b whole =
    let pieces = onto (run limits bytes).pieces [] in
    let good = run_good limits (length bytes) [] bytes tt in
    let closed : length (open_elements (run limits bytes).before) ≡ 0 =
    no_tags (open_elements (run limits bytes).before) (both_true (has_element (run limits bytes).before) (is_empty (open_elements (run limits bytes).before)) (run_ends bytes whole)) in
    let flat : depth (items_of pieces) ≡ 0 = opens (items_of pieces) ∙ ap (λ before. length (open_elements before)) good.before ∙ closed in
    let same : places_of_rows s.rows ≡ places_after pieces = rows_are s pieces b.0 flat in
    let ordered : places_of_rows s.rows ≡ places_of bytes = same ∙ sym (places_of_run bytes) in
    record {
      tree = record { spelled = whole; numbered = same_order (places_of_rows s.rows) (places_of bytes) ordered };
      kinds = λ k place kind e f. (
          let found = get_marks (marks_after pieces) k place kind
          (ap (λ l. slice_get l k) (marks_places pieces ∙ sym same) ∙ e)
          (ap (λ l. slice_get l k) (sym (kinds_marks pieces) ∙ sym b.0.kinds) ∙ f) in
          let named : IsMark (tree_after (items_of pieces)) found.0 = each_get (IsMark (tree_after (items_of pieces))) (marks_after pieces) k found.0 (marks_name pieces b.0.follow) found.1 in
          ap (λ before. option_map kind_of (node_at (tree_after before) place.path)) (sym good.before)
          ∙ ap (λ p. option_map kind_of (node_at (tree_after (items_of pieces)) p.path)) (sym found.2)
          ∙ ap (option_map kind_of) named.1
          ∙ ap Some (sym (kind_of_head named.0) ∙ kind_of_begun found.0.1 (head named.0) named.2 ∙ found.3)
          );
    }
