-- Each place names a node of the tree, and no two name the same.
use Rattle.std.proofs.Common.{◌≡◌, ℕ, Bool, true, false, not, cond, ◌&&◌, ◌||◌, List, [], ◌∷◌, ◌++◌, Option, Some, None, refl, sym, ◌∙◌, ap, subst, nat_eq}
use Rattle.std.proofs.lemmas.Option.{none-some, same_Some}
use Rattle.std.specs.Prelude.{map, option_map, option_and_then}
use Rattle.document_model.specs.Items.{Item, Piece, declaration, start_tag, empty_tag, end_tag, character, reference, cdata, comment, instruction}
use Rattle.document_model.specs.Tree.{Node, Nodes, Path, Element, Text, Comment, Instruction, no_nodes, ◌⨾◌, nth, descend, node_at, joined, grown, depth, added_by, added_at, tree_after, count}
use Rattle.document_model.specs.Documents.{is_in_text}
use Rattle.document_model.specs.NodeSets.{is_within}
use Rattle.document_model.specs.Places.{Place, path_of, begins_node}
use Rattle.document_model.proofs.Grown.{spine_stays, added_start}
use Rattle.doc_spans.specs.Marks.{size, items_of, gone_on, begun, places_after, Follow, open_path}
use Rattle.doc_spans.proofs.Each.{each_append, each_map, each_weaker, map_map, map_join, distinct_more}
use Rattle.doc_spans.specs.View.{Each, Distinct}
use Rattle.doc_spans.proofs.Spine.{inside_grown, path_grown, at_inside, none_behind}
use Rattle.doc_spans.proofs.Stays.{head, stays}
use Rattle.doc_spans.proofs.Steps.{children, child_count, ends_in_text, is_text, spine, never, begins_text, text_is_last, deep, added_whole, added_comment, added_instruction, path_begun}

-- what an item says of the node that it begins
abbrev pub head_of : Item → Option Node
head_of declaration = None
head_of (start_tag name attributes) = Some (Element name attributes no_nodes)
head_of (empty_tag name attributes) = Some (Element name attributes no_nodes)
head_of (end_tag name) = None
head_of (character c) = Some (Text [])
head_of (reference c) = Some (Text [])
head_of (cdata cs) = Some (Text [])
head_of (comment cs) = Some (Comment cs)
head_of (instruction target content) = Some (Instruction target content)

-- a path that names a node with this head
abbrev pub Names : Nodes → Path → Option Node → Type 0
Names tree path found = (node : Node) × (node_at tree path ≡ Some node) × (Some (head node) ≡ found)

nth_apart : (nodes : Nodes) (node : Node) → (ends_in_text nodes && is_text node) ≡ false → nth (count nodes) (joined nodes (node ⨾ no_nodes)) ≡ Some node
nth_apart no_nodes node e = refl
nth_apart (Element name attributes inner ⨾ no_nodes) node e = refl
nth_apart (Element name attributes inner ⨾ next ⨾ nodes) node e = nth_apart (next ⨾ nodes) node e
nth_apart (Comment cs ⨾ no_nodes) node e = refl
nth_apart (Comment cs ⨾ next ⨾ nodes) node e = nth_apart (next ⨾ nodes) node e
nth_apart (Instruction target content ⨾ no_nodes) node e = refl
nth_apart (Instruction target content ⨾ next ⨾ nodes) node e = nth_apart (next ⨾ nodes) node e
nth_apart (Text cs ⨾ next ⨾ nodes) node e = nth_apart (next ⨾ nodes) node e
nth_apart (Text cs ⨾ no_nodes) (Element name attributes inner) e = refl
nth_apart (Text cs ⨾ no_nodes) (Text ds) e = cc
nth_apart (Text cs ⨾ no_nodes) (Comment ds) e = refl
nth_apart (Text cs ⨾ no_nodes) (Instruction target content) e = refl

-- a node that is added stands behind the children of the open element
pub new_node : (before : List Item) (x : Nodes) (node : Node) → Follow before → x ≡ node ⨾ no_nodes → (ends_in_text (children before) && is_text node) ≡ false
    → node_at (grown (depth before) x (tree_after before)) (open_path before ++ child_count before ∷ []) ≡ Some node
new_node before x node h e apart =
    let d = depth before in
    let tree = tree_after before in
    let s = spine before h in
    ap (λ p. node_at (grown d x tree) (p ++ child_count before ∷ [])) (sym (path_grown d x tree s))
    ∙ at_inside d (grown d x tree) (child_count before) [] (spine_stays d x tree s)
    ∙ ap (λ ns. option_and_then (descend []) (nth (child_count before) ns)) (inside_grown d x tree s ∙ ap (joined (children before)) e)
    ∙ ap (option_and_then (descend [])) (nth_apart (children before) node apart)

-- and names itself
named_new : (before : List Item) (x : Nodes) (node : Node) (found : Option Node) → Follow before → x ≡ node ⨾ no_nodes → (ends_in_text (children before) && is_text node) ≡ false
    → Some (head node) ≡ found → Names (grown (depth before) x (tree_after before)) (open_path before ++ child_count before ∷ []) found
named_new before x node found h e apart is = (node, new_node before x node h e apart, is)

named_text : (before : List Item) (c : ℕ) (cs : List ℕ) (item : Item) → Follow before → not (nat_eq (depth before) 0 || is_in_text before) ≡ true
    → added_by item ≡ Text (c ∷ cs) ⨾ no_nodes → Names (tree_after (item ∷ before)) (open_path before ++ child_count before ∷ []) (Some (Text []))
named_text before c cs item h e a =
    let t = begins_text before e in
    named_new before _ (Text (c ∷ cs)) _ h (deep (depth before) item t.0 ∙ a) (ap (λ b. b && true) (text_is_last before h t.0 ∙ t.1)) refl

pub named_begun : (before : List Item) (item : Item) → Follow before → begins_node before item ≡ true
    → Names (tree_after (item ∷ before)) (open_path before ++ child_count before ∷ []) (head_of item)
named_begun before declaration h e = cc
named_begun before (start_tag name attributes) h e = named_new before _ _ _ h (added_start (depth before) name attributes) (never _) refl
named_begun before (empty_tag name attributes) h e = named_new before _ _ _ h (added_whole (depth before) name attributes) (never _) refl
named_begun before (end_tag name) h e = cc
named_begun before (character c) h e = named_text before c [] (character c) h e refl
named_begun before (reference c) h e = named_text before c [] (reference c) h e refl
named_begun before (cdata []) h e = cc
named_begun before (cdata (c ∷ cs)) h e = named_text before c cs (cdata (c ∷ cs)) h e refl
named_begun before (comment cs) h e = named_new before _ _ _ h (added_comment (depth before) cs) (never _) refl
named_begun before (instruction target content) h e = named_new before _ _ _ h (added_instruction (depth before) target content) (never _) refl

-- and it goes on to
some_of_map : (o : Option Node) (m : Node) → option_map head o ≡ Some m → (node : Node) × (o ≡ Some node) × (head node ≡ m)
some_of_map None m e = absurd (none-some m e)
some_of_map (Some node) m e = (node, refl, same_Some (head node) m e)

pub named_on : (d : ℕ) (x tree : Nodes) (path : Path) (found : Option Node) → Names tree path found → Names (grown d x tree) path found
named_on d x tree path found h =
    let later = some_of_map (node_at (grown d x tree) path) (head h.0) (stays d x tree path h.0 h.1) in (later.0, later.1, ap Some later.2 ∙ h.2)

-- The places with the items that begin them.

abbrev pub Mark : Type 0
Mark = Place × Item

abbrev pub mark_gone_on : Path → ℕ → ℕ → Mark → Mark
mark_gone_on path at behind mark = (gone_on path at behind mark.0, mark.1)

abbrev pub marks_after : List Piece → List Mark
marks_after [] = []
marks_after (piece ∷ before) =
    let old = map (mark_gone_on (path_of (items_of before) piece.item) (size before) (size (piece ∷ before))) (marks_after before) in
    cond (begins_node (items_of before) piece.item) (old ++ (begun before piece, piece.item) ∷ []) old

pub same_path : (path : Path) (at behind : ℕ) (place : Place) → (gone_on path at behind place).path ≡ place.path
same_path path at behind place = either (is_within place.path path && nat_eq place.end at)
  where
    either : (b : Bool) → (cond b (record place { end = behind }) place).path ≡ place.path
    either true = refl
    either false = refl

abbrev pub IsMark : Nodes → Mark → Type 0
IsMark tree mark = Names tree mark.0.path (head_of mark.1)

-- Each names a node of the tree.
pub marks_name : (pieces : List Piece) → Follow (items_of pieces) → Each (IsMark (tree_after (items_of pieces))) (marks_after pieces)
marks_name [] h = tt
marks_name (piece ∷ before) h = added (marks_name before h.1) (begins_node (items_of before) piece.item) refl
  where
    on : (mark : Mark) → IsMark (tree_after (items_of before)) mark
        → IsMark (tree_after (piece.item ∷ items_of before)) (mark_gone_on (path_of (items_of before) piece.item) (size before) (size (piece ∷ before)) mark)
    on mark m =
        let P : Path → Type 0 = λ p. Names (tree_after (piece.item ∷ items_of before)) p (head_of mark.1) in
        subst P (sym (same_path (path_of (items_of before) piece.item) (size before) (size (piece ∷ before)) mark.0))
        (named_on (depth (items_of before)) (added_at (depth (items_of before)) piece.item) (tree_after (items_of before)) mark.0.path (head_of mark.1) m)

    added : Each (IsMark (tree_after (items_of before))) (marks_after before) → (b : Bool) → begins_node (items_of before) piece.item ≡ b
        → Each (IsMark (tree_after (piece.item ∷ items_of before)))
        (cond b (map (mark_gone_on (path_of (items_of before) piece.item) (size before) (size (piece ∷ before))) (marks_after before) ++ (begun before piece, piece.item) ∷ [])
        (map (mark_gone_on (path_of (items_of before) piece.item) (size before) (size (piece ∷ before))) (marks_after before)))
    added old false e = each_map (IsMark (tree_after (items_of before))) (IsMark (tree_after (piece.item ∷ items_of before))) _ on (marks_after before) old
    added old true e =
        let P : Path → Type 0 = λ p. Names (tree_after (piece.item ∷ items_of before)) p (head_of piece.item) in
        each_append (IsMark (tree_after (piece.item ∷ items_of before))) _ ((begun before piece, piece.item) ∷ [])
        (each_map (IsMark (tree_after (items_of before))) (IsMark (tree_after (piece.item ∷ items_of before))) _ on (marks_after before) old)
        (subst P (sym (path_begun (items_of before) piece.item h.1 e)) (named_begun (items_of before) piece.item h.1 e), tt)

-- The places alone.

abbrev pub places : List Mark → List Place
places marks = map (λ mark. mark.0) marks

pub marks_places : (pieces : List Piece) → places (marks_after pieces) ≡ places_after pieces
marks_places [] = refl
marks_places (piece ∷ before) = added (marks_places before) (begins_node (items_of before) piece.item)
  where
    old : places (marks_after before) ≡ places_after before
        → places (map (mark_gone_on (path_of (items_of before) piece.item) (size before) (size (piece ∷ before))) (marks_after before))
        ≡ map (gone_on (path_of (items_of before) piece.item) (size before) (size (piece ∷ before))) (places_after before)
    old e =
        map_map (λ mark. mark.0) (mark_gone_on (path_of (items_of before) piece.item) (size before) (size (piece ∷ before))) (marks_after before)
        ∙ sym (map_map (gone_on (path_of (items_of before) piece.item) (size before) (size (piece ∷ before))) (λ mark. mark.0) (marks_after before))
        ∙ ap (map (gone_on (path_of (items_of before) piece.item) (size before) (size (piece ∷ before)))) e

    added : places (marks_after before) ≡ places_after before → (b : Bool)
        → places (cond b (map (mark_gone_on (path_of (items_of before) piece.item) (size before) (size (piece ∷ before))) (marks_after before) ++ (begun before piece, piece.item) ∷ [])
        (map (mark_gone_on (path_of (items_of before) piece.item) (size before) (size (piece ∷ before))) (marks_after before)))
        ≡ cond b (map (gone_on (path_of (items_of before) piece.item) (size before) (size (piece ∷ before))) (places_after before) ++ begun before piece ∷ [])
        (map (gone_on (path_of (items_of before) piece.item) (size before) (size (piece ∷ before))) (places_after before))
    added e false = old e
    added e true = map_join (λ mark. mark.0) _ ((begun before piece, piece.item) ∷ []) ∙ ap (λ l. l ++ begun before piece ∷ []) (old e)

-- No two places have the same path.

abbrev pub paths : List Place → List Path
paths ps = map (λ place. place.path) ps

abbrev pub IsNode : Nodes → Path → Type 0
IsNode tree path = (node : Node) × (node_at tree path ≡ Some node)

pub paths_name : (pieces : List Piece) → Follow (items_of pieces) → Each (IsNode (tree_after (items_of pieces))) (paths (places_after pieces))
paths_name pieces h =
    let P : List Place → Type 0 = λ ps. Each (IsNode (tree_after (items_of pieces))) (paths ps) in
    subst P (marks_places pieces)
    (each_map (λ place. IsNode (tree_after (items_of pieces)) place.path) (IsNode (tree_after (items_of pieces))) (λ place. place.path) (λ place n. n) (places (marks_after pieces))
    (each_map (IsMark (tree_after (items_of pieces))) (λ place. IsNode (tree_after (items_of pieces)) place.path) (λ mark. mark.0) (λ mark m. (m.0, m.1)) (marks_after pieces) (marks_name pieces h)))

pub paths_gone_on : (path : Path) (at behind : ℕ) (ps : List Place) → paths (map (gone_on path at behind) ps) ≡ paths ps
paths_gone_on path at behind [] = refl
paths_gone_on path at behind (place ∷ ps) = (λ i. (same_path path at behind place i ∷ paths_gone_on path at behind ps i))

-- the path where the next node would begin is no node's
pub fresh : (pieces : List Piece) → Follow (items_of pieces)
    → Each (λ path. path ≡ open_path (items_of pieces) ++ child_count (items_of pieces) ∷ [] → ⊥) (paths (places_after pieces))
fresh pieces h =
    each_weaker (IsNode (tree_after (items_of pieces))) (λ path. path ≡ open_path (items_of pieces) ++ child_count (items_of pieces) ∷ [] → ⊥)
    (λ path named e. none-some named.0
    (sym (none_behind (depth (items_of pieces)) (tree_after (items_of pieces)) (spine (items_of pieces) h)) ∙ sym (ap (node_at (tree_after (items_of pieces))) e) ∙ named.1))
    (paths (places_after pieces)) (paths_name pieces h)

pub paths_distinct : (pieces : List Piece) → Follow (items_of pieces) → Distinct (paths (places_after pieces))
paths_distinct [] h = tt
paths_distinct (piece ∷ before) h = added (paths_distinct before h.1) (begins_node (items_of before) piece.item) refl
  where
    old : paths (map (gone_on (path_of (items_of before) piece.item) (size before) (size (piece ∷ before))) (places_after before)) ≡ paths (places_after before)
    old = paths_gone_on (path_of (items_of before) piece.item) (size before) (size (piece ∷ before)) (places_after before)

    added : Distinct (paths (places_after before)) → (b : Bool) → begins_node (items_of before) piece.item ≡ b
        → Distinct (paths (cond b (map (gone_on (path_of (items_of before) piece.item) (size before) (size (piece ∷ before))) (places_after before) ++ begun before piece ∷ [])
        (map (gone_on (path_of (items_of before) piece.item) (size before) (size (piece ∷ before))) (places_after before))))
    added d false e = let P : List Path → Type 0 = Distinct in subst P (sym old) d
    added d true e =
        let P : List Path → Type 0 = Distinct in
        let Q : Path → Type 0 = λ p. Each (λ path. path ≡ p → ⊥) (paths (places_after before)) in
        subst P (sym (map_join (λ place. place.path) _ (begun before piece ∷ []) ∙ ap (λ l. l ++ path_of (items_of before) piece.item ∷ []) old))
        (distinct_more (paths (places_after before)) (path_of (items_of before) piece.item) d
        (subst Q (sym (path_begun (items_of before) piece.item h.1 e)) (fresh before h.1)))
