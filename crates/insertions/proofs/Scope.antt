-- The elements in whose scope an element stands are those that are open where it is closed.
use Rattle.std.proofs.Common.{◌≡◌, ℕ, zero, suc, pred, ◌<◌, List, [], ◌∷◌, drop, Option, Some, refl, sym, ◌∙◌, ap, subst, subst₂, arith}
use Rattle.std.proofs.lemmas.Option.{none-some, same_Some}
use Rattle.std.specs.Prelude.{option_map, option_and_then}
use Rattle.std.specs.Option.{option_map_or}
use Rattle.document_model.specs.Names.{Name}
use Rattle.document_model.specs.Items.{Attribute, Item, Piece, declaration, start_tag, empty_tag, end_tag, character, reference, cdata, comment, instruction}
use Rattle.document_model.specs.Tree.{Node, Nodes, Path, Element, Text, Comment, Instruction, no_nodes, ◌⨾◌, nth, below, descend, node_at, IsElement, IsElementAt, joined, in_nodes_of, in_last, grown, depth, added_at, tree_after, last_of, last_path, count}
use Rattle.document_model.specs.Scopes.{Tag, with_tag_of, tags_down, tags_at}
use Rattle.document_model.specs.Documents.{open_elements}
use Rattle.document_model.specs.Places.{path_of}
use Rattle.document_model.proofs.Grown.{Spine, last_joined, last_in_last, added_start}
use Rattle.document_model.proofs.Put.{last_nth, closing}
use Rattle.doc_spans.specs.Marks.{Follow}
use Rattle.doc_spans.proofs.Steps.{spine}
use Rattle.doc_spans.proofs.Stays.{head, stays}
use Rattle.insertions.specs.Content.{items_after}
use Rattle.insertions.proofs.Closings.{end_path, same_tree, empty_path, below_changed, same_head}
use Rattle.insertions.proofs.Standing.{map_some}

-- the tags of the last nodes down to a depth
abbrev pub last_tags : ℕ → Nodes → List Tag → List Tag
last_tags zero nodes outer = outer
last_tags (suc d) nodes outer = option_map_or (λ node. last_tags d (below node) (with_tag_of node outer)) (last_of nodes) []

tag_kept : (f : Nodes → Nodes) (node : Node) (outer : List Tag) → with_tag_of (in_nodes_of f node) outer ≡ with_tag_of node outer
tag_kept f (Element name attributes nodes) outer = refl
tag_kept f (Text cs) outer = refl
tag_kept f (Comment cs) outer = refl
tag_kept f (Instruction target content) outer = refl

abbrev in_tags : ℕ → List Tag → Option Node → List Tag
in_tags d outer o = option_map_or (λ node. last_tags d (below node) (with_tag_of node outer)) o []

-- one level down, in nodes that are changed there
deeper : (d e : ℕ) (f : Nodes → Nodes) (nodes : Nodes) (outer : List Tag) → (s : Spine (suc d) nodes)
    → in_tags e outer (last_of (in_last (in_nodes_of f) nodes)) ≡ last_tags e (f (below s.0)) (with_tag_of s.0 outer)
deeper d e f nodes outer s =
    ap (in_tags e outer) (last_in_last (in_nodes_of f) nodes ∙ ap (option_map (in_nodes_of f)) s.1)
    ∙ (λ i. last_tags e (below_changed f s.0 s.2 i) (tag_kept f s.0 outer i))

tags_grown : (d : ℕ) (x nodes : Nodes) (outer : List Tag) → Spine d nodes → last_tags d (grown d x nodes) outer ≡ last_tags d nodes outer
tags_grown zero x nodes outer s = refl
tags_grown (suc d) x nodes outer s =
    deeper d d (grown d x) nodes outer s ∙ tags_grown d x (below s.0) (with_tag_of s.0 outer) s.3 ∙ sym (ap (in_tags d outer) s.1)

tags_opened : (d : ℕ) (name : Name) (attributes : List Attribute) (nodes : Nodes) (outer : List Tag) → Spine d nodes
    → last_tags (suc d) (grown d (Element name attributes no_nodes ⨾ no_nodes) nodes) outer ≡ record { name = name; attributes = attributes } ∷ last_tags d nodes outer
tags_opened zero name attributes nodes outer s = ap (in_tags 0 outer) (last_joined nodes name attributes)
tags_opened (suc d) name attributes nodes outer s =
    deeper d (suc d) (grown d (Element name attributes no_nodes ⨾ no_nodes)) nodes outer s
    ∙ tags_opened d name attributes (below s.0) (with_tag_of s.0 outer) s.3
    ∙ ap (λ tags. record { name = name; attributes = attributes } ∷ tags) (sym (ap (in_tags d outer) s.1))

tag_first : (node : Node) (outer : List Tag) → IsElement node → drop 1 (with_tag_of node outer) ≡ outer
tag_first (Element name attributes nodes) outer h = refl
tag_first (Text cs) outer h = absurd h
tag_first (Comment cs) outer h = absurd h
tag_first (Instruction target content) outer h = absurd h

tags_less : (d : ℕ) (nodes : Nodes) (outer : List Tag) → Spine (suc d) nodes → drop 1 (last_tags (suc d) nodes outer) ≡ last_tags d nodes outer
tags_less zero nodes outer s = ap (λ o. drop 1 (in_tags 0 outer o)) s.1 ∙ tag_first s.0 outer s.2
tags_less (suc d) nodes outer s =
    ap (λ o. drop 1 (in_tags (suc d) outer o)) s.1 ∙ tags_less d (below s.0) (with_tag_of s.0 outer) s.3 ∙ sym (ap (in_tags d outer) s.1)

abbrev AreOpen : List Item → Type 0
AreOpen before = open_elements before ≡ last_tags (depth before) (tree_after before) []

closed_tags : (n : ℕ) (nodes : Nodes) → 0 < n → Spine n nodes → drop 1 (last_tags n nodes []) ≡ last_tags (pred n) nodes []
closed_tags zero nodes h s = absurd (omega (arith, h))
closed_tags (suc d) nodes h s = tags_less d nodes [] s

-- the elements that are open are the last nodes
are_open : (before : List Item) → Follow before → AreOpen before
are_open [] h = refl
are_open (start_tag name attributes ∷ before) h =
    ap (λ tags. record { name = name; attributes = attributes } ∷ tags) (are_open before h.1)
    ∙ sym (ap (λ x. last_tags (suc (depth before)) (grown (depth before) x (tree_after before)) []) (added_start (depth before) name attributes)
    ∙ tags_opened (depth before) name attributes (tree_after before) [] (spine before h.1))
are_open (end_tag name ∷ before) h =
    ap (drop 1) (are_open before h.1) ∙ closed_tags (depth before) (tree_after before) h.0 (spine before h.1)
    ∙ sym (ap (λ nodes. last_tags (pred (depth before)) nodes []) (closing name before))
are_open (declaration ∷ before) h = are_open before h.1 ∙ sym (tags_grown (depth before) _ (tree_after before) [] (spine before h.1))
are_open (empty_tag name attributes ∷ before) h = are_open before h.1 ∙ sym (tags_grown (depth before) _ (tree_after before) [] (spine before h.1))
are_open (character c ∷ before) h = are_open before h.1 ∙ sym (tags_grown (depth before) _ (tree_after before) [] (spine before h.1))
are_open (reference c ∷ before) h = are_open before h.1 ∙ sym (tags_grown (depth before) _ (tree_after before) [] (spine before h.1))
are_open (cdata cs ∷ before) h = are_open before h.1 ∙ sym (tags_grown (depth before) _ (tree_after before) [] (spine before h.1))
are_open (comment cs ∷ before) h = are_open before h.1 ∙ sym (tags_grown (depth before) _ (tree_after before) [] (spine before h.1))
are_open (instruction target content ∷ before) h = are_open before h.1 ∙ sym (tags_grown (depth before) _ (tree_after before) [] (spine before h.1))

-- and the path of the innermost has them in scope

abbrev next_tags : Path → List Tag → Option Node → List Tag
next_tags path outer o = option_map_or (λ child. tags_down path child outer) o []

tags_to_last : (d : ℕ) (nodes : Nodes) (outer : List Tag) → Spine (suc d) nodes
    → next_tags (option_map_or (λ node. last_path d (below node)) (last_of nodes) []) outer (nth (pred (count nodes)) nodes) ≡ last_tags (suc d) nodes outer
tags_to_last zero nodes outer s =
    (λ i. next_tags (option_map_or (λ node. last_path 0 (below node)) (s.1 i) []) outer (last_nth nodes s.0 s.1 i)) ∙ sym (ap (in_tags 0 outer) s.1)
tags_to_last (suc d) nodes outer s =
    (λ i. next_tags (option_map_or (λ node. last_path (suc d) (below node)) (s.1 i) []) outer (last_nth nodes s.0 s.1 i))
    ∙ tags_to_last d (below s.0) (with_tag_of s.0 outer) s.3 ∙ sym (ap (in_tags (suc d) outer) s.1)

pub tags_where_open : (before : List Item) → Follow before → 0 < depth before → tags_at (tree_after before) (last_path (depth before) (tree_after before)) ≡ open_elements before
tags_where_open before h inner = go (depth before) inner (spine before h) ∙ sym (are_open before h)
  where
    go : (n : ℕ) → 0 < n → Spine n (tree_after before) → tags_at (tree_after before) (last_path n (tree_after before)) ≡ last_tags n (tree_after before) []
    go zero lt s = absurd (omega (arith, lt))
    go (suc d) lt s = tags_to_last d (tree_after before) [] s

-- They stay where the tree grows.

abbrev Found : Path → Option Node → Node → Type 0
Found path o node = option_and_then (descend path) o ≡ Some node

abbrev Same : (Nodes → Nodes) → Type 0
Same f = (nodes : Nodes) (k : ℕ) (path : Path) (m : Node) (outer : List Tag) → Found path (nth k nodes) m → IsElement m
    → next_tags path outer (nth k (f nodes)) ≡ next_tags path outer (nth k nodes)

stay_down : (f : Nodes → Nodes) → Same f → (path : Path) (node m : Node) (outer : List Tag) → descend path node ≡ Some m → IsElement m
    → tags_down path (in_nodes_of f node) outer ≡ tags_down path node outer
stay_down f same [] node m outer e h = tag_kept f node outer
stay_down f same (k ∷ path) (Element name attributes inner) m outer e h = same inner k path m (record { name = name; attributes = attributes } ∷ outer) e h
stay_down f same (k ∷ path) (Text cs) m outer e h = refl
stay_down f same (k ∷ path) (Comment cs) m outer e h = refl
stay_down f same (k ∷ path) (Instruction target content) m outer e h = refl

stay_in_last : (f : Nodes → Nodes) → Same f → Same (in_last (in_nodes_of f))
stay_in_last f same no_nodes k path m outer e h = refl
stay_in_last f same (node ⨾ no_nodes) zero path m outer e h = stay_down f same path node m outer e h
stay_in_last f same (node ⨾ no_nodes) (suc k) path m outer e h = refl
stay_in_last f same (node ⨾ next ⨾ nodes) zero path m outer e h = refl
stay_in_last f same (node ⨾ next ⨾ nodes) (suc k) path m outer e h = stay_in_last f same (next ⨾ nodes) k path m outer e h

no_element : (cs : List ℕ) (path : Path) (m : Node) → Found path (Some (Text cs)) m → IsElement m → ⊥
no_element cs [] m e h = text_none m (same_Some (Text cs) m e) h
  where
    text_none : (m : Node) → Text cs ≡ m → IsElement m → ⊥
    text_none (Element name attributes nodes) e h = cc
    text_none (Text ds) e h = h
    text_none (Comment ds) e h = h
    text_none (Instruction target content) e h = h
no_element cs (k ∷ path) m e h = none-some m e

stay_joined : (x : Nodes) → Same (λ nodes. joined nodes x)
stay_joined x no_nodes k path m outer e h = absurd (none-some m e)
stay_joined x (Element name attributes inner ⨾ nodes) zero path m outer e h = refl
stay_joined x (Element name attributes inner ⨾ nodes) (suc k) path m outer e h = stay_joined x nodes k path m outer e h
stay_joined x (Comment cs ⨾ nodes) zero path m outer e h = refl
stay_joined x (Comment cs ⨾ nodes) (suc k) path m outer e h = stay_joined x nodes k path m outer e h
stay_joined x (Instruction target content ⨾ nodes) zero path m outer e h = refl
stay_joined x (Instruction target content ⨾ nodes) (suc k) path m outer e h = stay_joined x nodes k path m outer e h
stay_joined x (Text cs ⨾ next ⨾ nodes) zero path m outer e h = refl
stay_joined x (Text cs ⨾ next ⨾ nodes) (suc k) path m outer e h = stay_joined x (next ⨾ nodes) k path m outer e h
stay_joined x (Text cs ⨾ no_nodes) zero path m outer e h = absurd (no_element cs path m e h)
stay_joined x (Text cs ⨾ no_nodes) (suc k) path m outer e h = absurd (none-some m e)

stay : (d : ℕ) (x : Nodes) → Same (grown d x)
stay zero x = stay_joined x
stay (suc d) x = stay_in_last (grown d x) (stay d x)

tags_stay : (d : ℕ) (x nodes : Nodes) (host : Path) → IsElementAt nodes host → tags_at (grown d x nodes) host ≡ tags_at nodes host
tags_stay d x nodes [] e = refl
tags_stay d x nodes (k ∷ path) e = stay d x nodes k path e.0 [] e.1 e.2

element_stays : (d : ℕ) (x nodes : Nodes) (host : Path) → IsElementAt nodes host → IsElementAt (grown d x nodes) host
element_stays d x nodes host e =
    let later = map_some head (node_at (grown d x nodes) host) (head e.0) (stays d x nodes host e.0 e.1) in
    (later.0, later.1, same_head e.0 later.0 (sym later.2) e.2)

tags_later : (pieces : List Piece) (before : List Item) (host : Path) → IsElementAt (tree_after before) host → tags_at (tree_after (items_after pieces before)) host ≡ tags_at (tree_after before) host
tags_later [] before host e = refl
tags_later (piece ∷ pieces) before host e =
    tags_later pieces (piece.item ∷ before) host (element_stays (depth before) (added_at (depth before) piece.item) (tree_after before) host e)
    ∙ tags_stay (depth before) (added_at (depth before) piece.item) (tree_after before) host e

-- the innermost open element is one
element_open : (d : ℕ) (nodes : Nodes) → Spine (suc d) nodes → IsElementAt nodes (last_path (suc d) nodes)
element_open zero nodes s =
    let P : Option Node → Path → Type 0 = λ o path. (node : Node) × (option_and_then (descend path) o ≡ Some node) × IsElement node in
    subst₂ P (sym (last_nth nodes s.0 s.1)) (sym (ap (λ o. option_map_or (λ node. last_path 0 (below node)) o []) s.1)) (s.0, refl, s.2)
element_open (suc d) nodes s =
    let P : Option Node → Path → Type 0 = λ o path. (node : Node) × (option_and_then (descend path) o ≡ Some node) × IsElement node in
    subst₂ P (sym (last_nth nodes s.0 s.1)) (sym (ap (λ o. option_map_or (λ node. last_path (suc d) (below node)) o []) s.1)) (element_open d (below s.0) s.3)

pub innermost_is : (before : List Item) → Follow before → 0 < depth before → IsElementAt (tree_after before) (last_path (depth before) (tree_after before))
innermost_is before h inner = go (depth before) inner (spine before h)
  where
    go : (n : ℕ) → 0 < n → Spine n (tree_after before) → IsElementAt (tree_after before) (last_path n (tree_after before))
    go zero lt s = absurd (omega (arith, lt))
    go (suc d) lt s = element_open d (tree_after before) s

-- The elements that are open where the host is closed by its end tag, or where it would be.
pub tags_at_end : (front behind : List Piece) (item : Item) (name : Name) (host : Path) → item ≡ end_tag name → Follow (items_after front []) → 0 < depth (items_after front [])
    → path_of (items_after front []) item ≡ host → tags_at (tree_after (items_after behind (item ∷ items_after front []))) host ≡ open_elements (items_after front [])
tags_at_end front behind item name host is h inner at =
    let before : List Item = items_after front [] in
    let path : last_path (depth before) (tree_after before) ≡ host = sym (end_path before name) ∙ ap (path_of before) (sym is) ∙ at in
    let tree : tree_after (item ∷ before) ≡ tree_after before = ap (λ i. tree_after (i ∷ before)) is ∙ closing name before in
    let e : IsElementAt (tree_after before) host = subst (IsElementAt (tree_after before)) path (innermost_is before h inner) in
    tags_later behind (item ∷ before) host (subst (λ nodes. IsElementAt nodes host) (sym tree) e)
    ∙ ap (λ nodes. tags_at nodes host) tree ∙ ap (tags_at (tree_after before)) (sym path) ∙ tags_where_open before h inner

pub tags_at_empty : (front behind : List Piece) (item : Item) (name : Name) (attributes : List Attribute) (host : Path) → item ≡ empty_tag name attributes → Follow (items_after front [])
    → path_of (items_after front []) item ≡ host
    → tags_at (tree_after (items_after behind (item ∷ items_after front []))) host ≡ open_elements (start_tag name attributes ∷ items_after front [])
tags_at_empty front behind item name attributes host is h at =
    let before : List Item = items_after front [] in
    let start : List Item = start_tag name attributes ∷ before in
    let path : last_path (depth start) (tree_after start) ≡ host = sym (empty_path before name attributes) ∙ ap (path_of before) (sym is) ∙ at in
    let tree : tree_after (item ∷ before) ≡ tree_after start = ap (λ i. tree_after (i ∷ before)) is ∙ same_tree before name attributes in
    let e : IsElementAt (tree_after start) host = subst (IsElementAt (tree_after start)) path (innermost_is start (tt, h) (omega arith)) in
    tags_later behind (item ∷ before) host (subst (λ nodes. IsElementAt nodes host) (sym tree) e)
    ∙ ap (λ nodes. tags_at nodes host) tree ∙ ap (tags_at (tree_after start)) (sym path) ∙ tags_where_open start (tt, h) (omega arith)
