-- How deep and how large the tree of items is.
use Rattle.std.proofs.Common.{◌≡◌, ℕ, zero, suc, pred, ◌+◌, ◌≤◌, ◌<◌, true, false, not, List, [], ◌∷◌, ◌++◌, Some, refl, sym, ◌∙◌, ap, subst, arith, nat_le, max}
use Rattle.std.proofs.lemmas.Option.{none-some, same_Some}
use Rattle.std.proofs.lemmas.Bool.Decides.{nat_tests}
use Rattle.document_model.specs.Names.{Name}
use Rattle.document_model.specs.Items.{Attribute, Item, Piece, declaration, start_tag, empty_tag, end_tag, character, reference, cdata, comment, instruction}
use Rattle.document_model.specs.Tree.{Node, Nodes, Element, Text, Comment, Instruction, no_nodes, ◌⨾◌, below, IsElement, joined, in_nodes_of, in_last, grown, depth, text_added, added_by, added_at, tree_after, last_of}
use Rattle.document_model.specs.Documents.{Limits, is_too_deep, has_too_many, nodes_of}
use Rattle.document_model.proofs.Grown.{Spine}
use Rattle.document_model.specs.Sizes.{node_height, height}
use Rattle.doc_spans.specs.Marks.{Follow}
use Rattle.doc_spans.proofs.Run.{fits}
use Rattle.doc_spans.proofs.Steps.{spine}
use Rattle.insertions.specs.Content.{texts, items_after, Stand}
use Rattle.insertions.proofs.Standing.{legal_is}
use Rattle.insertions.proofs.Runs.{Within}

-- the deepest element among items
abbrev pub deepest : List Item → ℕ
deepest [] = 0
deepest (start_tag name attributes ∷ before) = max (suc (depth before)) (deepest before)
deepest (empty_tag name attributes ∷ before) = max (suc (depth before)) (deepest before)
deepest (item ∷ before) = deepest before

-- the height

max_assoc : (a b c : ℕ) → max a (max b c) ≡ max (max a b) c
max_assoc a b c = omega arith

pub joined_height : (a b : Nodes) → height (joined a b) ≡ max (height a) (height b)
joined_height no_nodes b = omega arith
joined_height (Element name attributes inner ⨾ a) b = ap (λ n. max (suc (height inner)) n) (joined_height a b) ∙ max_assoc (suc (height inner)) (height a) (height b)
joined_height (Comment cs ⨾ a) b = ap (λ n. max 0 n) (joined_height a b) ∙ max_assoc 0 (height a) (height b)
joined_height (Instruction target content ⨾ a) b = ap (λ n. max 0 n) (joined_height a b) ∙ max_assoc 0 (height a) (height b)
joined_height (Text cs ⨾ next ⨾ a) b = ap (λ n. max 0 n) (joined_height (next ⨾ a) b) ∙ max_assoc 0 (height (next ⨾ a)) (height b)
joined_height (Text cs ⨾ no_nodes) no_nodes = omega arith
joined_height (Text cs ⨾ no_nodes) (Text ds ⨾ b) = omega arith
joined_height (Text cs ⨾ no_nodes) (Element name attributes inner ⨾ b) = omega arith
joined_height (Text cs ⨾ no_nodes) (Comment ds ⨾ b) = omega arith
joined_height (Text cs ⨾ no_nodes) (Instruction target content ⨾ b) = omega arith

element_height : (d : ℕ) (f : Nodes → Nodes) (h : ℕ) (node : Node) → IsElement node → height (f (below node)) ≡ max (height (below node)) (d + h)
    → node_height (in_nodes_of f node) ≡ max (node_height node) (suc d + h)
element_height d f h (Element name attributes inner) is_one e = one_more (height (f inner)) (height inner) d h e
  where
    one_more : (a b d h : ℕ) → a ≡ max b (d + h) → suc a ≡ max (suc b) (suc d + h)
    one_more a b d h e = omega arith
element_height d f h (Text cs) is_one e = absurd is_one
element_height d f h (Comment cs) is_one e = absurd is_one
element_height d f h (Instruction target content) is_one e = absurd is_one

-- in the last node, which is an element
last_height : (d : ℕ) (f : Nodes → Nodes) (h : ℕ) (nodes : Nodes) (node : Node) → last_of nodes ≡ Some node → IsElement node → height (f (below node)) ≡ max (height (below node)) (d + h)
    → height (in_last (in_nodes_of f) nodes) ≡ max (height nodes) (suc d + h)
last_height d f h no_nodes node l is_one e = absurd (none-some node l)
last_height d f h (first ⨾ no_nodes) node l is_one e =
    let one = subst (λ n. node_height (in_nodes_of f n) ≡ max (node_height n) (suc d + h)) (sym (same_Some first node l)) (element_height d f h node is_one e) in
    at_end (node_height (in_nodes_of f first)) (node_height first) (suc d + h) one
  where
    at_end : (a b c : ℕ) → a ≡ max b c → max a 0 ≡ max (max b 0) c
    at_end a b c e = omega arith
last_height d f h (first ⨾ next ⨾ nodes) node l is_one e =
    ap (λ n. max (node_height first) n) (last_height d f h (next ⨾ nodes) node l is_one e) ∙ max_assoc (node_height first) (height (next ⨾ nodes)) (suc d + h)

grown_height : (d : ℕ) (x nodes : Nodes) → Spine d nodes → height (grown d x nodes) ≡ max (height nodes) (d + height x)
grown_height zero x nodes s = joined_height nodes x ∙ at_top (height nodes) (height x)
  where
    at_top : (a b : ℕ) → max a b ≡ max a (0 + b)
    at_top a b = omega arith
grown_height (suc d) x nodes s = last_height d (grown d x) (height x) nodes s.0 s.1 s.2 (grown_height d x (below s.0) s.3)

pred_less : (a b : ℕ) → a ≤ b → pred a ≤ b
pred_less a b h = omega arith

depth_less : (before : List Item) → depth before ≤ deepest before
depth_less [] = omega arith
depth_less (start_tag name attributes ∷ before) = omega arith
depth_less (end_tag name ∷ before) = pred_less (depth before) (deepest before) (depth_less before)
depth_less (declaration ∷ before) = depth_less before
depth_less (empty_tag name attributes ∷ before) = let l = depth_less before in omega arith
depth_less (character c ∷ before) = depth_less before
depth_less (reference c ∷ before) = depth_less before
depth_less (cdata cs ∷ before) = depth_less before
depth_less (comment cs ∷ before) = depth_less before
depth_less (instruction target content ∷ before) = depth_less before

text_flat : (cs : List ℕ) → height (text_added cs) ≡ 0
text_flat [] = refl
text_flat (c ∷ cs) = refl

-- what adds no element
flat_added : (d : ℕ) (item : Item) → height (added_by item) ≡ 0 → height (added_at d item) ≡ 0
flat_added (suc d) item h = h
flat_added zero (character c) h = refl
flat_added zero declaration h = h
flat_added zero (start_tag name attributes) h = h
flat_added zero (empty_tag name attributes) h = h
flat_added zero (end_tag name) h = h
flat_added zero (reference c) h = h
flat_added zero (cdata cs) h = h
flat_added zero (comment cs) h = h
flat_added zero (instruction target content) h = h

flat_item : (item : Item) (before : List Item) → Follow before → height (added_by item) ≡ 0 → height (tree_after before) ≡ deepest before → height (tree_after (item ∷ before)) ≡ deepest before
flat_item item before f h e =
    grown_height (depth before) (added_at (depth before) item) (tree_after before) (spine before f)
    ∙ less (height (tree_after before)) (deepest before) (depth before) (height (added_at (depth before) item)) e (flat_added (depth before) item h) (depth_less before)
  where
    less : (a b d h : ℕ) → a ≡ b → h ≡ 0 → d ≤ b → max a (d + h) ≡ b
    less a b d h e f l = omega arith

tag_added : (d : ℕ) (name : Name) (attributes : List Attribute) → (height (added_at d (start_tag name attributes)) ≡ 1) × (height (added_at d (empty_tag name attributes)) ≡ 1)
tag_added zero name attributes = (refl, refl)
tag_added (suc d) name attributes = (refl, refl)

tag_item : (item : Item) (before : List Item) → Follow before → height (added_at (depth before) item) ≡ 1 → height (tree_after before) ≡ deepest before
    → height (tree_after (item ∷ before)) ≡ max (suc (depth before)) (deepest before)
tag_item item before f h e =
    grown_height (depth before) (added_at (depth before) item) (tree_after before) (spine before f)
    ∙ more (height (tree_after before)) (deepest before) (depth before) (height (added_at (depth before) item)) e h
  where
    more : (a b d h : ℕ) → a ≡ b → h ≡ 1 → max a (d + h) ≡ max (suc d) b
    more a b d h e f = omega arith

-- The tree is as high as the deepest item is deep.
pub high : (before : List Item) → Follow before → height (tree_after before) ≡ deepest before
high [] f = refl
high (start_tag name attributes ∷ before) f = tag_item (start_tag name attributes) before f.1 (tag_added (depth before) name attributes).0 (high before f.1)
high (empty_tag name attributes ∷ before) f = tag_item (empty_tag name attributes) before f.1 (tag_added (depth before) name attributes).1 (high before f.1)
high (end_tag name ∷ before) f = flat_item (end_tag name) before f.1 refl (high before f.1)
high (declaration ∷ before) f = flat_item declaration before f.1 refl (high before f.1)
high (character c ∷ before) f = flat_item (character c) before f.1 refl (high before f.1)
high (reference c ∷ before) f = flat_item (reference c) before f.1 refl (high before f.1)
high (cdata cs ∷ before) f = flat_item (cdata cs) before f.1 (text_flat cs) (high before f.1)
high (comment cs ∷ before) f = flat_item (comment cs) before f.1 refl (high before f.1)
high (instruction target content ∷ before) f = flat_item (instruction target content) before f.1 refl (high before f.1)

-- Items that pass limits.

more_nodes : (pieces : List Piece) (before : List Item) → nodes_of before ≤ nodes_of (items_after pieces before)
more_nodes [] before = omega arith
more_nodes (piece ∷ pieces) before = let l = more_nodes pieces (piece.item ∷ before) in omega arith

deepest_next : (item : Item) (before : List Item) → deepest before ≤ deepest (item ∷ before)
deepest_next (start_tag name attributes) before = omega arith
deepest_next (empty_tag name attributes) before = omega arith
deepest_next (end_tag name) before = omega arith
deepest_next declaration before = omega arith
deepest_next (character c) before = omega arith
deepest_next (reference c) before = omega arith
deepest_next (cdata cs) before = omega arith
deepest_next (comment cs) before = omega arith
deepest_next (instruction target content) before = omega arith

more_deep : (pieces : List Piece) (before : List Item) → deepest before ≤ deepest (items_after pieces before)
more_deep [] before = omega arith
more_deep (piece ∷ pieces) before = let l = more_deep pieces (piece.item ∷ before) in let m = deepest_next piece.item before in omega arith

deep_item : (most : Limits) (item : Item) (before : List Item) → is_too_deep most before item ≡ true → most.depth < deepest (item ∷ before)
deep_item most (start_tag name attributes) before e = grind (arith, nat_tests)
deep_item most (empty_tag name attributes) before e = grind (arith, nat_tests)
deep_item most (end_tag name) before e = cc
deep_item most declaration before e = cc
deep_item most (character c) before e = cc
deep_item most (reference c) before e = cc
deep_item most (cdata cs) before e = cc
deep_item most (comment cs) before e = cc
deep_item most (instruction target content) before e = cc

many_items : (most : Limits) (item : Item) (before : List Item) → has_too_many most before item ≡ true → most.nodes < nodes_of (item ∷ before)
many_items most item before e = turned (nodes_of (item ∷ before)) most.nodes e
  where
    turned : (a b : ℕ) → not (nat_le a b) ≡ true → b < a
    turned a b e = grind (arith, nat_tests)

-- within the limits at each item, if in all
shallow_item : (most : Limits) (item : Item) (before : List Item) → deepest before ≤ most.depth → is_too_deep most before item ≡ false → deepest (item ∷ before) ≤ most.depth
shallow_item most (start_tag name attributes) before l e = grind (arith, nat_tests)
shallow_item most (empty_tag name attributes) before l e = grind (arith, nat_tests)
shallow_item most (end_tag name) before l e = l
shallow_item most declaration before l e = l
shallow_item most (character c) before l e = l
shallow_item most (reference c) before l e = l
shallow_item most (cdata cs) before l e = l
shallow_item most (comment cs) before l e = l
shallow_item most (instruction target content) before l e = l

few_items : (most : Limits) (item : Item) (before : List Item) → has_too_many most before item ≡ false → nodes_of (item ∷ before) ≤ most.nodes
few_items most item before e = turned (nodes_of (item ∷ before)) most.nodes e
  where
    turned : (a b : ℕ) → not (nat_le a b) ≡ false → a ≤ b
    turned a b e = grind (arith, nat_tests)

pub within_small : (most : Limits) (before : List Item) (pieces : List Piece) → deepest before ≤ most.depth → nodes_of before ≤ most.nodes → Within most before pieces
    → (deepest (items_after pieces before) ≤ most.depth) × (nodes_of (items_after pieces before) ≤ most.nodes)
within_small most before [] d n w = (d, n)
within_small most before (piece ∷ pieces) d n w =
    within_small most (piece.item ∷ before) pieces (shallow_item most piece.item before d w.0) (few_items most piece.item before w.1) w.2

pub passes_depth : (most : Limits) (item : Item) (before : List Item) (later : List Piece) → is_too_deep most before item ≡ true → most.depth < deepest (items_after later (item ∷ before))
passes_depth most item before later e = let l = deep_item most item before e in let m = more_deep later (item ∷ before) in omega arith

pub passes_nodes : (most : Limits) (item : Item) (before : List Item) (later : List Piece) → has_too_many most before item ≡ true → most.nodes < nodes_of (items_after later (item ∷ before))
passes_nodes most item before later e = let l = many_items most item before e in let m = more_nodes later (item ∷ before) in omega (arith, l, m)

-- Items that stand may follow one another, as far as the tree goes.

pub stand_follow : (before : List Item) (pieces : List Piece) (rest : List ℕ) → Follow before → Stand before pieces rest → Follow (items_after pieces before)
stand_follow before [] rest f s = f
stand_follow before (piece ∷ pieces) rest f s =
    let l = legal_is before (piece.text ++ (texts pieces ++ rest)) (piece, texts pieces ++ rest) s.0 in
    stand_follow (piece.item ∷ before) pieces rest (fits before piece.item l.may, f) s.1
