-- The number of nodes and attributes of the items is that of the tree.
use Rattle.std.proofs.Common.{◌≡◌, ℕ, zero, suc, ◌+◌, ◌<◌, Bool, true, false, cond, ◌&&◌, ◌||◌, List, [], ◌∷◌, length, Some, refl, sym, ◌∙◌, ap, subst, arith, nat_eq}
use Rattle.std.proofs.lemmas.Option.{none-some, same_Some}
use Rattle.std.proofs.Math.Dec.{eqb-suc-zero}
use Rattle.std.specs.Option.{option_map_or}
use Rattle.document_model.specs.Items.{Item, declaration, start_tag, empty_tag, end_tag, character, reference, cdata, comment, instruction}
use Rattle.document_model.specs.Tree.{Node, Nodes, Element, Text, Comment, Instruction, no_nodes, ◌⨾◌, below, IsElement, joined, in_nodes_of, in_last, grown, depth, added_by, added_at, tree_after, last_of}
use Rattle.document_model.specs.Documents.{is_in_text, text_nodes, new_nodes, nodes_of}
use Rattle.document_model.proofs.Grown.{Spine, joined_none, added_start, added_end}
use Rattle.document_model.specs.Sizes.{node_count, count_all}
use Rattle.doc_spans.specs.Marks.{Fits, Follow}
use Rattle.doc_spans.proofs.Spine.{inside}
use Rattle.doc_spans.proofs.Steps.{children, ends_in_text, is_text, spine, never, text_is_last, deep, added_whole, added_comment, added_instruction}
use Rattle.doc_spans.proofs.Turn.{added_nothing, added_flat}

apart : (nodes : Nodes) (node : Node) → (ends_in_text nodes && is_text node) ≡ false → count_all (joined nodes (node ⨾ no_nodes)) ≡ count_all nodes + node_count node
apart no_nodes node e = omega arith
apart (Element name attributes inner ⨾ no_nodes) node e = omega arith
apart (Element name attributes inner ⨾ next ⨾ nodes) node e = let n = apart (next ⨾ nodes) node e in omega arith
apart (Comment cs ⨾ no_nodes) node e = omega arith
apart (Comment cs ⨾ next ⨾ nodes) node e = let n = apart (next ⨾ nodes) node e in omega arith
apart (Instruction target content ⨾ no_nodes) node e = omega arith
apart (Instruction target content ⨾ next ⨾ nodes) node e = let n = apart (next ⨾ nodes) node e in omega arith
apart (Text cs ⨾ next ⨾ nodes) node e = let n = apart (next ⨾ nodes) node e in omega arith
apart (Text cs ⨾ no_nodes) (Element name attributes inner) e = omega arith
apart (Text cs ⨾ no_nodes) (Text ds) e = cc
apart (Text cs ⨾ no_nodes) (Comment ds) e = refl
apart (Text cs ⨾ no_nodes) (Instruction target content) e = refl

together : (nodes : Nodes) (ds : List ℕ) → ends_in_text nodes ≡ true → count_all (joined nodes (Text ds ⨾ no_nodes)) ≡ count_all nodes
together no_nodes ds e = cc
together (Element name attributes inner ⨾ no_nodes) ds e = cc
together (Element name attributes inner ⨾ next ⨾ nodes) ds e = ap (λ n. node_count (Element name attributes inner) + n) (together (next ⨾ nodes) ds e)
together (Comment cs ⨾ no_nodes) ds e = cc
together (Comment cs ⨾ next ⨾ nodes) ds e = ap (λ n. 1 + n) (together (next ⨾ nodes) ds e)
together (Instruction target content ⨾ no_nodes) ds e = cc
together (Instruction target content ⨾ next ⨾ nodes) ds e = ap (λ n. 1 + n) (together (next ⨾ nodes) ds e)
together (Text cs ⨾ next ⨾ nodes) ds e = ap (λ n. 1 + n) (together (next ⨾ nodes) ds e)
together (Text cs ⨾ no_nodes) ds e = refl

weight_changed : (f : Nodes → Nodes) (node : Node) → IsElement node → node_count (in_nodes_of f node) + count_all (below node) ≡ node_count node + count_all (f (below node))
weight_changed f (Element name attributes inner) is = omega arith
weight_changed f (Text cs) is = absurd is
weight_changed f (Comment cs) is = absurd is
weight_changed f (Instruction target content) is = absurd is

in_last_weighs : (f : Nodes → Nodes) (nodes : Nodes) (node : Node) → last_of nodes ≡ Some node → IsElement node
    → count_all (in_last (in_nodes_of f) nodes) + count_all (below node) ≡ count_all nodes + count_all (f (below node))
in_last_weighs f no_nodes node e is = absurd (none-some node e)
in_last_weighs f (first ⨾ no_nodes) node e is =
    let P : Node → Type 0 = λ n. node_count (in_nodes_of f n) + 0 + count_all (below node) ≡ node_count n + 0 + count_all (f (below node)) in
    subst P (sym (same_Some first node e)) (let n = weight_changed f node is in omega arith)
in_last_weighs f (first ⨾ next ⨾ nodes) node e is = let n = in_last_weighs f (next ⨾ nodes) node e is in omega arith

grown_weighs : (d : ℕ) (x nodes : Nodes) → Spine d nodes → count_all (grown d x nodes) + count_all (inside d nodes) ≡ count_all nodes + count_all (joined (inside d nodes) x)
grown_weighs zero x nodes s = omega arith
grown_weighs (suc d) x nodes s =
    let inside_is : inside (suc d) nodes ≡ inside d (below s.0) = ap (λ o. option_map_or (λ node. inside d (below node)) o no_nodes) s.1 in
    let outer = in_last_weighs (grown d x) nodes s.0 s.1 s.2 in
    let inner = grown_weighs d x (below s.0) s.3 in
    let P : Nodes → Type 0 = λ ns. count_all (in_last (in_nodes_of (grown d x)) nodes) + count_all ns ≡ count_all nodes + count_all (joined ns x) in
    subst P (sym inside_is) (omega arith)

-- one item
grows : (before : List Item) (x : Nodes) (n : ℕ) → Follow before → count_all (joined (children before) x) ≡ count_all (children before) + n
    → count_all (grown (depth before) x (tree_after before)) ≡ n + count_all (tree_after before)
grows before x n h e = let g = grown_weighs (depth before) x (tree_after before) (spine before h) in omega arith

grows_none : (before : List Item) (x : Nodes) → Follow before → x ≡ no_nodes → count_all (grown (depth before) x (tree_after before)) ≡ 0 + count_all (tree_after before)
grows_none before x h e =
    grows before x 0 h (ap count_all (ap (joined (children before)) e ∙ joined_none (children before)) ∙ (let a : count_all (children before) ≡ count_all (children before) + 0 = omega arith in a))

grows_one : (before : List Item) (x : Nodes) (node : Node) → Follow before → x ≡ node ⨾ no_nodes → (ends_in_text (children before) && is_text node) ≡ false
    → count_all (grown (depth before) x (tree_after before)) ≡ node_count node + count_all (tree_after before)
grows_one before x node h e a = grows before x (node_count node) h (ap (λ y. count_all (joined (children before) y)) e ∙ apart (children before) node a)

abbrev one_unless : Bool → ℕ
one_unless b = cond b 0 1

grows_text : (before : List Item) (c : ℕ) (cs : List ℕ) (item : Item) → Follow before → 0 < depth before → added_by item ≡ Text (c ∷ cs) ⨾ no_nodes
    → count_all (grown (depth before) (added_at (depth before) item) (tree_after before)) ≡ text_nodes before (c ∷ cs) + count_all (tree_after before)
grows_text before c cs item h inner a = by_text (is_in_text before) refl
  where
    is_deep : (d : ℕ) (t : Bool) → 0 < d → one_unless (nat_eq d 0 || t) ≡ one_unless t
    is_deep zero t i = absurd (omega arith)
    is_deep (suc d) t i = ap (λ b. one_unless (b || t)) (eqb-suc-zero d)

    adds : added_at (depth before) item ≡ Text (c ∷ cs) ⨾ no_nodes
    adds = deep (depth before) item inner ∙ a

    by_text : (t : Bool) → is_in_text before ≡ t → count_all (grown (depth before) (added_at (depth before) item) (tree_after before)) ≡ text_nodes before (c ∷ cs) + count_all (tree_after before)
    by_text true e =
        grows before (added_at (depth before) item) 0 h
        (ap (λ y. count_all (joined (children before) y)) adds ∙ together (children before) (c ∷ cs) (text_is_last before h inner ∙ e) ∙ (let z : count_all (children before) ≡ count_all (children before) + 0 = omega arith in z))
        ∙ ap (λ n. n + count_all (tree_after before)) (sym (is_deep (depth before) (is_in_text before) inner ∙ ap one_unless e))
    by_text false e =
        grows_one before (added_at (depth before) item) (Text (c ∷ cs)) h adds (ap (λ b. b && true) (text_is_last before h inner ∙ e))
        ∙ ap (λ n. n + count_all (tree_after before)) (sym (is_deep (depth before) (is_in_text before) inner ∙ ap one_unless e))

counted : (before : List Item) (item : Item) → Follow before → Fits before item → count_all (tree_after (item ∷ before)) ≡ new_nodes before item + count_all (tree_after before)
counted before declaration h f = grows_none before _ h (added_nothing (depth before))
counted before (start_tag name attributes) h f =
    grows_one before _ (Element name attributes no_nodes) h (added_start (depth before) name attributes) (never (ends_in_text (children before)))
    ∙ (let a : 1 + length attributes + 0 + count_all (tree_after before) ≡ 1 + length attributes + count_all (tree_after before) = omega arith in a)
counted before (empty_tag name attributes) h f =
    grows_one before _ (Element name attributes no_nodes) h (added_whole (depth before) name attributes) (never (ends_in_text (children before)))
    ∙ (let a : 1 + length attributes + 0 + count_all (tree_after before) ≡ 1 + length attributes + count_all (tree_after before) = omega arith in a)
counted before (end_tag name) h f = grows_none before _ h (added_end (depth before) name)
counted before (character c) h f = by_depth (depth before) refl
  where
    by_depth : (d : ℕ) → depth before ≡ d → count_all (grown (depth before) (added_at (depth before) (character c)) (tree_after before)) ≡ text_nodes before (c ∷ []) + count_all (tree_after before)
    by_depth zero e = grows_none before _ h (added_flat (depth before) c e) ∙ ap (λ n. n + count_all (tree_after before)) (sym (ap (λ d. one_unless (nat_eq d 0 || is_in_text before)) e))
    by_depth (suc d) e = grows_text before c [] (character c) h (omega (arith, e)) refl
counted before (reference c) h f = grows_text before c [] (reference c) h f refl
counted before (cdata []) h f = grows_none before _ h (deep (depth before) (cdata []) f)
counted before (cdata (c ∷ cs)) h f = grows_text before c cs (cdata (c ∷ cs)) h f refl
counted before (comment cs) h f = grows_one before _ (Comment cs) h (added_comment (depth before) cs) (never (ends_in_text (children before)))
counted before (instruction target content) h f = grows_one before _ (Instruction target content) h (added_instruction (depth before) target content) (never (ends_in_text (children before)))

pub nodes_counted : (before : List Item) → Follow before → count_all (tree_after before) ≡ nodes_of before
nodes_counted [] h = refl
nodes_counted (item ∷ before) h = counted before item h.1 h.0 ∙ ap (λ n. new_nodes before item + n) (nodes_counted before h.1)
