-- The text among the nodes that an element holds.
use Rattle.std.proofs.Common.{◌≡◌, ℕ, suc, ◌-◌, Bool, true, false, not, ◌&&◌, ◌||◌, cond, List, [], ◌∷◌, ◌++◌, Option, Some, None, refl, sym, ◌∙◌, ap, arith}
use Rattle.std.specs.Prelude.{map, filter, option_map}
use Rattle.std.specs.List.{list_all}
use Rattle.std.specs.Option.{option_map_or}
use Rattle.document_model.specs.Characters.{is_white, is_empty}
use Rattle.document_model.specs.Tree.{Node, Nodes, Path, Element, Text, Comment, Instruction, no_nodes, ◌⨾◌, count}
use Rattle.doc_spans.specs.declared.documents.Doc.{Doc}
use Rattle.doc_spans.specs.declared.documents.NodeId.{NodeId}
use Rattle.doc_spans.specs.declared.rows.Kind.{Kind}
use Rattle.doc_spans.specs.declared.rows.Kind.TheVariants as kinds
use Rattle.doc_spans.specs.Below.{paths_below, nodes_from}
use Rattle.doc_spans.specs.Seen.{Has, NameBelow, document_in, path_in, node_in, nodes_in, nodes_at, shown_in, text_in, text_of_node}
use Rattle.doc_spans.specs.Shown.{path_at, kind_of}
use Rattle.doc_spans.proofs.ChildSteps.{NextChild, no_child_left}
use Rattle.signature_model.specs.Spots.{emptied_all, held_at, text_among, has_stray_text, is_text_alone}
use Rattle.signature_model.specs.Spots as spots
use Rattle.signature_elements.specs.Standing.{spot_of}
use Rattle.signature_elements.specs.Holding.{text_of, text_at, texts_at, is_stray_at, is_text, is_text_at}
use Rattle.signature_elements.proofs.Spotted.{nth_from, others_from, child_stands, held_is}

-- Texts by paths.

children_texts : (document : Nodes) (path : Path) (i : ℕ) (nodes : Nodes) → nodes_from i (nodes_at document path) ≡ nodes
    → texts_at document (paths_below path i (count nodes)) ≡ text_among (emptied_all nodes)
children_texts document path i no_nodes e = refl
children_texts document path i (node ⨾ nodes) e =
    let c = child_stands document path i node (nth_from i (nodes_at document path) nodes node e) in
    let others = children_texts document path (suc i) nodes (others_from i (nodes_at document path) nodes node e) in
    (λ k. option_map_or text_of (c.is k) [] ++ others k) ∙ by_node node
  where
    by_node : (n : Node) → text_of n ++ text_among (emptied_all nodes) ≡ text_among (emptied_all (n ⨾ nodes))
    by_node (Element name attributes inner) = refl
    by_node (Text cs) = refl
    by_node (Comment cs) = refl
    by_node (Instruction target content) = refl

-- the characters that the text nodes of some numbers have
abbrev pub texts_of : Doc → List ℕ → List ℕ
texts_of doc numbers = texts_at (document_in doc) (map (path_at (shown_in doc)) numbers)

pub all_texts : (doc : Doc) (node : NodeId) (numbers : List ℕ) → Has doc node → NameBelow doc (path_in doc node) 0 numbers
    → texts_of doc numbers ≡ spots.text_in (document_in doc) (spot_of doc node)
all_texts doc node numbers h below =
    let document = document_in doc in
    let path = path_in doc node in
    let n : count (nodes_at document path) - 0 ≡ count (nodes_at document path) = omega arith in
    ap (texts_at document) (below.paths ∙ ap (paths_below path 0) n)
    ∙ children_texts document path 0 (nodes_at document path) refl
    ∙ ap text_among (held_is doc node h)

-- Texts by kinds.

abbrev pub text_of_kind : Kind → List ℕ → List ℕ
text_of_kind kinds.Element cs = []
text_of_kind kinds.Text cs = cs
text_of_kind kinds.Comment cs = []
text_of_kind kinds.Pi cs = []

by_kind : (found : Option Node) → option_map_or text_of found [] ≡ option_map_or (λ kind. text_of_kind kind (option_map_or text_of_node found [])) (option_map kind_of found) []
by_kind None = refl
by_kind (Some (Element name attributes nodes)) = refl
by_kind (Some (Text cs)) = refl
by_kind (Some (Comment cs)) = refl
by_kind (Some (Instruction target content)) = refl

pub text_by_kind : (doc : Doc) (node : NodeId) (kind : Kind) → option_map kind_of (node_in doc node) ≡ Some kind → text_at (document_in doc) (path_in doc node) ≡ text_of_kind kind (text_in doc node)
text_by_kind doc node kind e = by_kind (node_in doc node) ∙ ap (λ o. option_map_or (λ k. text_of_kind k (text_in doc node)) o []) e

pub no_text_kind : (kind : Kind) (cs : List ℕ) → (kind ≡ kinds.Text → ⊥) → text_of_kind kind cs ≡ []
no_text_kind kinds.Element cs h = refl
no_text_kind kinds.Text cs h = absurd (h refl)
no_text_kind kinds.Comment cs h = refl
no_text_kind kinds.Pi cs h = refl

-- White space.

pub all_more : (test : ℕ → Bool) (xs ys : List ℕ) → list_all test (xs ++ ys) ≡ (list_all test xs && list_all test ys)
all_more test [] ys = refl
all_more test (x ∷ xs) ys = ap (λ b. test x && b) (all_more test xs ys) ∙ by_test (test x)
  where
    by_test : (b : Bool) → (b && (list_all test xs && list_all test ys)) ≡ ((b && list_all test xs) && list_all test ys)
    by_test true = refl
    by_test false = refl

empty_more : (cs ds : List ℕ) → is_empty (filter (λ c. not (is_white c)) (cs ++ ds)) ≡ (list_all is_white cs && is_empty (filter (λ c. not (is_white c)) ds))
empty_more [] ds = refl
empty_more (c ∷ cs) ds = by_test (is_white c) (empty_more cs ds)
  where
    by_test : (b : Bool) → is_empty (filter (λ c. not (is_white c)) (cs ++ ds)) ≡ (list_all is_white cs && is_empty (filter (λ c. not (is_white c)) ds))
        → is_empty (cond (not b) (c ∷ filter (λ c. not (is_white c)) (cs ++ ds)) (filter (λ c. not (is_white c)) (cs ++ ds)))
        ≡ ((b && list_all is_white cs) && is_empty (filter (λ c. not (is_white c)) ds))
    by_test true e = e
    by_test false e = refl

pub blank_text : (nodes : Nodes) → is_empty (filter (λ c. not (is_white c)) (text_among nodes)) ≡ not (has_stray_text nodes)
blank_text no_nodes = refl
blank_text (Element name attributes inner ⨾ nodes) = blank_text nodes
blank_text (Text cs ⨾ nodes) = empty_more cs (text_among nodes) ∙ ap (λ b. list_all is_white cs && b) (blank_text nodes) ∙ neither (list_all is_white cs) (has_stray_text nodes)
  where
    neither : (a b : Bool) → (a && not b) ≡ not (not a || b)
    neither true b = refl
    neither false b = refl
blank_text (Comment cs ⨾ nodes) = blank_text nodes
blank_text (Instruction target content ⨾ nodes) = blank_text nodes

-- One child after another.

-- whether there is such text among the children from the i-th on
abbrev pub stray_left : Doc → NodeId → ℕ → Bool
stray_left doc node i = has_stray_text (emptied_all (nodes_from i (nodes_in doc node)))

stray_more : (node : Node) (nodes : Nodes) → has_stray_text (emptied_all (node ⨾ nodes)) ≡ (not (list_all is_white (text_of node)) || has_stray_text (emptied_all nodes))
stray_more (Element name attributes inner) nodes = refl
stray_more (Text cs) nodes = refl
stray_more (Comment cs) nodes = refl
stray_more (Instruction target content) nodes = refl

pub stray_step : (doc : Doc) (node child : NodeId) (i : ℕ) (behind : List ℕ) → NextChild doc (path_in doc node) i child.0 behind
    → stray_left doc node i ≡ (is_stray_at (document_in doc) (path_in doc child) || stray_left doc node (suc i))
stray_step doc node child i behind next =
    ap (λ nodes. has_stray_text (emptied_all nodes)) next.here
    ∙ stray_more next.node (nodes_from (suc i) (nodes_in doc node))
    ∙ ap (λ o. not (list_all is_white (option_map_or text_of o [])) || stray_left doc node (suc i)) (sym next.named)

pub no_stray_left : (doc : Doc) (node : NodeId) (i : ℕ) (numbers : List ℕ) → numbers ≡ [] → NameBelow doc (path_in doc node) i numbers → stray_left doc node i ≡ false
no_stray_left doc node i numbers none h = ap (λ nodes. has_stray_text (emptied_all nodes)) (no_child_left doc (path_in doc node) i numbers none h)

pub stray_whole : (doc : Doc) (node : NodeId) → Has doc node → stray_left doc node 0 ≡ has_stray_text (held_at (document_in doc) (path_in doc node))
stray_whole doc node h = ap has_stray_text (held_is doc node h)

-- whether the children from the i-th on are text alone
abbrev pub alone_left : Doc → NodeId → ℕ → Bool
alone_left doc node i = is_text_alone (emptied_all (nodes_from i (nodes_in doc node)))

alone_more : (node : Node) (nodes : Nodes) → is_text_alone (emptied_all (node ⨾ nodes)) ≡ (is_text node && is_text_alone (emptied_all nodes))
alone_more (Element name attributes inner) nodes = refl
alone_more (Text cs) nodes = refl
alone_more (Comment cs) nodes = refl
alone_more (Instruction target content) nodes = refl

pub alone_step : (doc : Doc) (node child : NodeId) (i : ℕ) (behind : List ℕ) → NextChild doc (path_in doc node) i child.0 behind
    → alone_left doc node i ≡ (is_text_at (document_in doc) (path_in doc child) && alone_left doc node (suc i))
alone_step doc node child i behind next =
    ap (λ nodes. is_text_alone (emptied_all nodes)) next.here
    ∙ alone_more next.node (nodes_from (suc i) (nodes_in doc node))
    ∙ ap (λ o. option_map_or is_text o false && alone_left doc node (suc i)) (sym next.named)

pub none_alone_left : (doc : Doc) (node : NodeId) (i : ℕ) (numbers : List ℕ) → numbers ≡ [] → NameBelow doc (path_in doc node) i numbers → alone_left doc node i ≡ true
none_alone_left doc node i numbers none h = ap (λ nodes. is_text_alone (emptied_all nodes)) (no_child_left doc (path_in doc node) i numbers none h)

pub alone_whole : (doc : Doc) (node : NodeId) → Has doc node → alone_left doc node 0 ≡ is_text_alone (held_at (document_in doc) (path_in doc node))
alone_whole doc node h = ap is_text_alone (held_is doc node h)
