-- The text of the nodes of a set, one node after another.
use Rattle.std.proofs.Common.{◌≡◌, ℕ, suc, ◌<◌, Bool, true, false, not, cond, ◌&&◌, ◌||◌, List, [], ◌∷◌, ◌++◌, Option, Some, None, refl, sym, ◌∙◌, ap}
use Rattle.std.proofs.lemmas.List.{append-nil}
use Rattle.std.proofs.lemmas.Option.{none-some}
use Rattle.std.specs.Prelude.{option_map}
use Rattle.std.specs.Option.{option_map_or}
use Rattle.document_model.specs.Tree.{Node, Nodes, Path, Element, Text, Comment, Instruction, no_nodes, ◌⨾◌, nth, node_at, below}
use Rattle.document_model.specs.Scopes.{elements_around}
use Rattle.document_model.specs.NodeSets.{NodeSet, has_in, has, is_comment, kept, kept_node, apex_alone, part, part_from}
use Rattle.doc_spans.specs.declared.documents.Doc.{Doc}
use Rattle.doc_spans.specs.declared.documents.NodeId.{NodeId}
use Rattle.doc_spans.specs.declared.rows.Kind.{Kind}
use Rattle.doc_spans.specs.declared.rows.Kind.TheVariants as kinds
use Rattle.doc_spans.specs.Below.{nodes_from}
use Rattle.doc_spans.specs.Seen.{Has, NameBelow, document_in, path_in, node_in, nodes_at, text_of_node}
use Rattle.doc_spans.specs.Seen as seen
use Rattle.doc_spans.specs.Shown.{kind_of, outer_path}
use Rattle.doc_spans.specs.Sizes.{size_in}
use Rattle.doc_spans.proofs.ChildSteps.{NextChild, nodes_of_node, no_child_left}
use Rattle.doc_spans.proofs.Elements.{smaller}
use Rattle.node_sets.specs.declared.sets.NodeSet as code
use Rattle.node_sets.specs.Sets.{set_in, doc_in, is_top}
use Rattle.canon_forms.specs.Writing.{IsReached}
use Rattle.canon_forms.specs.Walks.{by_node}
use Rattle.canon_forms.proofs.HeldNodes.{around_any, kept_any, node_any, held_is_reached, has_below}
use Rattle.canon_forms.proofs.ChildNodes.{of_next}
use Rattle.canon_forms.proofs.Walked.{there, of_there}
use Rattle.signature_model.specs.Chains.{texts, text_below}
use Rattle.reference_chains.specs.SetTexts.{node_text, alone_text, text_in, held_text_in, top_text}

-- Children.

-- the text of the nodes below a path from the i-th on
abbrev pub left : NodeSet → Doc → Path → ℕ → List ℕ
left set doc path i = texts (kept (has_in set) [] path i (nodes_from i (nodes_at (document_in doc) path)))

one_kept : (b : Bool) (node : Node) (nodes : Nodes) → texts (cond b (node ⨾ nodes) nodes) ≡ cond b (text_below node) [] ++ texts nodes
one_kept true node nodes = refl
one_kept false node nodes = refl

left_step : (set : NodeSet) (doc : Doc) (path : Path) (i : ℕ) (child : NodeId) (behind : List ℕ) → (next : NextChild doc path i child.0 behind)
    → left set doc path i ≡ cond (has_in set [] (path ++ i ∷ []) next.node) (node_text set (path ++ i ∷ []) next.node) [] ++ left set doc path (suc i)
left_step set doc path i child behind next =
    ap (λ nodes. texts (kept (has_in set) [] path i nodes)) next.here
    ∙ one_kept (has_in set [] (path ++ i ∷ []) next.node) (kept_node (has_in set) [] (path ++ i ∷ []) next.node)
    (kept (has_in set) [] path (suc i) (nodes_from (suc i) (nodes_at (document_in doc) path)))

or_true : (b : Bool) → (b || true) ≡ true
or_true true = refl
or_true false = refl

either_same : (b : Bool) (text : List ℕ) → cond b text text ≡ text
either_same true text = refl
either_same false text = refl

-- a comment has no text, be it held or not
kept_text : (set : NodeSet) (path : Path) (node : Node) → set.signatures ≡ true → IsReached set (outer_path path) → is_top set.removed path ≡ false
    → cond (has_in set [] path node) (node_text set path node) [] ≡ node_text set path node
kept_text set path node s r e =
    ap (λ b. cond b (node_text set path node) []) (has_below set path node s r ∙ ap (λ t. not t && (set.comments || not (is_comment node))) e)
    ∙ by_node_kind node
  where
    by_node_kind : (n : Node) → cond (set.comments || not (is_comment n)) (node_text set path n) [] ≡ node_text set path n
    by_node_kind (Element name attributes nodes) = ap (λ b. cond b (node_text set path (Element name attributes nodes)) []) (or_true set.comments)
    by_node_kind (Text cs) = ap (λ b. cond b cs []) (or_true set.comments)
    by_node_kind (Comment cs) = either_same (set.comments || false) []
    by_node_kind (Instruction target content) = either_same (set.comments || true) []

removed_text : (set : NodeSet) (path : Path) (node : Node) → set.signatures ≡ true → IsReached set (outer_path path) → is_top set.removed path ≡ true
    → cond (has_in set [] path node) (node_text set path node) [] ≡ []
removed_text set path node s r e =
    ap (λ b. cond b (node_text set path node) []) (has_below set path node s r ∙ ap (λ t. not t && (set.comments || not (is_comment node))) e)

pub child_kept : (set : NodeSet) (doc : Doc) (path : Path) (i : ℕ) (child : NodeId) (behind : List ℕ) → (next : NextChild doc path i child.0 behind)
    → set.signatures ≡ true → IsReached set (outer_path (path_in doc child)) → is_top set.removed (path_in doc child) ≡ false
    → left set doc path i ≡ by_node (node_text set) [] doc child ++ left set doc path (suc i)
child_kept set doc path i child behind next s r e =
    left_step set doc path i child behind next
    ∙ ap (λ text. text ++ left set doc path (suc i))
    (ap (λ p. cond (has_in set [] p next.node) (node_text set p next.node) []) (sym next.at)
    ∙ kept_text set (path_in doc child) next.node s r e
    ∙ ap (λ p. node_text set p next.node) next.at
    ∙ sym (of_next (node_text set) [] doc path i child behind next))

pub child_removed : (set : NodeSet) (doc : Doc) (path : Path) (i : ℕ) (child : NodeId) (behind : List ℕ) → (next : NextChild doc path i child.0 behind)
    → set.signatures ≡ true → IsReached set (outer_path (path_in doc child)) → is_top set.removed (path_in doc child) ≡ true
    → left set doc path i ≡ left set doc path (suc i)
child_removed set doc path i child behind next s r e =
    left_step set doc path i child behind next
    ∙ ap (λ text. text ++ left set doc path (suc i))
    (ap (λ p. cond (has_in set [] p next.node) (node_text set p next.node) []) (sym next.at) ∙ removed_text set (path_in doc child) next.node s r e)

one_alone : (b : Bool) (node : Node) → cond b (text_below node) [] ≡ texts (cond b (node ⨾ no_nodes) no_nodes)
one_alone true node = sym (append-nil (text_below node))
one_alone false node = refl

-- a node that the document holds
pub top_step : (set : NodeSet) (doc : Doc) (i : ℕ) (child : NodeId) (behind : List ℕ) → (next : NextChild doc [] i child.0 behind)
    → left set doc [] i ≡ by_node (alone_text set) [] doc child ++ left set doc [] (suc i)
top_step set doc i child behind next =
    left_step set doc [] i child behind next
    ∙ ap (λ text. text ++ left set doc [] (suc i))
    (one_alone (has_in set [] (i ∷ []) next.node) (kept_node (has_in set) [] (i ∷ []) next.node)
    ∙ sym (of_next (alone_text set) [] doc [] i child behind next))

pub none_left : (set : NodeSet) (doc : Doc) (path : Path) (i : ℕ) (numbers : List ℕ) → numbers ≡ [] → NameBelow doc path i numbers → left set doc path i ≡ []
none_left set doc path i numbers none h = ap (λ nodes. texts (kept (has_in set) [] path i nodes)) (no_child_left doc path i numbers none h)

-- A child of a node that is reached, unless it is the one that is left out, is reached.
pub reached_child : (set : NodeSet) (path : Path) (node : Node) → set.signatures ≡ true → IsReached set (outer_path path) → is_top set.removed path ≡ false → IsReached set path
reached_child set path node s r e =
    let all : NodeSet = record { apex = set.apex; comments = true; removed = set.removed; signatures = set.signatures } in
    let outer : IsReached all (outer_path path) = record { within = r.within; left = r.left } in
    let here = held_is_reached all [] path node (has_below all path node s outer ∙ ap (λ t. not t && true) e) in
    record { within = here.within; left = here.left }

-- and smaller
pub child_smaller : (doc : Doc) (node child : NodeId) (i : ℕ) (numbers : List ℕ) → Has doc node → NextChild doc (path_in doc node) i child.0 numbers → size_in doc child < size_in doc node
child_smaller doc node child i numbers h next = let t = there doc node h in by_found t.found t.is
  where
    no_child : (n : Node) → node_in doc node ≡ Some n → below n ≡ no_nodes → size_in doc child < size_in doc node
    no_child n e none =
        absurd (none-some next.node (ap (nth i) (sym (nodes_of_node (document_in doc) (path_in doc node) n e ∙ none)) ∙ next.nth_is))

    by_found : (n : Node) → node_in doc node ≡ Some n → size_in doc child < size_in doc node
    by_found (Element name attributes nodes) e = smaller doc node child i numbers (record { name = name; attributes = attributes }) (record { nodes = nodes; is = e }) next
    by_found (Text cs) e = no_child (Text cs) e refl
    by_found (Comment cs) e = no_child (Comment cs) e refl
    by_found (Instruction target content) e = no_child (Instruction target content) e refl

-- Nodes.

is_text_kind : Option Kind → Bool
is_text_kind None = false
is_text_kind (Some kinds.Element) = false
is_text_kind (Some kinds.Text) = true
is_text_kind (Some kinds.Comment) = false
is_text_kind (Some kinds.Pi) = false

text_here : (set : NodeSet) (path : Path) (found : Option Node) → option_map kind_of found ≡ Some kinds.Text → option_map_or text_of_node found [] ≡ option_map_or (node_text set path) found []
text_here set path None e = (let f = ap is_text_kind e in cc)
text_here set path (Some (Element name attributes nodes)) e = (let f = ap is_text_kind e in cc)
text_here set path (Some (Text cs)) e = refl
text_here set path (Some (Comment cs)) e = (let f = ap is_text_kind e in cc)
text_here set path (Some (Instruction target content)) e = (let f = ap is_text_kind e in cc)

pub text_node : (set : NodeSet) (doc : Doc) (node : NodeId) → option_map kind_of (node_in doc node) ≡ Some kinds.Text → seen.text_in doc node ≡ by_node (node_text set) [] doc node
text_node set doc node e = text_here set (path_in doc node) (node_in doc node) e

-- another node has the text of what it holds
pub other_node : (set : NodeSet) (doc : Doc) (node : NodeId) (kind : Kind) → set.signatures ≡ true → Has doc node → option_map kind_of (node_in doc node) ≡ Some kind → (kind ≡ kinds.Text → ⊥)
    → left set doc (path_in doc node) 0 ≡ by_node (node_text set) [] doc node
other_node set doc node kind s h k other =
    let t = there doc node h in
    ap (λ nodes. texts (kept (has_in set) [] (path_in doc node) 0 nodes)) (nodes_of_node (document_in doc) (path_in doc node) t.found t.is)
    ∙ by_found t.found (sym (ap (option_map kind_of) t.is) ∙ k)
    ∙ sym (of_there (node_text set (path_in doc node)) [] doc node t)
  where
    unsome : Option Kind → Kind
    unsome None = kinds.Text
    unsome (Some k) = k

    by_found : (n : Node) → Some (kind_of n) ≡ Some kind → texts (kept (has_in set) [] (path_in doc node) 0 (below n)) ≡ node_text set (path_in doc node) n
    by_found (Element name attributes nodes) e = ap texts (kept_any set [] (record { name = name; attributes = attributes } ∷ []) (path_in doc node) 0 nodes s)
    by_found (Text cs) e = absurd (other (sym (ap unsome e)))
    by_found (Comment cs) e = refl
    by_found (Instruction target content) e = refl

-- The set holds a node, or doesn't.

pub has_is : (set : code.NodeSet) (node : NodeId) → Has (doc_in set) node → has (set_in set) (document_in (doc_in set)) (path_in (doc_in set) node) ≡ by_node (has_in (set_in set) []) false (doc_in set) node
has_is set node h =
    let t = there (doc_in set) node h in
    let path = path_in (doc_in set) node in
    let outer = elements_around (document_in (doc_in set)) path in
    of_there (has_in (set_in set) outer path) false (doc_in set) node t
    ∙ around_any (set_in set) outer [] path t.found refl
    ∙ sym (of_there (has_in (set_in set) [] path) false (doc_in set) node t)

pub held_true : (set : code.NodeSet) (node : NodeId) → Has (doc_in set) node → has (set_in set) (document_in (doc_in set)) (path_in (doc_in set) node) ≡ true → text_in set node ≡ held_text_in set node
held_true set node h e =
    let t = there (doc_in set) node h in
    let path = path_in (doc_in set) node in
    let passes : has_in (set_in set) [] path t.found ≡ true = sym (of_there (has_in (set_in set) [] path) false (doc_in set) node t) ∙ sym (has_is set node h) ∙ e in
    of_there (node_text (set_in set) path) [] (doc_in set) node t
    ∙ ap (λ b. cond b (node_text (set_in set) path t.found) []) (sym passes)
    ∙ one_alone (has_in (set_in set) [] path t.found) (kept_node (has_in (set_in set)) [] path t.found)
    ∙ sym (of_there (alone_text (set_in set) path) [] (doc_in set) node t)

pub held_false : (set : code.NodeSet) (node : NodeId) → Has (doc_in set) node → has (set_in set) (document_in (doc_in set)) (path_in (doc_in set) node) ≡ false → [] ≡ held_text_in set node
held_false set node h e =
    let t = there (doc_in set) node h in
    let path = path_in (doc_in set) node in
    let fails : has_in (set_in set) [] path t.found ≡ false = sym (of_there (has_in (set_in set) [] path) false (doc_in set) node t) ∙ sym (has_is set node h) ∙ e in
    ap (λ b. cond b (node_text (set_in set) path t.found) []) (sym fails)
    ∙ one_alone (has_in (set_in set) [] path t.found) (kept_node (has_in (set_in set)) [] path t.found)
    ∙ sym (of_there (alone_text (set_in set) path) [] (doc_in set) node t)

pub held_reached : (set : code.NodeSet) (node : NodeId) → Has (doc_in set) node → has (set_in set) (document_in (doc_in set)) (path_in (doc_in set) node) ≡ true → IsReached (set_in set) (path_in (doc_in set) node)
held_reached set node h e =
    let t = there (doc_in set) node h in
    let path = path_in (doc_in set) node in
    held_is_reached (set_in set) [] path t.found (sym (of_there (has_in (set_in set) [] path) false (doc_in set) node t) ∙ sym (has_is set node h) ∙ e)

-- The whole set, by its apex.

part_at : (set : NodeSet) (document : Nodes) (path : Path) (node : Node) → path ≡ set.apex → node_at document path ≡ Some node → part set document ≡ apex_alone (has_in set) (elements_around document path) path node
part_at set document path node e n = ap (λ apex. part_from (has_in set) apex document) (sym e) ∙ by_path path n
  where
    by_path : (p : Path) → node_at document p ≡ Some node → part_from (has_in set) p document ≡ apex_alone (has_in set) (elements_around document p) p node
    by_path [] n = absurd (none-some node n)
    by_path (k ∷ p) n = ap (λ o. option_map_or (apex_alone (has_in set) (elements_around document (k ∷ p)) (k ∷ p)) o no_nodes) n

pub at_apex : (set : code.NodeSet) (apex : NodeId) → Has (doc_in set) apex → path_in (doc_in set) apex ≡ (set_in set).apex → held_text_in set apex ≡ texts (part (set_in set) (document_in (doc_in set)))
at_apex set apex h e =
    let t = there (doc_in set) apex h in
    let path = path_in (doc_in set) apex in
    let document = document_in (doc_in set) in
    let outer = elements_around document path in
    of_there (alone_text (set_in set) path) [] (doc_in set) apex t
    ∙ (λ i. texts (cond (around_any (set_in set) [] outer path t.found refl i) (node_any (set_in set) [] outer path t.found refl i ⨾ no_nodes) no_nodes))
    ∙ ap texts (sym (part_at (set_in set) document path t.found e t.is))

pub at_document : (set : NodeSet) (document : Nodes) → [] ≡ set.apex → top_text set document ≡ texts (part set document)
at_document set document e = ap (λ apex. texts (part_from (has_in set) apex document)) e

-- Taking one text after another.

pub taken_further : {S : Type 0} (take : S → List ℕ → S) (before now start : S) (here text rest : List ℕ) → ((s : S) (xs ys : List ℕ) → take s (xs ++ ys) ≡ take (take s xs) ys)
    → now ≡ take before text → here ≡ text ++ rest → take before here ≡ start → take now rest ≡ start
taken_further take before now start here text rest joined n h e =
    ap (λ s. take s rest) n ∙ sym (joined before text rest) ∙ ap (take before) (sym h) ∙ e
