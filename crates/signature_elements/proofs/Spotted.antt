-- The elements below an element are those among its children.
use Rattle.std.proofs.Common.{◌≡◌, ℕ, zero, suc, ◌-◌, Bool, true, false, List, [], ◌∷◌, ◌++◌, Option, Some, None, refl, sym, ◌∙◌, ap, arith, cond, is_some, subst, length, ◌<◌}
use Rattle.std.specs.Prelude.{map, filter, option_map}
use Rattle.std.specs.Iterator.{YieldsFirstBy}
use Rattle.std.specs.List.{All}
use Rattle.std.specs.Option.{option_map_or}
use Rattle.document_model.specs.Places.{Place}
use Rattle.doc_spans.specs.declared.child_nodes.Children.{Children}
use Rattle.doc_spans.specs.Rest.{rest}
use Rattle.document_model.specs.Tree.{Node, Nodes, Path, Element, Text, Comment, Instruction, no_nodes, ◌⨾◌, nth, node_at, below, count}
use Rattle.document_model.specs.Scopes.{with_tag_of, tags_at}
use Rattle.doc_spans.specs.declared.documents.Doc.{Doc}
use Rattle.doc_spans.specs.declared.documents.NodeId.{NodeId}
use Rattle.doc_spans.specs.Below.{paths_below, nodes_from}
use Rattle.doc_spans.specs.Seen.{Has, NameBelow, document_in, path_in, node_in, nodes_at, shown_in}
use Rattle.doc_spans.specs.Shown.{path_at, kind_of}
use Rattle.doc_spans.proofs.Calls.{node_there}
use Rattle.doc_spans.proofs.ChildNodes.{child_at}
use Rattle.doc_spans.proofs.ChildSteps.{nodes_of_node}
use Rattle.doc_spans.proofs.Outward.{outward_tags}
use Rattle.doc_spans.proofs.Shows.{outer_more}
use Rattle.signature_model.specs.Spots.{Spot, elements_from, elements_in, emptied_all, held_in, held_at}
use Rattle.signature_elements.specs.Standing.{spot_of, spot_at, spots_at, is_element, is_element_at, IsElement}
use Rattle.doc_spans.specs.declared.rows.Kind.{Kind}
use Rattle.doc_spans.specs.declared.rows.Kind.TheVariants as kinds

-- One of the children of a path.

pub nth_from : (i : ℕ) (all nodes : Nodes) (node : Node) → nodes_from i all ≡ node ⨾ nodes → nth i all ≡ Some node
nth_from zero all nodes node e = ap (nth 0) e
nth_from (suc i) no_nodes nodes node e = ap (nth 0) e
nth_from (suc i) (first ⨾ all) nodes node e = nth_from i all nodes node e

pub others_from : (i : ℕ) (all nodes : Nodes) (node : Node) → nodes_from i all ≡ node ⨾ nodes → nodes_from (suc i) all ≡ nodes
others_from zero no_nodes nodes node e = ap (nodes_from 1) e
others_from zero (first ⨾ all) nodes node e = ap (nodes_from 1) e
others_from (suc i) no_nodes nodes node e = ap (nodes_from 1) e
others_from (suc i) (first ⨾ all) nodes node e = others_from i all nodes node e

-- its scope is that of the element around it, with its own tag
pub record ChildAt (document : Nodes) (path : Path) (i : ℕ) (node : Node) : Type 0 where
  pub is : node_at document (path ++ i ∷ []) ≡ Some node
  pub scope : tags_at document (path ++ i ∷ []) ≡ with_tag_of node (tags_at document path)

pub child_stands : (document : Nodes) (path : Path) (i : ℕ) (node : Node) → nth i (nodes_at document path) ≡ Some node → ChildAt document path i node
child_stands document path i node e =
    let here : node_at document (path ++ i ∷ []) ≡ Some node = child_at document path i ∙ e in
    record { is = here; scope = outward_tags document (path ++ i ∷ []) node here ∙ ap (λ p. with_tag_of node (tags_at document p)) (outer_more path i) }

-- Elements among paths.

pub passed : (document : Nodes) (path : Path) (paths : List Path) (b : Bool) → is_element_at document path ≡ b
    → spots_at document (path ∷ paths) ≡ cond b (spot_at document path ∷ spots_at document paths) (spots_at document paths)
passed document path paths b e = ap (λ x. map (spot_at document) (cond x (path ∷ filter (is_element_at document) paths) (filter (is_element_at document) paths))) e ∙ by_test b
  where
    by_test : (b : Bool) → map (spot_at document) (cond b (path ∷ filter (is_element_at document) paths) (filter (is_element_at document) paths))
        ≡ cond b (spot_at document path ∷ spots_at document paths) (spots_at document paths)
    by_test true = refl
    by_test false = refl

children_spots : (document : Nodes) (path : Path) (i : ℕ) (nodes : Nodes) → nodes_from i (nodes_at document path) ≡ nodes
    → spots_at document (paths_below path i (count nodes)) ≡ elements_from path (tags_at document path) i (emptied_all nodes)
children_spots document path i no_nodes e = refl
children_spots document path i (Element name attributes inner ⨾ nodes) e =
    let c = child_stands document path i (Element name attributes inner) (nth_from i (nodes_at document path) nodes (Element name attributes inner) e) in
    let others = children_spots document path (suc i) nodes (others_from i (nodes_at document path) nodes (Element name attributes inner) e) in
    passed document (path ++ i ∷ []) (paths_below path (suc i) (count nodes)) true (ap (λ o. option_map_or is_element o false) c.is)
    ∙ (λ k. record { path = path ++ i ∷ []; tags = c.scope k } ∷ others k)
children_spots document path i (Text cs ⨾ nodes) e =
    let c = child_stands document path i (Text cs) (nth_from i (nodes_at document path) nodes (Text cs) e) in
    passed document (path ++ i ∷ []) (paths_below path (suc i) (count nodes)) false (ap (λ o. option_map_or is_element o false) c.is)
    ∙ children_spots document path (suc i) nodes (others_from i (nodes_at document path) nodes (Text cs) e)
children_spots document path i (Comment cs ⨾ nodes) e =
    let c = child_stands document path i (Comment cs) (nth_from i (nodes_at document path) nodes (Comment cs) e) in
    passed document (path ++ i ∷ []) (paths_below path (suc i) (count nodes)) false (ap (λ o. option_map_or is_element o false) c.is)
    ∙ children_spots document path (suc i) nodes (others_from i (nodes_at document path) nodes (Comment cs) e)
children_spots document path i (Instruction target content ⨾ nodes) e =
    let c = child_stands document path i (Instruction target content) (nth_from i (nodes_at document path) nodes (Instruction target content) e) in
    passed document (path ++ i ∷ []) (paths_below path (suc i) (count nodes)) false (ap (λ o. option_map_or is_element o false) c.is)
    ∙ children_spots document path (suc i) nodes (others_from i (nodes_at document path) nodes (Instruction target content) e)

-- a node of a document
pub record Found (doc : Doc) (node : NodeId) : Type 0 where
  pub found : Node
  pub is : node_in doc node ≡ Some found

pub found_at : (doc : Doc) (node : NodeId) → Has doc node → Found doc node
found_at doc node h = by_option (node_in doc node) refl (node_there doc node h)
  where
    by_option : (o : Option Node) → node_in doc node ≡ o → is_some o ≡ true → Found doc node
    by_option None e f = cc
    by_option (Some n) e f = record { found = n; is = e }

-- what it holds
pub held_is : (doc : Doc) (node : NodeId) → Has doc node → emptied_all (nodes_at (document_in doc) (path_in doc node)) ≡ held_at (document_in doc) (path_in doc node)
held_is doc node h =
    let f = found_at doc node h in
    ap emptied_all (nodes_of_node (document_in doc) (path_in doc node) f.found f.is) ∙ sym (ap held_in f.is)

pub all_children : (doc : Doc) (node : NodeId) (numbers : List ℕ) → Has doc node → NameBelow doc (path_in doc node) 0 numbers
    → spots_at (document_in doc) (map (path_at (shown_in doc)) numbers) ≡ elements_in (document_in doc) (spot_of doc node)
all_children doc node numbers h below =
    let document = document_in doc in
    let path = path_in doc node in
    let n : count (nodes_at document path) - 0 ≡ count (nodes_at document path) = omega arith in
    ap (spots_at document) (below.paths ∙ ap (paths_below path 0) n)
    ∙ children_spots document path 0 (nodes_at document path) refl
    ∙ ap (elements_from path (tags_at document path) 0) (held_is doc node h)

-- By kinds.

abbrev pub is_element_kind : Kind → Bool
is_element_kind kinds.Element = true
is_element_kind kinds.Text = false
is_element_kind kinds.Comment = false
is_element_kind kinds.Pi = false

by_kind : (found : Option Node) → option_map_or is_element found false ≡ option_map_or is_element_kind (option_map kind_of found) false
by_kind None = refl
by_kind (Some (Element name attributes nodes)) = refl
by_kind (Some (Text cs)) = refl
by_kind (Some (Comment cs)) = refl
by_kind (Some (Instruction target content)) = refl

pub kind_tells : (doc : Doc) (node : NodeId) (kind : Kind) → option_map kind_of (node_in doc node) ≡ Some kind → is_element_at (document_in doc) (path_in doc node) ≡ is_element_kind kind
kind_tells doc node kind e = by_kind (node_in doc node) ∙ ap (λ o. option_map_or is_element_kind o false) e

pub no_element_kind : (kind : Kind) → (kind ≡ kinds.Element → ⊥) → is_element_kind kind ≡ false
no_element_kind kinds.Element h = absurd (h refl)
no_element_kind kinds.Text h = refl
no_element_kind kinds.Comment h = refl
no_element_kind kinds.Pi h = refl

-- the spots that numbers name
abbrev pub spots_of : Doc → List ℕ → List Spot
spots_of doc numbers = spots_at (document_in doc) (map (path_at (shown_in doc)) numbers)

pub element_passed : (doc : Doc) (node : NodeId) (numbers behind : List ℕ) → numbers ≡ node.0 ∷ behind → IsElement doc node → spots_of doc numbers ≡ spot_of doc node ∷ spots_of doc behind
element_passed doc node numbers behind e h =
    ap (spots_of doc) e ∙ passed (document_in doc) (path_in doc node) (map (path_at (shown_in doc)) behind) true (kind_tells doc node kinds.Element h)

pub other_passed : (doc : Doc) (node : NodeId) (kind : Kind) (numbers behind : List ℕ) → numbers ≡ node.0 ∷ behind → option_map kind_of (node_in doc node) ≡ Some kind → (kind ≡ kinds.Element → ⊥)
    → spots_of doc numbers ≡ spots_of doc behind
other_passed doc node kind numbers behind e k h =
    ap (spots_of doc) e ∙ passed (document_in doc) (path_in doc node) (map (path_at (shown_in doc)) behind) false (kind_tells doc node kind k ∙ no_element_kind kind h)

-- An iterator of children that goes on.

pub within_rest : (places : List Place) (before now : Children) (result : Option NodeId) → YieldsFirstBy (λ x. x.0) rest before result now
    → All (λ k. k < length places) (rest before) → All (λ k. k < length places) (rest now)
within_rest places before now None e h = let P : List ℕ → Type 0 = All (λ k. k < length places) in subst P (e.0 ∙ sym e.1) h
within_rest places before now (Some node) e h = λ k d lt.
    let P : List ℕ → Type 0 = All (λ k. k < length places) in
    subst P e h (suc k) d (omega (arith, lt))

pub within_first : (places : List Place) (before now : Children) (node : NodeId) → rest before ≡ node.0 ∷ rest now → All (λ k. k < length places) (rest before) → node.0 < length places
within_first places before now node e h = let P : List ℕ → Type 0 = All (λ k. k < length places) in subst P e h 0 0 (omega arith)
