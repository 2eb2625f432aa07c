-- The scope of a node is that of the element around it, with its own tag.
use Rattle.std.proofs.Common.{◌≡◌, ℕ, List, [], ◌∷◌, Option, Some, None, refl, ◌∙◌, ap}
use Rattle.std.proofs.lemmas.Option.{none-some, same_Some}
use Rattle.std.specs.Prelude.{option_and_then}
use Rattle.std.specs.Option.{option_map_or}
use Rattle.document_model.specs.Tree.{Node, Nodes, Path, nth, below, descend, node_at}
use Rattle.document_model.specs.Scopes.{Tag, with_tag_of, elements_down, elements_around, tags_down, tags_at}
use Rattle.doc_spans.specs.Shown.{outer_path}

tags_with : (path : Path) (node m : Node) (outer : List Tag) → descend path node ≡ Some m → tags_down path node outer ≡ with_tag_of m (elements_down path node outer)
tags_with [] node m outer e = ap (λ n. with_tag_of n outer) (same_Some node m e)
tags_with (k ∷ path) node m outer e = by_child (λ child f. tags_with path child m (with_tag_of node outer) f) (nth k (below node)) e
  where
    by_child : ((child : Node) → descend path child ≡ Some m → tags_down path child (with_tag_of node outer) ≡ with_tag_of m (elements_down path child (with_tag_of node outer)))
        → (o : Option Node) → option_and_then (descend path) o ≡ Some m
        → option_map_or (λ child. tags_down path child (with_tag_of node outer)) o [] ≡ with_tag_of m (option_map_or (λ child. elements_down path child (with_tag_of node outer)) o outer)
    by_child further None e = absurd (none-some m e)
    by_child further (Some child) e = further child e

pub own_tag : (document : Nodes) (path : Path) (node : Node) → node_at document path ≡ Some node → tags_at document path ≡ with_tag_of node (elements_around document path)
own_tag document [] node e = absurd (none-some node e)
own_tag document (k ∷ path) node e = by_first (nth k document) e
  where
    by_first : (o : Option Node) → option_and_then (descend path) o ≡ Some node
        → option_map_or (λ child. tags_down path child []) o [] ≡ with_tag_of node (option_map_or (λ child. elements_down path child []) o [])
    by_first None e = absurd (none-some node e)
    by_first (Some first) e = tags_with path first node [] e

around_down : (k : ℕ) (path : Path) (node m : Node) (outer : List Tag) → descend (k ∷ path) node ≡ Some m → elements_down (k ∷ path) node outer ≡ tags_down (outer_path (k ∷ path)) node outer
around_down k [] node m outer e = by_child (nth k (below node)) e
  where
    by_child : (o : Option Node) → option_and_then (descend []) o ≡ Some m → option_map_or (λ child. elements_down [] child (with_tag_of node outer)) o outer ≡ with_tag_of node outer
    by_child None e = absurd (none-some m e)
    by_child (Some child) e = refl
around_down k (j ∷ path) node m outer e = by_child (λ child f. around_down j path child m (with_tag_of node outer) f) (nth k (below node)) e
  where
    by_child : ((child : Node) → descend (j ∷ path) child ≡ Some m → elements_down (j ∷ path) child (with_tag_of node outer) ≡ tags_down (outer_path (j ∷ path)) child (with_tag_of node outer))
        → (o : Option Node) → option_and_then (descend (j ∷ path)) o ≡ Some m
        → option_map_or (λ child. elements_down (j ∷ path) child (with_tag_of node outer)) o outer ≡ option_map_or (λ child. tags_down (outer_path (j ∷ path)) child (with_tag_of node outer)) o []
    by_child further None e = absurd (none-some m e)
    by_child further (Some child) e = further child e

pub tags_around : (document : Nodes) (path : Path) (node : Node) → node_at document path ≡ Some node → elements_around document path ≡ tags_at document (outer_path path)
tags_around document [] node e = absurd (none-some node e)
tags_around document (k ∷ []) node e = by_first (nth k document)
  where
    by_first : (o : Option Node) → option_map_or (λ child. elements_down [] child []) o [] ≡ []
    by_first None = refl
    by_first (Some first) = refl
tags_around document (k ∷ j ∷ path) node e = by_first (nth k document) e
  where
    by_first : (o : Option Node) → option_and_then (descend (j ∷ path)) o ≡ Some node
        → option_map_or (λ child. elements_down (j ∷ path) child []) o [] ≡ option_map_or (λ child. tags_down (outer_path (j ∷ path)) child []) o []
    by_first None e = absurd (none-some node e)
    by_first (Some first) e = around_down j path first node [] e

pub outward_tags : (document : Nodes) (path : Path) (node : Node) → node_at document path ≡ Some node → tags_at document path ≡ with_tag_of node (tags_at document (outer_path path))
outward_tags document path node e = own_tag document path node e ∙ ap (with_tag_of node) (tags_around document path node e)
