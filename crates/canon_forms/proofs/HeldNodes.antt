-- Which nodes a set holds that leaves no signatures out.
use Rattle.std.proofs.Common.{◌≡◌, ℕ, suc, Bool, true, false, not, cond, ◌&&◌, ◌||◌, List, [], ◌∷◌, ◌++◌, Option, Some, None, refl, sym, ◌∙◌, ap}
use Rattle.std.specs.Cmp.Lexicographic.{same_text}
use Rattle.std.specs.Str.{bytes_eq}
use Rattle.document_model.specs.Characters.{◌is◌}
use Rattle.document_model.specs.Tree.{Node, Nodes, Path, Element, Text, Comment, Instruction, no_nodes, ◌⨾◌}
use Rattle.document_model.specs.Scopes.{Tag, with_tag_of}
use Rattle.document_model.specs.NodeSets.{NodeSet, is_within, is_removed, is_comment, is_in_signature, has_in, kept, kept_node}
use Rattle.doc_spans.specs.Shown.{outer_path}
use Rattle.doc_spans.proofs.Within.{within_same, within_outer}
use Rattle.node_sets.specs.Sets.{is_top}
use Rattle.canon_forms.specs.Writing.{IsReached}

-- The elements around a node don't matter.

or_any : (b c d : Bool) → b ≡ true → (b || c) ≡ (b || d)
or_any true c d e = refl
or_any false c d e = cc

pub around_any : (set : NodeSet) (outer other : List Tag) (path : Path) (node : Node) → set.signatures ≡ true → has_in set outer path node ≡ has_in set other path node
around_any set outer other path node e =
    ap (λ b. is_within set.apex path && not (is_removed set.removed path) && b && (set.comments || not (is_comment node)))
    (or_any set.signatures (not (is_in_signature (with_tag_of node outer))) (not (is_in_signature (with_tag_of node other))) e)

mutual
  pub kept_any : (set : NodeSet) (outer other : List Tag) (path : Path) (k : ℕ) (nodes : Nodes) → set.signatures ≡ true → kept (has_in set) outer path k nodes ≡ kept (has_in set) other path k nodes
  kept_any set outer other path k no_nodes e = refl
  kept_any set outer other path k (node ⨾ nodes) e =
      (λ i. cond (around_any set outer other (path ++ k ∷ []) node e i) (node_any set outer other (path ++ k ∷ []) node e i ⨾ kept_any set outer other path (suc k) nodes e i) (kept_any set outer other path (suc k) nodes e i))

  pub node_any : (set : NodeSet) (outer other : List Tag) (path : Path) (node : Node) → set.signatures ≡ true → kept_node (has_in set) outer path node ≡ kept_node (has_in set) other path node
  node_any set outer other path (Element name attributes nodes) e =
      ap (Element name attributes) (kept_any set (record { name = name; attributes = attributes } ∷ outer) (record { name = name; attributes = attributes } ∷ other) path 0 nodes e)
  node_any set outer other path (Text cs) e = refl
  node_any set outer other path (Comment cs) e = refl
  node_any set outer other path (Instruction target content) e = refl

-- A node of the set stands at a place that the set reaches.

reached_by : (a b c d : Bool) → (a && not b && c && d) ≡ true → (a ≡ true) × (b ≡ false)
reached_by true true c d e = cc
reached_by true false c d e = (refl, refl)
reached_by false b c d e = cc

pub held_is_reached : (set : NodeSet) (outer : List Tag) (path : Path) (node : Node) → has_in set outer path node ≡ true → IsReached set path
held_is_reached set outer path node e =
    let both = reached_by (is_within set.apex path) (is_removed set.removed path) (set.signatures || not (is_in_signature (with_tag_of node outer))) (set.comments || not (is_comment node)) e in
    record { within = both.0; left = both.1 }

-- One step down from a place that is reached.

within_by : (apex path : Path) (b : Bool) → bytes_eq apex path ≡ b → is_within apex (outer_path path) ≡ true → is_within apex path ≡ true
within_by apex path true e h = within_same apex path (same_text apex path (sym e))
within_by apex path false e h = within_outer apex path e ∙ h

removed_by : (top path : Path) (b : Bool) → bytes_eq top path ≡ b → is_within top (outer_path path) ≡ false → is_within top path ≡ (top is path)
removed_by top path true e h = within_same top path (same_text top path (sym e)) ∙ sym e
removed_by top path false e h = within_outer top path e ∙ h ∙ sym e

removed_here : (removed : Option Path) (path : Path) → is_removed removed (outer_path path) ≡ false → is_removed removed path ≡ is_top removed path
removed_here None path h = refl
removed_here (Some top) path h = removed_by top path (bytes_eq top path) refl h

and_true : (b c : Bool) → (b && true && c) ≡ (b && c)
and_true true c = refl
and_true false c = refl

pub has_below : (set : NodeSet) (path : Path) (node : Node) → set.signatures ≡ true → IsReached set (outer_path path)
    → has_in set [] path node ≡ (not (is_top set.removed path) && (set.comments || not (is_comment node)))
has_below set path node s h =
    (λ i. within_by set.apex path (bytes_eq set.apex path) refl h.within i && not (removed_here set.removed path h.left i) && (s i || not (is_in_signature (with_tag_of node []))) && (set.comments || not (is_comment node)))
    ∙ and_true (not (is_top set.removed path)) (set.comments || not (is_comment node))
