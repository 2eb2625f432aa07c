-- Identifiers stay where content without any is put in.
use Rattle.std.proofs.Common.{◌≡◌, ℕ, zero, suc, List, [], ◌∷◌, ◌++◌, refl, ap}
use Rattle.std.proofs.lemmas.Option.{none-some}
use Rattle.document_model.specs.Tree.{Node, Nodes, Path, Element, Text, Comment, Instruction, no_nodes, ◌⨾◌, joined, in_nth, with_last}
use Rattle.document_model.specs.NodeSets.{identified, identified_in, once_each, target_among}
use Rattle.document_model.specs.Insertion.{HasNoIdentifiers, KeepsTargets}

in_joined : (value : List ℕ) (path : Path) (a b : Nodes) (k : ℕ) → ((j : ℕ) → identified value path j b ≡ []) → identified value path k (joined a b) ≡ identified value path k a
in_joined value path no_nodes b k h = h k
in_joined value path (Element name attributes inner ⨾ a) b k h =
    ap (λ r. identified_in value (path ++ k ∷ []) (Element name attributes inner) ++ r) (in_joined value path a b (suc k) h)
in_joined value path (Comment cs ⨾ a) b k h = in_joined value path a b (suc k) h
in_joined value path (Instruction target content ⨾ a) b k h = in_joined value path a b (suc k) h
in_joined value path (Text cs ⨾ next ⨾ a) b k h = in_joined value path (next ⨾ a) b (suc k) h
in_joined value path (Text cs ⨾ no_nodes) no_nodes k h = refl
in_joined value path (Text cs ⨾ no_nodes) (Text ds ⨾ b) k h = h k
in_joined value path (Text cs ⨾ no_nodes) (Element name attributes inner ⨾ b) k h = h (suc k)
in_joined value path (Text cs ⨾ no_nodes) (Comment ds ⨾ b) k h = h (suc k)
in_joined value path (Text cs ⨾ no_nodes) (Instruction target content ⨾ b) k h = h (suc k)

in_changed : (value : List ℕ) (change : Node → Node) → ((path : Path) (node : Node) → identified_in value path (change node) ≡ identified_in value path node)
    → (path : Path) (nodes : Nodes) (k i : ℕ) → identified value path i (in_nth k change nodes) ≡ identified value path i nodes
in_changed value change same path no_nodes k i = refl
in_changed value change same path (node ⨾ nodes) zero i = ap (λ r. r ++ identified value path (suc i) nodes) (same (path ++ i ∷ []) node)
in_changed value change same path (node ⨾ nodes) (suc k) i =
    ap (λ r. identified_in value (path ++ i ∷ []) node ++ r) (in_changed value change same path nodes k (suc i))

in_node : (value : List ℕ) (added : Nodes) → HasNoIdentifiers added → (host path : Path) (node : Node) → identified_in value path (with_last added host node) ≡ identified_in value path node
in_node value added h [] path (Element name attributes inner) = ap (λ r. once_each value path attributes ++ r) (in_joined value path inner added 0 (h value path))
in_node value added h [] path (Text cs) = refl
in_node value added h [] path (Comment cs) = refl
in_node value added h [] path (Instruction target content) = refl
in_node value added h (k ∷ host) path (Element name attributes inner) =
    ap (λ r. once_each value path attributes ++ r) (in_changed value (with_last added host) (in_node value added h host) path inner k 0)
in_node value added h (k ∷ host) path (Text cs) = refl
in_node value added h (k ∷ host) path (Comment cs) = refl
in_node value added h (k ∷ host) path (Instruction target content) = refl

pub keeps_targets : KeepsTargets
keeps_targets document added [] value e h = absurd (none-some _ e.1)
keeps_targets document added (k ∷ host) value e h = ap target_among (in_changed value (with_last added host) (in_node value added h host) [] document k 0)
