-- A node stays at its path where a tree grows.
use Rattle.std.proofs.Common.{◌≡◌, ℕ, zero, suc, List, [], ◌∷◌, ◌++◌, Option, Some, refl, sym, ◌∙◌, ap}
use Rattle.std.proofs.lemmas.Option.{none-some, same_Some}
use Rattle.std.specs.Prelude.{option_map, option_and_then}
use Rattle.document_model.specs.Tree.{Node, Nodes, Path, Element, Text, Comment, Instruction, no_nodes, ◌⨾◌, nth, below, descend, node_at, joined, in_nodes_of, in_last, grown}

-- what a node's first item says of it, and of a text nothing
abbrev pub head : Node → Node
head (Element name attributes nodes) = Element name attributes no_nodes
head (Text cs) = Text []
head (Comment cs) = Comment cs
head (Instruction target content) = Instruction target content

-- the path names such a node in both
abbrev pub Stays : Nodes → Nodes → Path → Type 0
Stays old new path = (node : Node) → node_at old path ≡ Some node → option_map head (node_at new path) ≡ Some (head node)

abbrev Reached : Path → Option Node → Node → Type 0
Reached path found node = option_and_then (descend path) found ≡ Some node

abbrev SameHead : Path → Option Node → Node → Type 0
SameHead path found node = option_map head (option_and_then (descend path) found) ≡ Some (head node)

kept : (path : Path) (found node : Node) → Reached path (Some found) node → SameHead path (Some found) node
kept path found node e = ap (option_map head) e

no_child : (path : Path) (node m : Node) (k : ℕ) → below node ≡ no_nodes → descend (k ∷ path) node ≡ Some m → ⊥
no_child path node m k e h = none-some m (sym (ap (λ ns. option_and_then (descend path) (nth k ns)) e) ∙ h)

text_goes_on : (path : Path) (cs ds : List ℕ) (node : Node) → Reached path (Some (Text cs)) node → SameHead path (Some (Text ds)) node
text_goes_on [] cs ds node e = ap (λ n. Some (head n)) (same_Some (Text cs) node e)
text_goes_on (k ∷ path) cs ds node e = absurd (no_child path (Text cs) node k refl e)

stays_joined : (nodes x : Nodes) (k : ℕ) (path : Path) (node : Node) → Reached path (nth k nodes) node → SameHead path (nth k (joined nodes x)) node
stays_joined no_nodes x k path node e = absurd (none-some node e)
stays_joined (Element name attributes inner ⨾ nodes) x zero path node e = kept path (Element name attributes inner) node e
stays_joined (Element name attributes inner ⨾ nodes) x (suc k) path node e = stays_joined nodes x k path node e
stays_joined (Comment cs ⨾ nodes) x zero path node e = kept path (Comment cs) node e
stays_joined (Comment cs ⨾ nodes) x (suc k) path node e = stays_joined nodes x k path node e
stays_joined (Instruction target content ⨾ nodes) x zero path node e = kept path (Instruction target content) node e
stays_joined (Instruction target content ⨾ nodes) x (suc k) path node e = stays_joined nodes x k path node e
stays_joined (Text cs ⨾ next ⨾ nodes) x zero path node e = kept path (Text cs) node e
stays_joined (Text cs ⨾ next ⨾ nodes) x (suc k) path node e = stays_joined (next ⨾ nodes) x k path node e
stays_joined (Text cs ⨾ no_nodes) x (suc k) path node e = absurd (none-some node e)
stays_joined (Text cs ⨾ no_nodes) no_nodes zero path node e = kept path (Text cs) node e
stays_joined (Text cs ⨾ no_nodes) (Text ds ⨾ x) zero path node e = text_goes_on path cs (cs ++ ds) node e
stays_joined (Text cs ⨾ no_nodes) (Element name attributes inner ⨾ x) zero path node e = kept path (Text cs) node e
stays_joined (Text cs ⨾ no_nodes) (Comment ds ⨾ x) zero path node e = kept path (Text cs) node e
stays_joined (Text cs ⨾ no_nodes) (Instruction target content ⨾ x) zero path node e = kept path (Text cs) node e

-- an element in which nodes stay
stays_in : (f : Nodes → Nodes) → ((inner : Nodes) (path : Path) → Stays inner (f inner) path) → (path : Path) (node m : Node)
    → Reached path (Some node) m → SameHead path (Some (in_nodes_of f node)) m
stays_in f same [] (Element name attributes inner) m e = ap (λ n. Some (head n)) (same_Some (Element name attributes inner) m e)
stays_in f same (k ∷ path) (Element name attributes inner) m e = same inner (k ∷ path) m e
stays_in f same path (Text cs) m e = kept path (Text cs) m e
stays_in f same path (Comment cs) m e = kept path (Comment cs) m e
stays_in f same path (Instruction target content) m e = kept path (Instruction target content) m e

stays_in_last : (f : Nodes → Nodes) → ((inner : Nodes) (path : Path) → Stays inner (f inner) path) → (nodes : Nodes) (k : ℕ) (path : Path) (m : Node)
    → Reached path (nth k nodes) m → SameHead path (nth k (in_last (in_nodes_of f) nodes)) m
stays_in_last f same no_nodes k path m e = absurd (none-some m e)
stays_in_last f same (node ⨾ no_nodes) zero path m e = stays_in f same path node m e
stays_in_last f same (node ⨾ no_nodes) (suc k) path m e = absurd (none-some m e)
stays_in_last f same (node ⨾ next ⨾ nodes) zero path m e = kept path node m e
stays_in_last f same (node ⨾ next ⨾ nodes) (suc k) path m e = stays_in_last f same (next ⨾ nodes) k path m e

pub stays : (d : ℕ) (x nodes : Nodes) (path : Path) → Stays nodes (grown d x nodes) path
stays d x nodes [] node e = absurd (none-some node e)
stays zero x nodes (k ∷ path) node e = stays_joined nodes x k path node e
stays (suc d) x nodes (k ∷ path) node e = stays_in_last (grown d x) (λ inner path. stays d x inner path) nodes k path node e
