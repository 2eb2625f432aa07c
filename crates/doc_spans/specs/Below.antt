-- Paths of children.
use Rattle.std.specs.Prelude.{ℕ, zero, suc, List, [], ◌∷◌, ◌++◌}
use Rattle.document_model.specs.Tree.{Nodes, Path, no_nodes, ◌⨾◌}

-- the paths of so many children, from the i-th on
abbrev pub paths_below : Path → ℕ → ℕ → List Path
paths_below outer i zero = []
paths_below outer i (suc n) = (outer ++ i ∷ []) ∷ paths_below outer (suc i) n

-- nodes from the i-th on
abbrev pub nodes_from : ℕ → Nodes → Nodes
nodes_from zero nodes = nodes
nodes_from (suc i) no_nodes = no_nodes
nodes_from (suc i) (node ⨾ nodes) = nodes_from i nodes
