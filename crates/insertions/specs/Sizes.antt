-- The size of a tree with content in it.
use Rattle.std.specs.Prelude.{◌≡◌, ℕ, ◌+◌, ◌≤◌, Bool, true, false, ◌&&◌, if◌then◌else◌, Some, length, max}
use Rattle.document_model.specs.Tree.{Node, Nodes, Path, Text, no_nodes, ◌⨾◌, below, node_at, IsElement, put_last}
use Rattle.document_model.specs.Sizes.{height, count_all}
use Rattle.document_model.specs.Documents.{limits}

-- within the limits
abbrev pub IsSmall : Nodes → Type 0
IsSmall tree = (height tree ≤ limits.depth) × (count_all tree ≤ limits.nodes)

abbrev pub ends_in_text : Nodes → Bool
ends_in_text no_nodes = false
ends_in_text (Text cs ⨾ no_nodes) = true
ends_in_text (node ⨾ nodes) = ends_in_text nodes

abbrev pub begins_in_text : Nodes → Bool
begins_in_text no_nodes = false
begins_in_text (Text cs ⨾ nodes) = true
begins_in_text (node ⨾ nodes) = false

-- how many texts of two join where nodes stand behind others
abbrev pub joins : Nodes → Nodes → ℕ
joins nodes added = if ends_in_text nodes && begins_in_text added then 1 else 0

-- The law: what content adds to the size of a tree.
abbrev pub SizesAdd : Type 0
SizesAdd = (document added : Nodes) (host : Path) (node : Node) → node_at document host ≡ Some node → IsElement node
    → (height (put_last added host document) ≡ max (height document) (length host + height added))
    × (count_all (put_last added host document) + joins (below node) added ≡ count_all document + count_all added)
