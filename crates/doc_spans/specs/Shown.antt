-- What a tree shows: its nodes' places and kinds, one for each number.
use Rattle.std.specs.Prelude.{◌≡◌, ℕ, suc, Bool, false, true, cond, ◌&&◌, ◌==◌, List, [], ◌∷◌, map, drop, Some, slice_get, option_map, IsTrue}
use Rattle.document_model.specs.Tree.{Node, Path, node_at}
use Rattle.document_model.specs.Tree as tree
use Rattle.document_model.specs.Documents.{document_of}
use Rattle.document_model.specs.Places.{Place, IsTreeOf}
use Rattle.doc_spans.specs.declared.rows.Row.{Row}
use Rattle.doc_spans.specs.declared.rows.Kind.{Kind}
use Rattle.doc_spans.specs.declared.rows.Kind.TheVariants.{Element, Text, Comment, Pi}
use Rattle.std.specs.Option.{option_map_or}
use Rattle.doc_spans.specs.View.{under, places_of_rows, kinds_of_rows, place_of_row}

pub record Shown : Type 0 where
  pub places : List Place
  pub kinds : List Kind

abbrev pub shown_of : List Row → Shown
shown_of rows = record { places = places_of_rows rows; kinds = kinds_of_rows rows }

abbrev pub kind_of : Node → Kind
kind_of (tree.Element name attributes nodes) = Element
kind_of (tree.Text cs) = Text
kind_of (tree.Comment cs) = Comment
kind_of (tree.Instruction target content) = Pi

-- the tree is that of these bytes, and tells the kinds of their nodes
pub record IsShownOf (shown : Shown) (bytes : List ℕ) : Type 0 where
  pub tree : IsTreeOf shown.places bytes
  pub kinds : (k : ℕ) (place : Place) (kind : Kind) → slice_get shown.places k ≡ Some place → slice_get shown.kinds k ≡ Some kind
      → option_map kind_of (node_at (document_of bytes) place.path) ≡ Some kind

-- the path of a number
abbrev pub path_at : Shown → ℕ → Path
path_at shown k = under (map (λ place. place.path) shown.places) k

-- a path without its last number
abbrev pub outer_path : Path → Path
outer_path [] = []
outer_path (k ∷ []) = []
outer_path (k ∷ j ∷ path) = k ∷ outer_path (j ∷ path)

-- whether the second path is that of a child of the first
abbrev pub is_child : Path → Path → Bool
is_child [] [] = false
is_child [] (k ∷ []) = true
is_child [] (k ∷ j ∷ path) = false
is_child (k ∷ outer) [] = false
is_child (k ∷ outer) (j ∷ path) = (k == j) && is_child outer path

-- the numbers of the children of a path, where the list begins with number k
abbrev pub children_from : Path → ℕ → List Place → List ℕ
children_from outer k [] = []
children_from outer k (place ∷ places) =
    cond (is_child outer place.path) (k ∷ children_from outer (suc k) places) (children_from outer (suc k) places)

abbrev pub children_of : Shown → Path → List ℕ
children_of shown outer = children_from outer 0 shown.places

-- the numbers of the children of a path from a number on
abbrev pub later_children : Shown → Path → ℕ → List ℕ
later_children shown outer k = children_from outer k (drop k shown.places)

-- a number that is no child's is behind all
abbrev pub IsChild : Shown → Path → ℕ → Type 0
IsChild shown outer k = IsTrue (option_map_or (λ place. is_child outer place.path) (slice_get shown.places k) true)

-- a row is that of a number
pub record ShowsRow (shown : Shown) (k : ℕ) (row : Row) : Type 0 where
  pub place : slice_get shown.places k ≡ Some (place_of_row (path_at shown k) row)
  pub kind : slice_get shown.kinds k ≡ Some row.kind
  pub parent : path_at shown row.parent ≡ outer_path (path_at shown k)
  pub next : (outer : Path) → IsChild shown outer k → (later_children shown outer k ≡ k ∷ later_children shown outer row.next) × IsChild shown outer row.next
