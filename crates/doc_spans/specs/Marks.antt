-- The nodes that pieces begin, told from the first piece on.
use Rattle.std.specs.Prelude.{◌≡◌, ℕ, ◌+◌, ◌<◌, ◌&&◌, ◌==◌, if◌then◌else◌, List, [], ◌∷◌, ◌++◌, length, map}
use Rattle.document_model.specs.Items.{Item, Piece, declaration, start_tag, empty_tag, end_tag, character, reference, cdata, comment, instruction}
use Rattle.document_model.specs.Tree.{Path, depth, tree_after, last_path}
use Rattle.document_model.specs.NodeSets.{is_within}
use Rattle.document_model.specs.Places.{Place, path_of, begins_node}
use Rattle.doc_spans.specs.declared.rows.Kind.{Kind}
use Rattle.doc_spans.specs.declared.rows.Kind.TheVariants.{Element, Text, Comment, Pi}
use Rattle.doc_spans.specs.declared.rows.Shape.{Shape}
use Rattle.doc_spans.specs.declared.rows.Shape.TheVariants.{Nothing, Start, Whole, End, Characters, EmptySection}

-- how many bytes pieces have, the last one first, and what they say
abbrev pub size : List Piece → ℕ
size [] = 0
size (piece ∷ before) = size before + length piece.text

abbrev pub items_of : List Piece → List Item
items_of [] = []
items_of (piece ∷ before) = piece.item ∷ items_of before

-- a place that ends at `at` and that an item of the node with this path follows ends behind that item
abbrev pub gone_on : Path → ℕ → ℕ → Place → Place
gone_on path at behind place =
    if is_within place.path path && (place.end == at) then record place { end = behind } else place

abbrev pub begun : List Piece → Piece → Place
begun before piece = record {
  path = path_of (items_of before) piece.item;
  start = size before;
  first_end = size (piece ∷ before);
  end = size (piece ∷ before);
}

-- the places of the nodes that pieces begin, the last piece first, as far as these pieces go
abbrev pub places_after : List Piece → List Place
places_after [] = []
places_after (piece ∷ before) =
    let old = map (gone_on (path_of (items_of before) piece.item) (size before) (size (piece ∷ before))) (places_after before) in
    if begins_node (items_of before) piece.item then old ++ begun before piece ∷ [] else old

-- where an item may stand, as far as the tree goes
abbrev pub Fits : List Item → Item → Type 0
Fits before (end_tag name) = 0 < depth before
Fits before declaration = depth before ≡ 0
Fits before (reference c) = 0 < depth before
Fits before (cdata cs) = 0 < depth before
Fits before item = Unit {0}

-- such items, the last one first
abbrev pub Follow : List Item → Type 0
Follow [] = Unit {0}
Follow (item ∷ before) = Fits before item × Follow before

-- the path of the element that is open
abbrev pub open_path : List Item → Path
open_path before = last_path (depth before) (tree_after before)

-- what kind of node an item begins
abbrev pub kind_of_item : Item → Kind
kind_of_item declaration = Text
kind_of_item (start_tag name attributes) = Element
kind_of_item (empty_tag name attributes) = Element
kind_of_item (end_tag name) = Element
kind_of_item (character c) = Text
kind_of_item (reference c) = Text
kind_of_item (cdata cs) = Text
kind_of_item (comment cs) = Comment
kind_of_item (instruction target content) = Pi

abbrev pub kinds_after : List Piece → List Kind
kinds_after [] = []
kinds_after (piece ∷ before) =
    if begins_node (items_of before) piece.item then kinds_after before ++ kind_of_item piece.item ∷ [] else kinds_after before

-- what an item does to the rows
abbrev pub shape_of : Item → Shape
shape_of declaration = Nothing
shape_of (start_tag name attributes) = Start
shape_of (empty_tag name attributes) = Whole Element
shape_of (end_tag name) = End
shape_of (character c) = Characters
shape_of (reference c) = Characters
shape_of (cdata []) = EmptySection
shape_of (cdata (c ∷ cs)) = Characters
shape_of (comment cs) = Whole Comment
shape_of (instruction target content) = Whole Pi
