-- Where the nodes of a document stand in its bytes, and how they are numbered.
use Rattle.std.specs.Prelude.{◌≡◌, ℕ, suc, ◌+◌, ◌≤◌, Bool, true, false, not, ◌||◌, ◌==◌, if◌then◌else◌, List, [], ◌∷◌, length, map, take, None, IsPermutation}
use Rattle.document_model.specs.Items.{Item, Piece, declaration, start_tag, empty_tag, end_tag, character, reference, cdata, comment, instruction}
use Rattle.document_model.specs.Tree.{Path, depth, tree_after, last_path}
use Rattle.document_model.specs.NodeSets.{is_within}
use Rattle.document_model.specs.Documents.{run, limits, fault, is_in_text}

-- The innermost node that an item is part of: the node that it begins, goes on with or closes; the empty path is the document.

-- how deep that node is
abbrev pub depth_of : List Item → Item → ℕ
depth_of before declaration = 0
depth_of before (start_tag name attributes) = suc (depth before)
depth_of before (empty_tag name attributes) = suc (depth before)
depth_of before (end_tag name) = depth before
depth_of before (character c) = if depth before == 0 then 0 else suc (depth before)
depth_of before (reference c) = suc (depth before)
depth_of before (cdata []) = if is_in_text before then suc (depth before) else depth before
depth_of before (cdata (c ∷ cs)) = suc (depth before)
depth_of before (comment cs) = suc (depth before)
depth_of before (instruction target content) = suc (depth before)

abbrev pub path_of : List Item → Item → Path
path_of before item = last_path (depth_of before item) (tree_after (item ∷ before))

-- whether an item begins a node
abbrev pub begins_node : List Item → Item → Bool
begins_node before declaration = false
begins_node before (start_tag name attributes) = true
begins_node before (empty_tag name attributes) = true
begins_node before (end_tag name) = false
begins_node before (character c) = not ((depth before == 0) || is_in_text before)
begins_node before (reference c) = not ((depth before == 0) || is_in_text before)
begins_node before (cdata []) = false
begins_node before (cdata (c ∷ cs)) = not ((depth before == 0) || is_in_text before)
begins_node before (comment cs) = true
begins_node before (instruction target content) = true

-- A node with its bytes: its path, the place of its first byte, of the byte behind its first item, and of the byte behind its last item.
pub record Place : Type 0 where
  pub path : Path
  pub start : ℕ
  pub first_end : ℕ
  pub end : ℕ

-- the bytes of the pieces from a place on that are part of a node or of one below it, up to the last such
abbrev pub extent : Path → List Item → List Piece → ℕ
extent path before [] = 0
extent path before (piece ∷ pieces) =
    if is_within path (path_of before piece.item) then length piece.text + extent path (piece.item ∷ before) pieces else 0

abbrev pub place_of : List Item → ℕ → Piece → List Piece → Place
place_of before at piece pieces = let path = path_of before piece.item in record {
  path = path;
  start = at;
  first_end = at + length piece.text;
  end = at + extent path before (piece ∷ pieces);
}

-- the nodes that pieces begin, in document order
abbrev pub places_from : List Item → ℕ → List Piece → List Place
places_from before at [] = []
places_from before at (piece ∷ pieces) = let behind = places_from (piece.item ∷ before) (at + length piece.text) pieces in
    if begins_node before piece.item then place_of before at piece pieces ∷ behind else behind

-- the nodes of a document, in document order
abbrev pub places_of : List ℕ → List Place
places_of bytes = places_from [] 0 (run limits bytes).pieces

-- Numbers of nodes. A tree is seen as its nodes' places, one for each number.

-- the tree is that of these bytes: they spell a document, and each of its nodes has one number
pub record IsTreeOf (tree : List Place) (bytes : List ℕ) : Type 0 where
  pub spelled : fault bytes ≡ None
  pub numbered : IsPermutation tree (places_of bytes)

-- each node that was there keeps its number
abbrev pub KeepsNumbers : List Place → List Place → Type 0
KeepsNumbers old new = (length old ≤ length new) × (take (length old) (map (λ place. place.path) new) ≡ map (λ place. place.path) old)
