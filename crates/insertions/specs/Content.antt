-- Content that may be put into an element, and what a document spells that has it.
use Rattle.std.specs.Prelude.{◌≡◌, ℕ, ◌<◌, false, List, [], ◌∷◌, ◌++◌, Option, Some, None, ◌⊎◌, codes, flat_map}
use Rattle.document_model.specs.Characters.{begins_with}
use Rattle.document_model.specs.Items.{Item, Piece, start_tag}
use Rattle.document_model.specs.Tree.{Nodes, Path, IsElementAt, put_last, depth, content_after}
use Rattle.document_model.specs.Scopes.{Tag, tags_at}
use Rattle.document_model.specs.Documents.{Fault, Depth, TooMany, limits, legal, fault, document_of}
use Rattle.document_model.specs.Insertion.{StandInside, put_inside}
use Rattle.document_model.specs.Sizes.{height, count_all}
use Rattle.insertions.specs.Sizes.{IsSmall}

-- the bytes of pieces
abbrev pub texts : List Piece → List ℕ
texts pieces = flat_map (λ piece. piece.text) pieces

-- the items of pieces on top of those before them, the last one first
abbrev pub items_after : List Piece → List Item → List Item
items_after [] before = before
items_after (piece ∷ pieces) before = items_after pieces (piece.item ∷ before)

-- Pieces that stand one after another, with bytes behind them: each is the legal item at its place. The limits on depth and nodes aside.
abbrev pub Stand : List Item → List Piece → List ℕ → Type 0
Stand before [] rest = Unit {0}
Stand before (piece ∷ pieces) rest =
    (legal before (piece.text ++ (texts pieces ++ rest)) ≡ Some (piece, texts pieces ++ rest)) × Stand (piece.item ∷ before) pieces rest

-- the start tags of open elements, the innermost first
abbrev pub begun : List Tag → List Item
begun [] = []
begun (tag ∷ outer) = start_tag tag.name tag.attributes ∷ begun outer

-- what stands behind content: an end tag begins
abbrev pub closing : List ℕ
closing = codes "</"

-- Legal content of an element, by the elements that are open in it, itself the first: legal items that stand whole inside it, in front of its
-- end tag. It doesn't begin with LF, `>` or `]`, which could join what stands in front of it. It may be empty, and have CR, for what is said here.
pub record IsContent (tags : List Tag) (content : List ℕ) : Type 0 where
  pub pieces : List Piece
  pub spelled : texts pieces ≡ content
  pub stand : Stand (begun tags) pieces closing
  pub inside : StandInside (items_after pieces [])
  pub whole : depth (items_after pieces []) ≡ 0
  pub no_end : begins_with 0xA content ≡ false
  pub no_greater : begins_with 0x3E content ≡ false
  pub no_bracket : begins_with 0x5D content ≡ false

-- its nodes
abbrev pub nodes_of_content : {tags : List Tag} {content : List ℕ} → IsContent tags content → Nodes
nodes_of_content c = content_after (items_after c.pieces [])

-- a fault tells which limit the tree passes
abbrev pub PassedBy : Nodes → Option Fault → Type 0
PassedBy tree found = (place : ℕ)
    × (((found ≡ Some (Depth place)) × (limits.depth < height tree)) ⊎ ((found ≡ Some (TooMany place)) × (limits.nodes < count_all tree)))

-- the bytes spell the tree where it is within the limits, and else their fault tells which limit it passes
abbrev pub SpellsWithin : List ℕ → Nodes → Type 0
SpellsWithin bytes tree = (IsSmall tree × (fault bytes ≡ None) × (document_of bytes ≡ tree)) ⊎ PassedBy tree (fault bytes)

-- The law: where legal content is put into an element, the new bytes spell the old tree with the content as last children, unless a limit on
-- depth or nodes is passed.
abbrev pub ContentIsSpelled : Type 0
ContentIsSpelled = (content bytes : List ℕ) (host : Path)
    → fault bytes ≡ None → IsElementAt (document_of bytes) host → (c : IsContent (tags_at (document_of bytes) host) content)
    → SpellsWithin (put_inside content host bytes) (put_last (nodes_of_content c) host (document_of bytes))
