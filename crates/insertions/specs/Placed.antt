-- Bytes that are put in at places, and those that put content into an element.
use Rattle.std.specs.Prelude.{◌≡◌, ℕ, ◌+◌, ◌-◌, ◌≤◌, ◌&&◌, if◌then◌else◌, List, [], ◌∷◌, ◌++◌, length, take, drop, codes, encode_utf8_all, None}
use Rattle.std.specs.Coded.{×_prop, Unit-prop, le_prop}
use Rattle.document_model.specs.Characters.{◌is◌}
use Rattle.document_model.specs.Names.{spelled}
use Rattle.document_model.specs.Items.{Item, Piece, empty_tag}
use Rattle.document_model.specs.Tree.{Path, IsElementAt}
use Rattle.document_model.specs.Documents.{run, limits, fault, document_of}
use Rattle.document_model.specs.Places.{path_of}
use Rattle.document_model.specs.Insertion.{may_close, put_inside}
use Rattle.insertions.specs.declared.pieces.Placed.{Placed}

-- bytes with others put in at their place
abbrev pub with_one : Placed → List ℕ → List ℕ
with_one one bytes = take one.at bytes ++ (one.bytes ++ drop one.at bytes)

-- Bytes with others put in at their places, which rise and are places of the bytes without them. Of two at one place the first stands first.
abbrev pub with_all : List Placed → List ℕ → List ℕ
with_all [] bytes = bytes
with_all (one ∷ more) bytes = with_one one (with_all more bytes)

-- the places rise, from a place on
abbrev pub RiseFrom : ℕ → List Placed → Type 0
RiseFrom from [] = Unit {0}
RiseFrom from (one ∷ more) = (from ≤ one.at) × RiseFrom one.at more

pub RiseFrom-prop : (from : ℕ) (all : List Placed) → IsProp (RiseFrom from all)
RiseFrom-prop from [] = Unit-prop
RiseFrom-prop from (one ∷ more) = ×_prop le_prop (RiseFrom-prop one.at more)

-- the last place; the one handed in where there is none
abbrev pub last_from : ℕ → List Placed → ℕ
last_from from [] = from
last_from from (one ∷ more) = last_from one.at more

abbrev pub last_place : List Placed → ℕ
last_place all = last_from 0 all

abbrev pub first_place : List Placed → ℕ
first_place [] = 0
first_place (one ∷ more) = one.at

-- What puts content into the element that an item closes, by the item's place and text: of an empty tag, `>`, the content and `<` in front of
-- its `/`, and the element's name behind that.
abbrev pub for_content : List ℕ → ℕ → List ℕ → Item → List Placed
for_content content at text (empty_tag name attributes) = let slash = at + (length text - 2) in
    record { at = slash; bytes = codes ">" ++ (content ++ codes "<") } ∷ record { at = slash + 1; bytes = encode_utf8_all (spelled name) } ∷ []
for_content content at text item = record { at = at; bytes = content } ∷ []

-- what puts content into the element that a path names, by the pieces behind items, from a place on
abbrev pub placed_in : List ℕ → Path → ℕ → List Item → List Piece → List Placed
placed_in content host at before [] = []
placed_in content host at before (piece ∷ pieces) =
    (if may_close piece.item && (path_of before piece.item is host) then for_content content at piece.text piece.item else [])
    ++ placed_in content host (at + length piece.text) (piece.item ∷ before) pieces

-- what puts content into an element of a document
abbrev pub placed_inside : List ℕ → Path → List ℕ → List Placed
placed_inside content host bytes = placed_in content host 0 [] (run limits bytes).pieces

-- The law: this gives the document with the content in the element.
abbrev pub PlacedIsPut : Type 0
PlacedIsPut = (content bytes : List ℕ) (host : Path)
    → fault bytes ≡ None → IsElementAt (document_of bytes) host → with_all (placed_inside content host bytes) bytes ≡ put_inside content host bytes
