-- Documents: which items stand where, the tree that a text spells, and the fault of a text that spells none.
-- XML 1.0, "Well-Formed XML Documents", "Character Data and Markup", "Prolog and Document Type Declaration" and "Logical Structures";
-- Namespaces in XML 1.0. The faults, and the limits, are this project's own.
use Rattle.std.specs.Prelude.{◌≡◌, ℕ, zero, suc, ◌+◌, ◌-◌, Bool, true, false, not, ◌&&◌, ◌||◌, ◌==◌, nat_eq, nat_le, if◌then◌else◌, List, [], ◌∷◌, length, drop, Option, Some, None, codes}
use Rattle.std.specs.Option.{option_map_or}
use Rattle.std.specs.List.{starts_with}
use Rattle.document_model.specs.Characters.{is_white, is_empty}
use Rattle.document_model.specs.Names.{Name, same_name}
use Rattle.document_model.specs.Items.{Attribute, Item, declaration, start_tag, empty_tag, end_tag, character, reference, cdata, comment, instruction, Piece, piece_at, when, ◌>>=◌}
use Rattle.document_model.specs.Tree.{Nodes, depth, tree_after}
use Rattle.document_model.specs.Scopes.{Tag, is_sound}

-- What the items before a place, the last one first, say of it.

-- the elements that are open, the innermost first
abbrev pub open_elements : List Item → List Tag
open_elements [] = []
open_elements (start_tag name attributes ∷ before) = record { name = name; attributes = attributes } ∷ open_elements before
open_elements (end_tag name ∷ before) = drop 1 (open_elements before)
open_elements (item ∷ before) = open_elements before

-- whether the document element has begun
abbrev pub has_element : List Item → Bool
has_element [] = false
has_element (start_tag name attributes ∷ before) = true
has_element (empty_tag name attributes ∷ before) = true
has_element (item ∷ before) = has_element before

abbrev pub is_character : ℕ → List Item → Bool
is_character c [] = false
is_character c (character d ∷ before) = c == d
is_character c (item ∷ before) = false

-- whether two literal `]` stand there
abbrev pub after_two_brackets : List Item → Bool
after_two_brackets before = is_character 0x5D before && is_character 0x5D (drop 1 before)

-- the byte order mark
abbrev pub byte_order_mark : ℕ
byte_order_mark = 0xFEFF

-- nothing but a byte order mark
abbrev pub is_beginning : List Item → Bool
is_beginning before = is_empty before || (is_character byte_order_mark before && is_empty (drop 1 before))

-- Which items may follow.

-- outside the document element: white space, or the byte order mark in front of all
abbrev pub may_stand_outside : List Item → ℕ → Bool
may_stand_outside before c = is_white c || ((c == byte_order_mark) && is_empty before)

-- inside an element any character, but no `]]>`: CharData of XML 1.0
abbrev pub may_stand_inside : List Item → ℕ → Bool
may_stand_inside before c = not ((c == 0x3E) && after_two_brackets before)

abbrev pub closes : Name → List Tag → Bool
closes name [] = false
closes name (tag ∷ outer) = same_name name tag.name

abbrev pub may_begin : List Item → Name → List Attribute → Bool
may_begin before name attributes = let outer = open_elements before in
    (not (is_empty outer) || not (has_element before)) && is_sound outer (record { name = name; attributes = attributes })

abbrev pub may_follow : List Item → Item → Bool
may_follow before declaration = is_beginning before
may_follow before (start_tag name attributes) = may_begin before name attributes
may_follow before (empty_tag name attributes) = may_begin before name attributes
may_follow before (end_tag name) = closes name (open_elements before)
may_follow before (character c) = if is_empty (open_elements before) then may_stand_outside before c else may_stand_inside before c
may_follow before (reference c) = not (is_empty (open_elements before))
may_follow before (cdata cs) = not (is_empty (open_elements before))
may_follow before (comment cs) = true
may_follow before (instruction target content) = true

-- Limits.

-- the deepest element, where the document element is 1, and the most nodes; small ones serve tests
pub record Limits : Type 0 where
  pub depth : ℕ
  pub nodes : ℕ

abbrev pub limits : Limits
limits = record { depth = 256; nodes = 1_048_576 }

abbrev pub is_too_deep : Limits → List Item → Item → Bool
is_too_deep most before (start_tag name attributes) = nat_le most.depth (depth before)
is_too_deep most before (empty_tag name attributes) = nat_le most.depth (depth before)
is_too_deep most before item = false

-- whether a text node goes on there: it is a maximal run of characters, references and CDATA sections in an element
abbrev pub is_in_text : List Item → Bool
is_in_text [] = false
is_in_text (character c ∷ before) = true
is_in_text (reference c ∷ before) = true
is_in_text (cdata [] ∷ before) = is_in_text before
is_in_text (cdata (c ∷ cs) ∷ before) = true
is_in_text (item ∷ before) = false

abbrev pub text_nodes : List Item → List ℕ → ℕ
text_nodes before [] = 0
text_nodes before (c ∷ cs) = if (depth before == 0) || is_in_text before then 0 else 1

-- the nodes that an item adds: an element, its attributes and declarations, a text node, a comment, a PI
abbrev pub new_nodes : List Item → Item → ℕ
new_nodes before declaration = 0
new_nodes before (start_tag name attributes) = 1 + length attributes
new_nodes before (empty_tag name attributes) = 1 + length attributes
new_nodes before (end_tag name) = 0
new_nodes before (character c) = text_nodes before (c ∷ [])
new_nodes before (reference c) = text_nodes before (c ∷ [])
new_nodes before (cdata cs) = text_nodes before cs
new_nodes before (comment cs) = 1
new_nodes before (instruction target content) = 1

abbrev pub nodes_of : List Item → ℕ
nodes_of [] = 0
nodes_of (item ∷ before) = new_nodes before item + nodes_of before

abbrev pub has_too_many : Limits → List Item → Item → Bool
has_too_many most before item = not (nat_le (nodes_of (item ∷ before)) most.nodes)

-- The item at a place.

-- the item at the front of bytes, where it may follow the items before it; without the limits
abbrev pub legal : List Item → List ℕ → Option (Piece × List ℕ)
legal before bytes = do
  found ← piece_at bytes
  when (may_follow before found.0.item) found

-- and within the limits
abbrev pub legal_within : Limits → List Item → List ℕ → Option (Piece × List ℕ)
legal_within most before bytes = do
  found ← legal before bytes
  when (not (is_too_deep most before found.0.item) && not (has_too_many most before found.0.item)) found

-- The legal run: legal items from the front, one after another, as long as one stands there.

-- the legal items from a place on, and the bytes behind them
pub record Run : Type 0 where
  pub pieces : List Piece
  pub before : List Item  -- the same items, the last one first
  pub rest : List ℕ

abbrev pub stopped : List Item → List ℕ → Run
stopped before rest = record { pieces = []; before = before; rest = rest }

abbrev pub with_piece : Piece → Run → Run
with_piece piece run = record { pieces = piece ∷ run.pieces; before = run.before; rest = run.rest }

-- the run of at most n items
abbrev pub run_of : Limits → ℕ → List Item → List ℕ → Run
run_of most zero before rest = stopped before rest
run_of most (suc n) before rest =
    option_map_or (λ found. with_piece found.0 (run_of most n (found.0.item ∷ before) found.1)) (legal_within most before rest) (stopped before rest)

-- an item has a byte at least
abbrev pub run : Limits → List ℕ → Run
run most bytes = run_of most (length bytes) [] bytes

pub data Fault : Type 0 where
  BadItem : (place : ℕ) → Fault
  Doctype : (place : ℕ) → Fault
  Depth : (place : ℕ) → Fault
  TooMany : (place : ℕ) → Fault
  End : Fault

-- the fault where the run ends at a place, with these bytes behind it
abbrev pub otherwise_legal : Limits → List Item → ℕ → Option (Piece × List ℕ) → Fault
otherwise_legal most before place None = BadItem place
otherwise_legal most before place (Some found) = if is_too_deep most before found.0.item then Depth place else TooMany place

abbrev pub is_whole : List Item → Bool
is_whole before = has_element before && is_empty (open_elements before)

abbrev pub fault_at : Limits → ℕ → List Item → List ℕ → Fault
fault_at most place before rest =
    if starts_with nat_eq rest (codes "<!DOCTYPE") && not (has_element before) then Doctype place
    else otherwise_legal most before place (legal before rest)

abbrev pub fault_of_run : Limits → ℕ → Run → Option Fault
fault_of_run most whole run =
    if is_empty run.rest then (if is_whole run.before then None else Some End)
    else Some (fault_at most (whole - length run.rest) run.before run.rest)

-- the fault of a text, if it has one
abbrev pub fault_within : Limits → List ℕ → Option Fault
fault_within most bytes = fault_of_run most (length bytes) (run most bytes)

unfoldable pub fault : List ℕ → Option Fault
fault bytes = fault_within limits bytes

-- Documents

-- the tree of the legal run
unfoldable pub document_of : List ℕ → Nodes
document_of bytes = tree_after (run limits bytes).before

-- the bytes spell the tree: their legal run is a whole document that ends at the last byte, within the limits
abbrev pub Spells : List ℕ → Nodes → Type 0
Spells bytes tree = (fault bytes ≡ None) × (tree ≡ document_of bytes)
