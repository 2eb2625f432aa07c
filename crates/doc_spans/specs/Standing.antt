-- What the items before a place say of it: which items may follow there, within the limits.
use Rattle.std.specs.Prelude.{ℕ, ◌+◌, Bool, true, false, not, ◌&&◌, ◌||◌, ◌==◌, nat_eq, nat_le, if◌then◌else◌, List, [], ◌∷◌, length, drop, Option, Some, None, option_and_then, codes}
use Rattle.std.specs.List.{starts_with}
use Rattle.document_model.specs.Characters.{is_white, is_empty}
use Rattle.document_model.specs.Names.{Name}
use Rattle.document_model.specs.Items.{Attribute, Item, declaration, start_tag, empty_tag, end_tag, character, reference, cdata, comment, instruction, Piece, piece_at, when}
use Rattle.document_model.specs.Scopes.{Tag, is_sound}
use Rattle.document_model.specs.Documents.{open_elements, has_element, is_character, after_two_brackets, byte_order_mark, is_beginning, closes, limits, is_in_text, nodes_of, Fault, BadItem, Doctype, Depth, TooMany}

-- all that has to be known of the items before a place
pub record Standing : Type 0 where
  pub outer : List Tag  -- the elements that are open, the innermost first
  pub begun : Bool  -- the document element has begun
  pub first : Bool  -- no item stands before
  pub front : Bool  -- nothing but a byte order mark does
  pub bracket : Bool  -- a literal `]` stands right before
  pub brackets : Bool  -- two do
  pub in_text : Bool  -- a text goes on
  pub nodes : ℕ  -- the nodes so far

abbrev pub standing_of : List Item → Standing
standing_of before = record {
  outer = open_elements before;
  begun = has_element before;
  first = is_empty before;
  front = is_beginning before;
  bracket = is_character 0x5D before;
  brackets = after_two_brackets before;
  in_text = is_in_text before;
  nodes = nodes_of before;
}

-- Which item may follow.

abbrev pub may_open : Standing → Name → List Attribute → Bool
may_open s name attributes = (not (is_empty s.outer) || not s.begun) && is_sound s.outer (record { name = name; attributes = attributes })

abbrev pub may_stand_as_text : Standing → ℕ → Bool
may_stand_as_text s c =
    if is_empty s.outer then is_white c || ((c == byte_order_mark) && s.first) else not ((c == 0x3E) && s.brackets)

abbrev pub may_stand : Standing → Item → Bool
may_stand s declaration = s.front
may_stand s (start_tag name attributes) = may_open s name attributes
may_stand s (empty_tag name attributes) = may_open s name attributes
may_stand s (end_tag name) = closes name s.outer
may_stand s (character c) = may_stand_as_text s c
may_stand s (reference c) = not (is_empty s.outer)
may_stand s (cdata cs) = not (is_empty s.outer)
may_stand s (comment cs) = true
may_stand s (instruction target content) = true

-- whether it would be an element that is too deep
abbrev pub is_deep : Standing → Item → Bool
is_deep s (start_tag name attributes) = nat_le limits.depth (length s.outer)
is_deep s (empty_tag name attributes) = nat_le limits.depth (length s.outer)
is_deep s item = false

abbrev pub new_texts : Standing → List ℕ → ℕ
new_texts s [] = 0
new_texts s (c ∷ cs) = if is_empty s.outer || s.in_text then 0 else 1

-- the nodes that it adds
abbrev pub nodes_added : Standing → Item → ℕ
nodes_added s declaration = 0
nodes_added s (start_tag name attributes) = 1 + length attributes
nodes_added s (empty_tag name attributes) = 1 + length attributes
nodes_added s (end_tag name) = 0
nodes_added s (character c) = new_texts s (c ∷ [])
nodes_added s (reference c) = new_texts s (c ∷ [])
nodes_added s (cdata cs) = new_texts s cs
nodes_added s (comment cs) = 1
nodes_added s (instruction target content) = 1

abbrev pub is_one_too_many : Standing → Item → Bool
is_one_too_many s item = not (nat_le (nodes_added s item + s.nodes) limits.nodes)

-- the legal item at the front of bytes, without the limits and within them
abbrev pub legal_here : Standing → List ℕ → Option (Piece × List ℕ)
legal_here s bytes = option_and_then (λ found. when (may_stand s found.0.item) found) (piece_at bytes)

abbrev pub legal_within_here : Standing → List ℕ → Option (Piece × List ℕ)
legal_within_here s bytes =
    option_and_then (λ found. when (not (is_deep s found.0.item) && not (is_one_too_many s found.0.item)) found) (legal_here s bytes)

-- the fault where no such item stands
abbrev pub limit_fault : Standing → ℕ → Option (Piece × List ℕ) → Fault
limit_fault s place None = BadItem place
limit_fault s place (Some found) = if is_deep s found.0.item then Depth place else TooMany place

abbrev pub fault_with : Standing → ℕ → List ℕ → Option (Piece × List ℕ) → Fault
fault_with s place bytes found = if starts_with nat_eq bytes (codes "<!DOCTYPE") && not s.begun then Doctype place else limit_fault s place found

abbrev pub fault_here : Standing → ℕ → List ℕ → Fault
fault_here s place bytes = fault_with s place bytes (legal_here s bytes)

-- whether the items are a whole document
abbrev pub is_complete : Standing → Bool
is_complete s = s.begun && is_empty s.outer

-- One more item.

abbrev pub outer_after : Item → List Tag → List Tag
outer_after (start_tag name attributes) outer = record { name = name; attributes = attributes } ∷ outer
outer_after (end_tag name) outer = drop 1 outer
outer_after item outer = outer

abbrev pub begins_element : Item → Bool
begins_element (start_tag name attributes) = true
begins_element (empty_tag name attributes) = true
begins_element item = false

abbrev pub is_the_character : ℕ → Item → Bool
is_the_character c (character d) = c == d
is_the_character c item = false

abbrev pub text_after : Item → Bool → Bool
text_after (character c) in_text = true
text_after (reference c) in_text = true
text_after (cdata []) in_text = in_text
text_after (cdata (c ∷ cs)) in_text = true
text_after item in_text = false

abbrev pub after : Item → Standing → Standing
after item s = record {
  outer = outer_after item s.outer;
  begun = begins_element item || s.begun;
  first = false;
  front = is_the_character byte_order_mark item && s.first;
  bracket = is_the_character 0x5D item;
  brackets = is_the_character 0x5D item && s.bracket;
  in_text = text_after item s.in_text;
  nodes = nodes_added s item + s.nodes;
}

-- A text that goes on.

-- in an element, behind a character that no rule looks back to
abbrev pub goes_on : Standing → Bool
goes_on s = s.in_text && (not (is_empty s.outer) && not (s.bracket || (s.brackets || (s.first || s.front))))
