-- What the calls on a document need of its whole tree.
use Rattle.std.proofs.Common.{◌≡◌, ℕ, ◌+◌, ◌-◌, ◌<◌, ◌≤◌, true, List, [], ◌∷◌, ◌++◌, length, drop, Some, None, refl, sym, ◌∙◌, ap, subst, arith, length-append, length-drop}
use Rattle.std.proofs.Math.Logic.{∥∥₁_elim, ∥∥₁_map}
use Rattle.std.proofs.Math.Nat.{ℕ_set}
use Rattle.std.proofs.Math.Bool.{Bool-set}
use Rattle.std.proofs.Props.{props}
use Rattle.std.proofs.lemmas.Option.{none-some, same_Some}
use Rattle.std.proofs.lemmas.Str.{chars-nil}
use Rattle.std.specs.Prelude.{Option, option_map, option_and_then, is_some}
use Rattle.std.specs.Option.{option_map_or}
use Rattle.std.specs.Str.{chars}
use Rattle.document_model.specs.Characters.{with_line_ends}
use Rattle.document_model.specs.Items.{Attribute, Item, Piece, piece_at}
use Rattle.document_model.specs.Tree.{Node, Path, Element, Text, Comment, Instruction, node_at, count}
use Rattle.document_model.specs.Scopes.{Tag}
use Rattle.document_model.specs.Documents.{document_of}
use Rattle.document_model.specs.Places.{Place}
use Rattle.document_model.proofs.Joins.{piece_joins}
use Rattle.xml_items.specs.Items.{item_in, IsRead}
use Rattle.xml_items.proofs.NameTexts.{spells}
use Rattle.xml_items.specs.Scanned.{piece_in}
use Rattle.xml_items.specs.declared.scanner.Scanned.{Scanned}
use Rattle.xml_items.specs.declared.items.Found.{Found}
use Rattle.xml_items.specs.declared.items.Found.TheVariants as found
use Rattle.doc_spans.specs.declared.documents.Doc.{Doc}
use Rattle.doc_spans.specs.declared.documents.NodeId.{NodeId}
use Rattle.doc_spans.specs.declared.rows.Row.{Row}
use Rattle.doc_spans.specs.declared.rows.Kind.TheVariants as kinds
use Rattle.doc_spans.specs.Below.{paths_below}
use Rattle.doc_spans.specs.Seen.{Has, NameBelow, node_in, nodes_at, name_of_node, text_of_node, attributes_of_node, tag_of_node, shown_in, document_in}
use Rattle.doc_spans.specs.Shown.{Shown, IsShownOf, ShowsRow, path_at, kind_of, children_of}
use Rattle.doc_spans.specs.Texts.{StandFrom, AreTexts, text_added, HoldText, text_between}
use Rattle.doc_spans.specs.View.{place_of_row}
use Rattle.doc_spans.specs.Written.{written_name, written_text, written_tag}
use Rattle.doc_spans.proofs.ChildNodes.{children_within, count_is, get_there, path_at_place}
use Rattle.doc_spans.proofs.Each.{each_weaker}
use Rattle.doc_spans.proofs.Named.{head_of}
use Rattle.doc_spans.proofs.ItemRuns.{text_is}
use Rattle.doc_spans.proofs.Nodes.{IsSeen}
use Rattle.doc_spans.proofs.NodeTexts.{Stands, stands_at, from_seen, all_of_each}
use Rattle.doc_spans.proofs.Numbered.{AreNumbered}
use Rattle.doc_spans.proofs.Run.{piece_has}
use Rattle.doc_spans.proofs.Stays.{head}

-- A text.

text_of_kind : (node : Node) → kind_of node ≡ kinds.Text → (cs : List ℕ) × (node ≡ Text cs)
text_of_kind (Text cs) e = (cs, refl)
text_of_kind (Element name attributes inner) e = cc
text_of_kind (Comment cs) e = cc
text_of_kind (Instruction target content) e = cc

-- what stands at a node
node_stands : (bytes : List ℕ) (shown : Shown) (k : ℕ) (row : Row) → IsShownOf shown bytes → ShowsRow shown k row → Stands bytes (place_of_row (path_at shown k) row)
node_stands bytes shown k row whole shows = stands_at shown bytes k (place_of_row (path_at shown k) row) whole shows.place

-- and its kind
node_kind : (bytes : List ℕ) (shown : Shown) (k : ℕ) (row : Row) → (whole : IsShownOf shown bytes) → (shows : ShowsRow shown k row) → kind_of (node_stands bytes shown k row whole shows).0.node ≡ row.kind
node_kind bytes shown k row whole shows =
    let stands = node_stands bytes shown k row whole shows in
    same_Some _ _ (sym (ap (option_map kind_of) stands.0.named) ∙ whole.kinds k (place_of_row (path_at shown k) row) row.kind shows.place shows.kind)

record TextAt (bytes : List ℕ) (path : Path) (row : Row) : Type 0 where
  pieces : List Piece
  stand : StandFrom bytes row.start row.end pieces
  texts : AreTexts pieces
  is : option_map_or text_of_node (node_at (document_of bytes) path) [] ≡ text_added pieces

text_at : (bytes : List ℕ) (shown : Shown) (k : ℕ) (row : Row) → IsShownOf shown bytes → ShowsRow shown k row → row.kind ≡ kinds.Text → TextAt bytes (path_at shown k) row
text_at bytes shown k row whole shows kind =
    let stands = node_stands bytes shown k row whole shows in
    let is_text = text_of_kind stands.0.node (node_kind bytes shown k row whole shows ∙ kind) in
    let named : node_at (document_of bytes) (path_at shown k) ≡ Some (Text is_text.0) = stands.0.named ∙ ap Some is_text.1 in
    let text = stands.0.text is_text.0 named in record {
      pieces = text.0;
      stand = text.1;
      texts = text.2;
      is = ap (λ o. option_map_or text_of_node o []) named ∙ sym text.3;
    }

le_is_prop : (a b : ℕ) → IsProp (a ≤ b)
le_is_prop a b = hlevel props

pub text_hold : (bytes : List ℕ) (shown : Shown) (k : ℕ) (row : Row) → ∥ IsShownOf shown bytes ∥₁ → ShowsRow shown k row → row.kind ≡ kinds.Text → ∥ HoldText bytes row.start row.end ∥₁
text_hold bytes shown k row whole shows kind = ∥∥₁_map whole (λ w. (let t = text_at bytes shown k row w shows kind in (t.pieces, t.stand, t.texts)))

pub node_within : (bytes : List ℕ) (shown : Shown) (k : ℕ) (row : Row) → ∥ IsShownOf shown bytes ∥₁ → ShowsRow shown k row → row.end ≤ length bytes
node_within bytes shown k row whole shows = ∥∥₁_elim whole (le_is_prop row.end (length bytes)) (λ w. (node_stands bytes shown k row w shows).1)

pub text_value : (bytes : List ℕ) (shown : Shown) (k : ℕ) (row : Row) → ∥ IsShownOf shown bytes ∥₁ → ShowsRow shown k row → row.kind ≡ kinds.Text
    → text_between bytes row.start row.end ≡ option_map_or text_of_node (node_at (document_of bytes) (path_at shown k)) []
text_value bytes shown k row whole shows kind = from_seen _ _ whole (λ w.
    let t = text_at bytes shown k row w shows kind in text_is bytes row.start row.end t.pieces t.stand ∙ sym t.is)

-- The text of another node.

kind_of_head : (node : Node) → kind_of (head node) ≡ kind_of node
kind_of_head (Element name attributes inner) = refl
kind_of_head (Text cs) = refl
kind_of_head (Comment cs) = refl
kind_of_head (Instruction target content) = refl

text_of_head : (node : Node) → (kind_of node ≡ kinds.Text → ⊥) → text_of_node (head node) ≡ text_of_node node
text_of_head (Element name attributes inner) other = refl
text_of_head (Text cs) other = absurd (other refl)
text_of_head (Comment cs) other = refl
text_of_head (Instruction target content) other = refl

text_by : (found : Found) (node : Node) → (kind_of node ≡ kinds.Text → ⊥) → Some (head node) ≡ head_of (item_in found) → with_line_ends (chars (written_text found)) ≡ text_of_node node
text_by item node other e = by_found item e
  where
    of : (m : Node) (text : List ℕ) → Some (head node) ≡ Some m → text_of_node m ≡ text → text ≡ text_of_node node
    of m text e f = sym f ∙ sym (ap text_of_node (same_Some (head node) m e)) ∙ text_of_head node other

    no_text : Some (head node) ≡ Some (Text []) → ⊥
    no_text e = other (sym (kind_of_head node) ∙ ap kind_of (same_Some (head node) (Text []) e))

    none : with_line_ends (chars []) ≡ []
    none = ap with_line_ends chars-nil

    by_found : (found : Found) → Some (head node) ≡ head_of (item_in found) → with_line_ends (chars (written_text found)) ≡ text_of_node node
    by_found found.Declaration e = absurd (none-some (head node) (sym e))
    by_found (found.StartTag name attributes) e = none ∙ of _ [] e refl
    by_found (found.EmptyTag name attributes) e = none ∙ of _ [] e refl
    by_found (found.EndTag name) e = absurd (none-some (head node) (sym e))
    by_found (found.Character c) e = absurd (no_text e)
    by_found (found.Reference c) e = absurd (no_text e)
    by_found (found.Cdata text) e = absurd (no_text e)
    by_found (found.Comment text) e = of _ _ e refl
    by_found (found.Instruction target content) e = of _ _ e refl

-- the item at a node
node_item : (bytes : List ℕ) (shown : Shown) (k : ℕ) (row : Row) (scanned : Scanned) → (w : IsShownOf shown bytes) → (shows : ShowsRow shown k row)
    → piece_at (drop row.start bytes) ≡ Some (piece_in bytes row.start scanned) → Some (head (node_stands bytes shown k row w shows).0.node) ≡ head_of (item_in scanned.found)
node_item bytes shown k row scanned w shows at =
    let seen = (node_stands bytes shown k row w shows).0 in
    let f : Piece × List ℕ → Item = λ p. p.0.item in
    seen.begun ∙ ap (λ p. head_of (f p)) (same_Some _ _ (sym seen.read ∙ at))

pub other_value : (bytes : List ℕ) (shown : Shown) (k : ℕ) (row : Row) (scanned : Scanned) → ∥ IsShownOf shown bytes ∥₁ → ShowsRow shown k row → (row.kind ≡ kinds.Text → ⊥)
    → piece_at (drop row.start bytes) ≡ Some (piece_in bytes row.start scanned)
    → with_line_ends (chars (written_text scanned.found)) ≡ option_map_or text_of_node (node_at (document_of bytes) (path_at shown k)) []
other_value bytes shown k row scanned whole shows other at = from_seen _ _ whole (λ w.
    let seen = (node_stands bytes shown k row w shows).0 in
    text_by scanned.found seen.node (λ e. other (sym (node_kind bytes shown k row w shows) ∙ e)) (node_item bytes shown k row scanned w shows at)
    ∙ ap (λ o. option_map_or text_of_node o []) (sym seen.named))

pub no_other_value : (bytes : List ℕ) (shown : Shown) (k : ℕ) (row : Row) (xs : List ℕ) → ∥ IsShownOf shown bytes ∥₁ → ShowsRow shown k row
    → piece_at (drop row.start bytes) ≡ None → xs ≡ option_map_or text_of_node (node_at (document_of bytes) (path_at shown k)) []
no_other_value bytes shown k row xs whole shows at = from_seen _ _ whole (λ w. absurd (none-some _ (sym at ∙ (node_stands bytes shown k row w shows).0.read)))

-- Tags.

tag_of_head : (node m : Node) → head node ≡ m → tag_of_node node ≡ tag_of_node m
tag_of_head (Element name attributes inner) m e = ap tag_of_node e
tag_of_head (Text cs) m e = ap tag_of_node e
tag_of_head (Comment cs) m e = ap tag_of_node e
tag_of_head (Instruction target content) m e = ap tag_of_node e

tag_by : (found : Found) (node : Node) → Some (head node) ≡ head_of (item_in found) → written_tag found ≡ tag_of_node node
tag_by found.Declaration node e = absurd (none-some (head node) (sym e))
tag_by (found.StartTag name attributes) node e = sym (tag_of_head node _ (same_Some _ _ e))
tag_by (found.EmptyTag name attributes) node e = sym (tag_of_head node _ (same_Some _ _ e))
tag_by (found.EndTag name) node e = absurd (none-some (head node) (sym e))
tag_by (found.Character c) node e = sym (tag_of_head node (Text []) (same_Some _ _ e))
tag_by (found.Reference c) node e = sym (tag_of_head node (Text []) (same_Some _ _ e))
tag_by (found.Cdata text) node e = sym (tag_of_head node (Text []) (same_Some _ _ e))
tag_by (found.Comment text) node e = sym (tag_of_head node (Comment _) (same_Some _ _ e))
tag_by (found.Instruction target content) node e = sym (tag_of_head node _ (same_Some _ _ e))

-- a tag as lists of numbers, and back
abbrev code : List Attribute → List (List ℕ × List ℕ × List ℕ)
code [] = []
code (a ∷ attributes) = (a.name.prefix, a.name.local, a.value) ∷ code attributes

abbrev decode : List (List ℕ × List ℕ × List ℕ) → List Attribute
decode [] = []
decode (t ∷ texts) = record { name = record { prefix = t.0; local = t.1 }; value = t.2 } ∷ decode texts

decoded : (attributes : List Attribute) → decode (code attributes) ≡ attributes
decoded [] = refl
decoded (a ∷ attributes) = ap (λ as'. a ∷ as') (decoded attributes)

abbrev Code : Type 0
Code = List (List ℕ × List ℕ × List (List ℕ × List ℕ × List ℕ))

abbrev code_tag : Option Tag → Code
code_tag None = []
code_tag (Some tag) = (tag.name.prefix, tag.name.local, code tag.attributes) ∷ []

abbrev decode_tag : Code → Option Tag
decode_tag [] = None
decode_tag (t ∷ codes) = Some (record { name = record { prefix = t.0; local = t.1 }; attributes = decode t.2 })

decoded_tag : (tag : Option Tag) → decode_tag (code_tag tag) ≡ tag
decoded_tag None = refl
decoded_tag (Some tag) = ap (λ as'. Some (record { name = tag.name; attributes = as' })) (decoded tag.attributes)

codes_set : IsSet Code
codes_set = hlevel props

tag_seen : {A : Type 0} (x y : Option Tag) → ∥ A ∥₁ → (A → x ≡ y) → x ≡ y
tag_seen x y h f = sym (decoded_tag x) ∙ ap decode_tag (∥∥₁_elim h (codes_set (code_tag x) (code_tag y)) (λ a. ap code_tag (f a))) ∙ decoded_tag y

pub tag_value : (bytes : List ℕ) (shown : Shown) (k : ℕ) (row : Row) (scanned : Scanned) → ∥ IsShownOf shown bytes ∥₁ → ShowsRow shown k row
    → piece_at (drop row.start bytes) ≡ Some (piece_in bytes row.start scanned)
    → written_tag scanned.found ≡ option_and_then tag_of_node (node_at (document_of bytes) (path_at shown k))
tag_value bytes shown k row scanned whole shows at = tag_seen _ _ whole (λ w.
    let seen = (node_stands bytes shown k row w shows).0 in
    tag_by scanned.found seen.node (node_item bytes shown k row scanned w shows at) ∙ ap (option_and_then tag_of_node) (sym seen.named))

pub no_tag_value : (bytes : List ℕ) (shown : Shown) (k : ℕ) (row : Row) (tag : Option Tag) → ∥ IsShownOf shown bytes ∥₁ → ShowsRow shown k row
    → piece_at (drop row.start bytes) ≡ None → tag ≡ option_and_then tag_of_node (node_at (document_of bytes) (path_at shown k))
no_tag_value bytes shown k row tag whole shows at = tag_seen _ _ whole (λ w. absurd (none-some _ (sym at ∙ (node_stands bytes shown k row w shows).0.read)))

no_element : (node : Node) → (kind_of node ≡ kinds.Element → ⊥) → None ≡ tag_of_node node
no_element (Element name attributes inner) other = absurd (other refl)
no_element (Text cs) other = refl
no_element (Comment cs) other = refl
no_element (Instruction target content) other = refl

-- another node has none
pub other_tag : (bytes : List ℕ) (shown : Shown) (k : ℕ) (row : Row) → ∥ IsShownOf shown bytes ∥₁ → ShowsRow shown k row → (row.kind ≡ kinds.Element → ⊥)
    → None ≡ option_and_then tag_of_node (node_at (document_of bytes) (path_at shown k))
other_tag bytes shown k row whole shows other = tag_seen _ _ whole (λ w.
    let seen = (node_stands bytes shown k row w shows).0 in
    no_element seen.node (λ e. other (sym (node_kind bytes shown k row w shows) ∙ e)) ∙ ap (option_and_then tag_of_node) (sym seen.named))

-- the attributes of a node are those of its tag
pub attributes_of_tag : (found : Option Node) (tag : Option Tag) → tag ≡ option_and_then tag_of_node found → option_map_or (λ t. t.attributes) tag [] ≡ option_map_or attributes_of_node found []
attributes_of_tag found tag e = ap (λ t. option_map_or (λ t. t.attributes) t []) e ∙ by_node found
  where
    by_node : (found : Option Node) → option_map_or (λ t. t.attributes) (option_and_then tag_of_node found) [] ≡ option_map_or attributes_of_node found []
    by_node None = refl
    by_node (Some (Element name attributes inner)) = refl
    by_node (Some (Text cs)) = refl
    by_node (Some (Comment cs)) = refl
    by_node (Some (Instruction target content)) = refl

-- Names.

name_of_head : (node m : Node) → head node ≡ m → name_of_node node ≡ name_of_node m
name_of_head (Element name attributes inner) m e = ap name_of_node e
name_of_head (Text cs) m e = ap name_of_node e
name_of_head (Comment cs) m e = ap name_of_node e
name_of_head (Instruction target content) m e = ap name_of_node e

named_by : (found : Found) (node : Node) → IsRead found → Some (head node) ≡ head_of (item_in found) → chars (written_name found) ≡ name_of_node node
named_by found.Declaration node r e = absurd (none-some (head node) (sym e))
named_by (found.StartTag name attributes) node r e = sym (name_of_head node _ (same_Some _ _ e) ∙ spells (chars name.now) r.0)
named_by (found.EmptyTag name attributes) node r e = sym (name_of_head node _ (same_Some _ _ e) ∙ spells (chars name.now) r.0)
named_by (found.EndTag name) node r e = absurd (none-some (head node) (sym e))
named_by (found.Character c) node r e = chars-nil ∙ sym (name_of_head node (Text []) (same_Some _ _ e))
named_by (found.Reference c) node r e = chars-nil ∙ sym (name_of_head node (Text []) (same_Some _ _ e))
named_by (found.Cdata text) node r e = chars-nil ∙ sym (name_of_head node (Text []) (same_Some _ _ e))
named_by (found.Comment text) node r e = chars-nil ∙ sym (name_of_head node (Comment _) (same_Some _ _ e))
named_by (found.Instruction target content) node r e = sym (name_of_head node _ (same_Some _ _ e))

-- the place of a node's first item lies in the bytes
start_of : (bytes : List ℕ) (place : Place) → IsSeen bytes place → place.start ≤ length bytes
start_of bytes place seen =
    let some = piece_has (drop place.start bytes) _ seen.read in
    let l : length (seen.piece.text ++ drop place.first_end bytes) ≡ length (drop place.start bytes) = ap length (piece_joins (drop place.start bytes) _ seen.read) in
    let parts = length-append seen.piece.text (drop place.first_end bytes) in
    let n = length-drop place.start bytes in omega (arith, some, l, parts, n)

pub start_within : (bytes : List ℕ) (shown : Shown) (k : ℕ) (row : Row) → ∥ IsShownOf shown bytes ∥₁ → ShowsRow shown k row → row.start ≤ length bytes
start_within bytes shown k row whole shows =
    ∥∥₁_elim whole (le_is_prop row.start (length bytes)) (λ w. start_of bytes (place_of_row (path_at shown k) row) (stands_at shown bytes k _ w shows.place).0)

-- an item begins at it
pub item_stands : (bytes : List ℕ) (shown : Shown) (k : ℕ) (row : Row) → ∥ IsShownOf shown bytes ∥₁ → ShowsRow shown k row → is_some (piece_at (drop row.start bytes)) ≡ true
item_stands bytes shown k row whole shows =
    ∥∥₁_elim whole (Bool-set _ _) (λ w. ap is_some (stands_at shown bytes k (place_of_row (path_at shown k) row) w shows.place).0.read)

pub name_value : (bytes : List ℕ) (shown : Shown) (k : ℕ) (row : Row) (scanned : Scanned) → ∥ IsShownOf shown bytes ∥₁ → ShowsRow shown k row → IsRead scanned.found
    → piece_at (drop row.start bytes) ≡ Some (piece_in bytes row.start scanned) → chars (written_name scanned.found) ≡ option_map_or name_of_node (node_at (document_of bytes) (path_at shown k)) []
name_value bytes shown k row scanned whole shows read at = from_seen _ _ whole (λ w.
    let seen = (stands_at shown bytes k (place_of_row (path_at shown k) row) w shows.place).0 in
    let f : Piece × List ℕ → Item = λ p. p.0.item in
    let item : seen.piece.item ≡ item_in scanned.found = ap f (same_Some _ _ (sym seen.read ∙ at)) in
    named_by scanned.found seen.node read (seen.begun ∙ ap head_of item) ∙ ap (λ o. option_map_or name_of_node o []) (sym seen.named))

pub no_name_value : (bytes : List ℕ) (shown : Shown) (k : ℕ) (row : Row) (xs : List ℕ) → ∥ IsShownOf shown bytes ∥₁ → ShowsRow shown k row
    → piece_at (drop row.start bytes) ≡ None → xs ≡ option_map_or name_of_node (node_at (document_of bytes) (path_at shown k)) []
no_name_value bytes shown k row xs whole shows at = from_seen _ _ whole (λ w.
    let seen = (stands_at shown bytes k (place_of_row (path_at shown k) row) w shows.place).0 in
    absurd (none-some _ (sym at ∙ seen.read)))

-- Children.

pub name_below : (doc : Doc) (path : Path) (numbers : List ℕ) → children_of (shown_in doc) path ≡ numbers → AreNumbered (shown_in doc) path → NameBelow doc path 0 numbers
name_below doc path numbers is numbered =
    let P : List ℕ → Type 0 = λ ns. NameBelow doc path 0 ns in
    let many : length (children_of (shown_in doc) path) ≡ count (nodes_at (document_in doc) path) - 0 =
    ∥∥₁_elim doc.whole (ℕ_set _ _) (λ w. count_is (shown_in doc) doc.bytes.now path w numbered ∙ (let e : count (nodes_at (document_in doc) path) ≡ count (nodes_at (document_in doc) path) - 0 = omega arith in e)) in
    subst P is (record {
      within = all_of_each _ (children_of (shown_in doc) path) (each_weaker (λ k. k < 0 + length (shown_in doc).places) (λ k. k < length (shown_in doc).places) (λ k h. omega (arith, h)) _ (children_within path 0 (shown_in doc).places));
      paths = numbered ∙ ap (paths_below path 0) many;
    })

-- Nodes are there.

pub node_there : (doc : Doc) (node : NodeId) → Has doc node → is_some (node_in doc node) ≡ true
node_there doc node h = ∥∥₁_elim doc.whole (Bool-set _ _) (λ w.
    let place = get_there (shown_in doc).places node.0 h in
    let seen = (stands_at (shown_in doc) doc.bytes.now node.0 place.0 w place.1).0 in
    ap is_some (ap (node_at (document_in doc)) (path_at_place (shown_in doc) node.0 place.0 place.1) ∙ seen.named))
