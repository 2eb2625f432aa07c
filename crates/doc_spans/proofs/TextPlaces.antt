-- The characters of a text node are those of the items between the first and the last byte of its place.
use Rattle.std.proofs.Common.{◌≡◌, ℕ, zero, suc, pred, ◌+◌, ◌<◌, Bool, true, false, cond, ◌&&◌, List, [], ◌∷◌, ◌++◌, length, drop, Option, Some, refl, sym, ◌∙◌, ap, subst, arith, ◌⊎◌, inl, inr, nat_eq, append_assoc}
use Rattle.std.proofs.lemmas.Option.{none-some, same_Some}
use Rattle.std.proofs.lemmas.Bool.Decides.{eqb_tells}
use Rattle.std.proofs.lemmas.List.{append-nil}
use Rattle.std.specs.Prelude.{map, option_map}
use Rattle.document_model.specs.Items.{Attribute, Item, Piece, piece_at, declaration, start_tag, empty_tag, end_tag, character, reference, cdata, comment, instruction}
use Rattle.document_model.specs.Tree.{Node, Nodes, Path, Element, Text, Comment, Instruction, no_nodes, ◌⨾◌, nth, node_at, grown, depth, added_by, added_at, tree_after, count}
use Rattle.document_model.specs.Documents.{is_in_text}
use Rattle.document_model.specs.NodeSets.{is_within}
use Rattle.document_model.specs.Places.{Place, path_of, begins_node}
use Rattle.document_model.proofs.Grown.{grown_none, added_start, added_end}
use Rattle.document_model.specs.Names.{Name}
use Rattle.doc_spans.specs.Marks.{size, items_of, gone_on, begun, places_after, Follow, open_path}
use Rattle.doc_spans.specs.Texts.{text_added_by, StandFrom, AreTexts, text_added, IsTextOf}
use Rattle.doc_spans.specs.View.{Each}
use Rattle.doc_spans.proofs.Each.{each_append, each_map}
use Rattle.doc_spans.proofs.Marks.{within_self, eq_self}
use Rattle.doc_spans.proofs.Seen.{within_more}
use Rattle.doc_spans.proofs.Spine.{path_of_last, none_behind}
use Rattle.doc_spans.proofs.Stays.{head, stays}
use Rattle.doc_spans.proofs.Steps.{children, child_count, ends_in_text, is_text, spine, text_is_last, deep, added_whole, added_comment, added_instruction, path_begun}
use Rattle.doc_spans.proofs.Named.{named_begun, head_of, IsNode, paths_name, fresh, same_path, new_node}
use Rattle.doc_spans.proofs.Builds.{IsNothing}
use Rattle.doc_spans.proofs.EndedRows.{GoesOn}
use Rattle.doc_spans.proofs.Turn.{one, added_nothing, added_flat, is_nothing_declaration, is_nothing_outside, is_nothing_section, IsText, text_character, text_reference, text_section, goes_on_text, goes_on_section, leaf_text, ends}
use Rattle.doc_spans.proofs.TextNodes.{keeps_text, grows_text, at_last_inside, beside_open}

-- Paths, the same or not.

pub same_or_not : (a b : Path) → (a ≡ b) ⊎ (a ≡ b → ⊥)
same_or_not [] [] = inl refl
same_or_not [] (j ∷ b) = inr (λ e. let n = ap length e in absurd (omega (arith, n)))
same_or_not (k ∷ a) [] = inr (λ e. let n = ap length e in absurd (omega (arith, n)))
same_or_not (k ∷ a) (j ∷ b) = elim (eqb_tells k j) [
  | inr t ↦ inr (λ e. t.1 (ap first e))
  | inl t ↦ elim (same_or_not a b) [
    | inl s ↦ inl (λ i. (t.1 i ∷ s i))
    | inr s ↦ inr (λ e. s (ap rest e))
  ]
]
  where
    first : Path → ℕ
    first [] = k
    first (n ∷ path) = n

    rest : Path → Path
    rest [] = []
    rest (n ∷ path) = path

-- Pieces in a row.

stand_more : (bytes : List ℕ) (start end : ℕ) (pieces : List Piece) (piece : Piece) → StandFrom bytes start end pieces
    → piece_at (drop end bytes) ≡ Some (piece, drop (end + length piece.text) bytes) → StandFrom bytes start (end + length piece.text) (pieces ++ piece ∷ [])
stand_more bytes start end [] piece at found =
    let P : ℕ → Type 0 = λ n. (piece_at (drop n bytes) ≡ Some (piece, drop (n + length piece.text) bytes)) × (n + length piece.text ≡ end + length piece.text) in
    subst P (sym at) (found, refl)
stand_more bytes start end (first ∷ pieces) piece at found = (at.0, stand_more bytes (start + length first.text) end pieces piece at.1 found)

texts_more : (pieces : List Piece) (piece : Piece) → AreTexts pieces → AreTexts (piece ∷ []) → AreTexts (pieces ++ piece ∷ [])
texts_more [] piece h t = t
texts_more (first ∷ pieces) piece h t = (h.0, texts_more pieces piece h.1 t)

added_more : (pieces : List Piece) (piece : Piece) → text_added (pieces ++ piece ∷ []) ≡ text_added pieces ++ text_added_by piece.item
added_more [] piece = append-nil (text_added_by piece.item)
added_more (first ∷ pieces) piece = ap (λ cs. text_added_by first.item ++ cs) (added_more pieces piece) ∙ sym (append_assoc (text_added_by first.item) (text_added pieces) (text_added_by piece.item))

-- A text that was there.

is_text_head : (m : Node) (cs : List ℕ) → Some (Text cs) ≡ Some (head m) → (ds : List ℕ) × (m ≡ Text ds)
is_text_head (Text ds) cs e = (ds, refl)
is_text_head (Element name attributes inner) cs e = (let f : Text cs ≡ Element name attributes no_nodes = same_Some _ _ e in (cc))
is_text_head (Comment ds) cs e = (let f : Text cs ≡ Comment ds = same_Some _ _ e in (cc))
is_text_head (Instruction target content) cs e = (let f : Text cs ≡ Instruction target content = same_Some _ _ e in (cc))

-- a node that is a text later was one before
was_text : (before : List Item) (item : Item) (path : Path) (m : Node) (cs : List ℕ) → node_at (tree_after before) path ≡ Some m
    → node_at (tree_after (item ∷ before)) path ≡ Some (Text cs) → (ds : List ℕ) × (node_at (tree_after before) path ≡ Some (Text ds))
was_text before item path m cs old new =
    let same = stays (depth before) (added_at (depth before) item) (tree_after before) path m old in
    let is = is_text_head m [] (sym (ap (option_map head) new) ∙ same) in
    (is.0, old ∙ ap Some is.1)

-- two texts
text_is : {a b : List ℕ} → Some (Text a) ≡ Some (Text b) → a ≡ b
text_is e = ap characters_in (same_Some _ _ e)
  where
    characters_in : Node → List ℕ
    characters_in (Text cs) = cs
    characters_in (Element name attributes inner) = []
    characters_in (Comment cs) = []
    characters_in (Instruction target content) = []

-- An item that changes no text.

record Quiet (before : List Item) (item : Item) : Type 0 where
  keeps : (path : Path) (cs : List ℕ) → node_at (tree_after before) path ≡ Some (Text cs) → node_at (tree_after (item ∷ before)) path ≡ Some (Text cs)
  beside : (path : Path) (cs : List ℕ) → node_at (tree_after before) path ≡ Some (Text cs) → is_within path (path_of before item) ≡ false

not_gone_on : (path : Path) (at behind : ℕ) (place : Place) → is_within place.path path ≡ false → gone_on path at behind place ≡ place
not_gone_on path at behind place e = ap (λ b. cond (b && nat_eq place.end at) (record place { end = behind }) place) e

-- a place beside an item keeps its characters
stays_beside : (bytes : List ℕ) (before : List Item) (item : Item) (at behind : ℕ) (place : Place)
    → ((cs : List ℕ) → node_at (tree_after before) place.path ≡ Some (Text cs) → node_at (tree_after (item ∷ before)) place.path ≡ Some (Text cs))
    → ((cs : List ℕ) → node_at (tree_after before) place.path ≡ Some (Text cs) → is_within place.path (path_of before item) ≡ false)
    → IsNode (tree_after before) place.path → IsTextOf bytes (tree_after before) place
    → IsTextOf bytes (tree_after (item ∷ before)) (gone_on (path_of before item) at behind place)
stays_beside bytes before item at behind place keeps beside node text cs e =
    let new : node_at (tree_after (item ∷ before)) place.path ≡ Some (Text cs) =
    sym (ap (node_at (tree_after (item ∷ before))) (same_path (path_of before item) at behind place)) ∙ e in
    let old = was_text before item place.path node.0 cs node.1 new in
    let is : node_at (tree_after before) place.path ≡ Some (Text cs) = old.1 ∙ (sym (keeps old.0 old.1) ∙ new) in
    let P : Place → Type 0 = λ p. (pieces : List Piece) × StandFrom bytes p.start p.end pieces × AreTexts pieces × (text_added pieces ≡ cs) in
    subst P (sym (not_gone_on (path_of before item) at behind place (beside cs is))) (text cs is)

quiet_place : (bytes : List ℕ) (before : List Item) (item : Item) (at behind : ℕ) → Quiet before item → (place : Place)
    → IsNode (tree_after before) place.path × IsTextOf bytes (tree_after before) place
    → IsTextOf bytes (tree_after (item ∷ before)) (gone_on (path_of before item) at behind place)
quiet_place bytes before item at behind q place h =
    stays_beside bytes before item at behind place (λ cs e. q.keeps place.path cs e) (λ cs e. q.beside place.path cs e) h.0 h.1

beside_open_path : (before : List Item) → Follow before → (path : Path) (cs : List ℕ) → node_at (tree_after before) path ≡ Some (Text cs) → is_within path (open_path before) ≡ false
beside_open_path before h path cs e = beside_open (depth before) (tree_after before) path cs (spine before h) e

quiet_nothing : (before : List Item) (item : Item) → Follow before → added_at (depth before) item ≡ no_nodes → path_of before item ≡ open_path before → Quiet before item
quiet_nothing before item h none at = record {
  keeps = λ path cs e. ap (λ t. node_at t path) (ap (λ x. grown (depth before) x (tree_after before)) none ∙ grown_none (depth before) (tree_after before)) ∙ e;
  beside = λ path cs e. ap (is_within path) at ∙ beside_open_path before h path cs e;
}

text_ends : (nodes : Nodes) (cs : List ℕ) → nth (pred (count nodes)) nodes ≡ Some (Text cs) → ends_in_text nodes ≡ true
text_ends no_nodes cs e = absurd (none-some (Text cs) e)
text_ends (node ⨾ no_nodes) cs e = ap is_text (same_Some node (Text cs) e)
text_ends (node ⨾ next ⨾ nodes) cs e = text_ends (next ⨾ nodes) cs e

quiet_new : (before : List Item) (item : Item) (node : Node) → Follow before → added_at (depth before) item ≡ node ⨾ no_nodes
    → (ends_in_text (children before) ≡ true → is_text node ≡ false) → path_of before item ≡ open_path before ++ child_count before ∷ [] → Quiet before item
quiet_new before item node h one_added apart at =
    let d = depth before in
    let tree = tree_after before in
    let s = spine before h in record {
      keeps = λ path cs e.
          ap (λ x. node_at (grown d x tree) path) one_added
          ∙ keeps_text d node tree path cs
          (λ f. apart (text_ends (children before) cs (sym (at_last_inside d tree s) ∙ ap (node_at tree) (sym (f ∙ path_of_last d tree s)) ∙ e))) e;
      beside = λ path cs e.
          ap (is_within path) at
          ∙ within_more path (open_path before) (child_count before) (λ f. none-some (Text cs) (sym (none_behind d tree s) ∙ sym (ap (node_at tree) f) ∙ e))
          ∙ beside_open_path before h path cs e;
    }

-- The places of a text that an item goes on with.

-- in a text, the last child ends where the pieces end
abbrev pub LastEnds : List Piece → Type 0
LastEnds pieces = 0 < depth (items_of pieces) → is_in_text (items_of pieces) ≡ true
    → Each (λ place. place.path ≡ open_path (items_of pieces) ++ pred (child_count (items_of pieces)) ∷ [] → place.end ≡ size pieces) (places_after pieces)

-- what an item of a text does to the last child
abbrev Grows : List Item → Item → Type 0
Grows before item = (cs : List ℕ) → node_at (tree_after before) (open_path before ++ pred (child_count before) ∷ []) ≡ Some (Text cs)
    → node_at (tree_after (item ∷ before)) (open_path before ++ pred (child_count before) ∷ []) ≡ Some (Text (cs ++ text_added_by item))

grows_section : (before : List Item) → Follow before → 0 < depth before → Grows before (cdata [])
grows_section before h inner cs e =
    ap (λ t. node_at t (open_path before ++ pred (child_count before) ∷ []))
    (ap (λ x. grown (depth before) x (tree_after before)) (deep (depth before) (cdata []) inner) ∙ grown_none (depth before) (tree_after before))
    ∙ e
    ∙ ap (λ x. Some (Text x)) (sym (append-nil cs))

grows_item : (before : List Item) (item : Item) → Follow before → added_at (depth before) item ≡ Text (text_added_by item) ⨾ no_nodes → Grows before item
grows_item before item h is cs e =
    ap (λ x. node_at (grown (depth before) x (tree_after before)) (open_path before ++ pred (child_count before) ∷ [])) is
    ∙ grows_text (depth before) (tree_after before) cs (text_added_by item) (spine before h) e

gone_on_last : (path : Path) (at behind : ℕ) (place : Place) → place.path ≡ path → place.end ≡ at → gone_on path at behind place ≡ record place { end = behind }
gone_on_last path at behind place e f =
    ap (λ p. cond (is_within p path && nat_eq place.end at) (record place { end = behind }) place) e
    ∙ ap (λ b. cond (b && nat_eq place.end at) (record place { end = behind }) place) (within_self path)
    ∙ ap (λ n. cond (nat_eq n at) (record place { end = behind }) place) f
    ∙ ap (λ b. cond b (record place { end = behind }) place) (eq_self at)

goes_on_place : (bytes : List ℕ) (pieces : List Piece) (piece : Piece) → Follow (items_of pieces) → GoesOn pieces piece → AreTexts (piece ∷ []) → Grows (items_of pieces) piece.item
    → added_at (depth (items_of pieces)) piece.item ≡ no_nodes ⊎ ((cs : List ℕ) × (added_at (depth (items_of pieces)) piece.item ≡ Text cs ⨾ no_nodes))
    → piece_at (drop (size pieces) bytes) ≡ Some (piece, drop (size (piece ∷ pieces)) bytes)
    → (place : Place) → (place.path ≡ open_path (items_of pieces) ++ pred (child_count (items_of pieces)) ∷ [] → place.end ≡ size pieces)
    → IsNode (tree_after (items_of pieces)) place.path → IsTextOf bytes (tree_after (items_of pieces)) place
    → IsTextOf bytes (tree_after (items_of (piece ∷ pieces))) (gone_on (path_of (items_of pieces) piece.item) (size pieces) (size (piece ∷ pieces)) place)
goes_on_place bytes pieces piece h g t grows added read place ends_at node text = elim (same_or_not place.path last) [
  | inl same ↦ at_last same
  | inr other ↦
      stays_beside bytes before piece.item (size pieces) (size (piece ∷ pieces)) place
      (λ cs e. keeps_other added other cs e)
      (λ cs e. ap (is_within place.path) g.path ∙ within_more place.path (open_path before) (pred (child_count before)) other ∙ beside_open_path before h place.path cs e)
      node text
]
  where
    before : List Item
    before = items_of pieces

    last : Path
    last = open_path (items_of pieces) ++ pred (child_count (items_of pieces)) ∷ []

    keeps_other : added_at (depth (items_of pieces)) piece.item ≡ no_nodes ⊎ ((cs : List ℕ) × (added_at (depth (items_of pieces)) piece.item ≡ Text cs ⨾ no_nodes))
        → (place.path ≡ open_path (items_of pieces) ++ pred (child_count (items_of pieces)) ∷ [] → ⊥) → (cs : List ℕ)
        → node_at (tree_after (items_of pieces)) place.path ≡ Some (Text cs) → node_at (tree_after (items_of (piece ∷ pieces))) place.path ≡ Some (Text cs)
    keeps_other (inl none) other cs e =
        ap (λ t. node_at t place.path)
        (ap (λ x. grown (depth (items_of pieces)) x (tree_after (items_of pieces))) none ∙ grown_none (depth (items_of pieces)) (tree_after (items_of pieces)))
        ∙ e
    keeps_other (inr some) other cs e =
        ap (λ x. node_at (grown (depth (items_of pieces)) x (tree_after (items_of pieces))) place.path) some.1
        ∙ keeps_text (depth (items_of pieces)) (Text some.0) (tree_after (items_of pieces)) place.path cs
        (λ f. absurd (other (f ∙ path_of_last (depth (items_of pieces)) (tree_after (items_of pieces)) (spine (items_of pieces) h)))) e

    at_last : place.path ≡ open_path (items_of pieces) ++ pred (child_count (items_of pieces)) ∷ []
        → IsTextOf bytes (tree_after (items_of (piece ∷ pieces))) (gone_on (path_of (items_of pieces) piece.item) (size pieces) (size (piece ∷ pieces)) place)
    at_last same cs e =
        let tree = tree_after (items_of pieces) in
        let later = tree_after (items_of (piece ∷ pieces)) in
        let new : node_at later place.path ≡ Some (Text cs) =
        sym (ap (node_at later) (same_path (path_of (items_of pieces) piece.item) (size pieces) (size (piece ∷ pieces)) place)) ∙ e in
        let old = was_text (items_of pieces) piece.item place.path node.0 cs node.1 new in
        let grown_to = grows old.0 (sym (ap (node_at tree) same) ∙ old.1) in
        let whole : old.0 ++ text_added_by piece.item ≡ cs = text_is (sym grown_to ∙ (sym (ap (node_at later) same) ∙ new)) in
        let was = text old.0 old.1 in
        let end_is = ends_at same in
        let P : Place → Type 0 = λ p. (ps : List Piece) × StandFrom bytes p.start p.end ps × AreTexts ps × (text_added ps ≡ cs) in
        let Q : ℕ → Type 0 = λ n. StandFrom bytes place.start n was.0 in
        subst P (sym (gone_on_last (path_of (items_of pieces) piece.item) (size pieces) (size (piece ∷ pieces)) place (same ∙ sym g.path) end_is))
        (was.0 ++ piece ∷ [], stand_more bytes place.start (size pieces) was.0 piece (subst Q end_is was.1) read, texts_more was.0 piece was.2 t, added_more was.0 piece ∙ ap (λ x. x ++ text_added_by piece.item) was.3 ∙ whole)

-- One more piece.

-- the texts of the places of pieces, the last one first
pub record Turned (bytes : List ℕ) (pieces : List Piece) : Type 0 where
  pub texts : Each (IsTextOf bytes (tree_after (items_of pieces))) (places_after pieces)
  pub last : LastEnds pieces

abbrev moved : List Piece → Piece → List Place
moved pieces piece = map (gone_on (path_of (items_of pieces) piece.item) (size pieces) (size (piece ∷ pieces))) (places_after pieces)

with_begun : (P : Place → Type 0) (pieces : List Piece) (piece : Piece) → Each P (moved pieces piece)
    → (begins_node (items_of pieces) piece.item ≡ true → P (begun pieces piece)) → Each P (places_after (piece ∷ pieces))
with_begun P pieces piece old new = go (begins_node (items_of pieces) piece.item) new
  where
    go : (b : Bool) → (b ≡ true → P (begun pieces piece)) → Each P (cond b (moved pieces piece ++ begun pieces piece ∷ []) (moved pieces piece))
    go true n = each_append P (moved pieces piece) (begun pieces piece ∷ []) old (n refl, tt)
    go false n = old

pub each_of : {X Y : Type 0} (P : Y → Type 0) (f : X → Y) (xs : List X) → Each P (map f xs) → Each (λ x. P (f x)) xs
each_of P f [] h = tt
each_of P f (x ∷ xs) h = (h.0, each_of P f xs h.1)

pub each_both : {X : Type 0} (P Q : X → Type 0) (xs : List X) → Each P xs → Each Q xs → Each (λ x. P x × Q x) xs
each_both P Q [] h k = tt
each_both P Q (x ∷ xs) h k = ((h.0, k.0), each_both P Q xs h.1 k.1)

name_nodes : (pieces : List Piece) → Follow (items_of pieces) → Each (λ place. IsNode (tree_after (items_of pieces)) place.path) (places_after pieces)
name_nodes pieces h = each_of (IsNode (tree_after (items_of pieces))) (λ place. place.path) (places_after pieces) (paths_name pieces h)

quiet_texts : (bytes : List ℕ) (pieces : List Piece) (piece : Piece) → Follow (items_of pieces) → Quiet (items_of pieces) piece.item → Turned bytes pieces
    → Each (IsTextOf bytes (tree_after (items_of (piece ∷ pieces)))) (moved pieces piece)
quiet_texts bytes pieces piece h q was =
    let tree = tree_after (items_of pieces) in
    each_map (λ place. IsNode tree place.path × IsTextOf bytes tree place) (IsTextOf bytes (tree_after (items_of (piece ∷ pieces))))
    (gone_on (path_of (items_of pieces) piece.item) (size pieces) (size (piece ∷ pieces)))
    (quiet_place bytes (items_of pieces) piece.item (size pieces) (size (piece ∷ pieces)) q) (places_after pieces)
    (each_both (λ place. IsNode tree place.path) (IsTextOf bytes tree) (places_after pieces) (name_nodes pieces h) was.texts)

no_last : (pieces : List Piece) → (0 < depth (items_of pieces) → is_in_text (items_of pieces) ≡ false) → LastEnds pieces
no_last pieces quiet inner e = (let f : false ≡ true = sym (quiet inner) ∙ e in (cc))

-- a piece that begins no node and changes no text
quiet_turn : (bytes : List ℕ) (pieces : List Piece) (piece : Piece) → Follow (items_of pieces) → Quiet (items_of pieces) piece.item
    → begins_node (items_of pieces) piece.item ≡ false → (0 < depth (items_of (piece ∷ pieces)) → is_in_text (items_of (piece ∷ pieces)) ≡ false)
    → Turned bytes pieces → Turned bytes (piece ∷ pieces)
quiet_turn bytes pieces piece h q none quiet was = record {
  texts = with_begun (IsTextOf bytes (tree_after (items_of (piece ∷ pieces)))) pieces piece (quiet_texts bytes pieces piece h q was) (λ e. (let f : false ≡ true = sym none ∙ e in (cc)));
  last = no_last (piece ∷ pieces) quiet;
}

-- a piece that begins a node, which isn't a text
head_is : (m : Node) (cs : List ℕ) (found : Option Node) → m ≡ Text cs → Some (head m) ≡ found → found ≡ Some (Text [])
head_is m cs found e f = sym f ∙ ap (λ n. Some (head n)) e

no_new_text : (bytes : List ℕ) (pieces : List Piece) (piece : Piece) → Follow (items_of pieces) → begins_node (items_of pieces) piece.item ≡ true
    → (head_of piece.item ≡ Some (Text []) → ⊥) → IsTextOf bytes (tree_after (items_of (piece ∷ pieces))) (begun pieces piece)
no_new_text bytes pieces piece h begins other cs e =
    let named = named_begun (items_of pieces) piece.item h begins in
    let at : path_of (items_of pieces) piece.item ≡ open_path (items_of pieces) ++ child_count (items_of pieces) ∷ [] = path_begun (items_of pieces) piece.item h begins in
    let same : Some named.0 ≡ Some (Text cs) = sym named.1 ∙ ap (node_at (tree_after (items_of (piece ∷ pieces)))) (sym at) ∙ e in
    absurd (other (head_is named.0 cs (head_of piece.item) (same_Some named.0 (Text cs) same) named.2))

new_turn : (bytes : List ℕ) (pieces : List Piece) (piece : Piece) (node : Node) → Follow (items_of pieces) → added_at (depth (items_of pieces)) piece.item ≡ node ⨾ no_nodes
    → is_text node ≡ false → begins_node (items_of pieces) piece.item ≡ true → (head_of piece.item ≡ Some (Text []) → ⊥)
    → is_in_text (items_of (piece ∷ pieces)) ≡ false → Turned bytes pieces → Turned bytes (piece ∷ pieces)
new_turn bytes pieces piece node h one_added other begins apart quiet was =
    let q = quiet_new (items_of pieces) piece.item node h one_added (λ e. other) (path_begun (items_of pieces) piece.item h begins) in record {
      texts = with_begun (IsTextOf bytes (tree_after (items_of (piece ∷ pieces)))) pieces piece (quiet_texts bytes pieces piece h q was) (λ e. no_new_text bytes pieces piece h begins apart);
      last = no_last (piece ∷ pieces) (λ inner. quiet);
    }

-- a piece that begins a text
begun_turn : (bytes : List ℕ) (pieces : List Piece) (piece : Piece) (cs : List ℕ) → Follow (items_of pieces) → added_at (depth (items_of pieces)) piece.item ≡ Text cs ⨾ no_nodes
    → text_added_by piece.item ≡ cs → AreTexts (piece ∷ []) → 0 < depth (items_of pieces) → is_in_text (items_of pieces) ≡ false → begins_node (items_of pieces) piece.item ≡ true
    → open_path (items_of (piece ∷ pieces)) ≡ open_path (items_of pieces) → child_count (items_of (piece ∷ pieces)) ≡ suc (child_count (items_of pieces))
    → piece_at (drop (size pieces) bytes) ≡ Some (piece, drop (size (piece ∷ pieces)) bytes) → Turned bytes pieces → Turned bytes (piece ∷ pieces)
begun_turn bytes pieces piece cs h one_added says t inner quiet begins outer more read was =
    let before = items_of pieces in
    let no_text_last : ends_in_text (children before) ≡ false = text_is_last before h inner ∙ quiet in
    let at : path_of before piece.item ≡ open_path before ++ child_count before ∷ [] = path_begun before piece.item h begins in
    let q = quiet_new before piece.item (Text cs) h one_added (λ e. (let f : false ≡ true = sym no_text_last ∙ e in (cc))) at in
    let behind : node_at (tree_after (items_of (piece ∷ pieces))) (path_of before piece.item) ≡ Some (Text cs) =
    ap (node_at (tree_after (items_of (piece ∷ pieces)))) at ∙ new_node before (added_at (depth before) piece.item) (Text cs) h one_added (ap (λ b. b && true) no_text_last) in
    let last_is : open_path (items_of (piece ∷ pieces)) ++ pred (child_count (items_of (piece ∷ pieces))) ∷ [] ≡ open_path before ++ child_count before ∷ [] =
    (λ i. (outer i ++ pred (more i) ∷ [])) in record {
      texts = with_begun (IsTextOf bytes (tree_after (items_of (piece ∷ pieces)))) pieces piece (quiet_texts bytes pieces piece h q was)
          (λ e. λ ds found. (piece ∷ [], (read, refl), t, append-nil (text_added_by piece.item) ∙ says ∙ text_is (sym behind ∙ found)));
      last = λ deeper text. with_begun (λ place. place.path ≡ open_path (items_of (piece ∷ pieces)) ++ pred (child_count (items_of (piece ∷ pieces))) ∷ [] → place.end ≡ size (piece ∷ pieces))
          pieces piece
          (each_map (λ place. place.path ≡ open_path before ++ child_count before ∷ [] → ⊥)
          (λ place. place.path ≡ open_path (items_of (piece ∷ pieces)) ++ pred (child_count (items_of (piece ∷ pieces))) ∷ [] → place.end ≡ size (piece ∷ pieces))
          (gone_on (path_of before piece.item) (size pieces) (size (piece ∷ pieces)))
          (λ place other e. absurd (other (sym (same_path (path_of before piece.item) (size pieces) (size (piece ∷ pieces)) place) ∙ e ∙ last_is)))
          (places_after pieces)
          (each_of (λ path. path ≡ open_path before ++ child_count before ∷ [] → ⊥) (λ place. place.path) (places_after pieces) (fresh pieces h)))
          (λ e. λ f. refl);
    }

-- a piece that goes on with a text
on_turn : (bytes : List ℕ) (pieces : List Piece) (piece : Piece) → Follow (items_of pieces) → GoesOn pieces piece → AreTexts (piece ∷ []) → Grows (items_of pieces) piece.item
    → added_at (depth (items_of pieces)) piece.item ≡ no_nodes ⊎ ((cs : List ℕ) × (added_at (depth (items_of pieces)) piece.item ≡ Text cs ⨾ no_nodes))
    → is_in_text (items_of pieces) ≡ true → piece_at (drop (size pieces) bytes) ≡ Some (piece, drop (size (piece ∷ pieces)) bytes)
    → Turned bytes pieces → Turned bytes (piece ∷ pieces)
on_turn bytes pieces piece h g t grows added in_text read was =
    let before = items_of pieces in
    let tree = tree_after before in
    let here = open_path before ++ pred (child_count before) ∷ [] in
    let ends_at = was.last g.inner in_text in
    let last_is : open_path (items_of (piece ∷ pieces)) ++ pred (child_count (items_of (piece ∷ pieces))) ∷ [] ≡ here = (λ i. (g.outer i ++ pred (g.count i) ∷ [])) in record {
      texts = with_begun (IsTextOf bytes (tree_after (items_of (piece ∷ pieces)))) pieces piece
          (each_map (λ place. (IsNode tree place.path × IsTextOf bytes tree place) × (place.path ≡ here → place.end ≡ size pieces)) (IsTextOf bytes (tree_after (items_of (piece ∷ pieces))))
          (gone_on (path_of before piece.item) (size pieces) (size (piece ∷ pieces)))
          (λ place k. goes_on_place bytes pieces piece h g t grows added read place k.1 k.0.0 k.0.1)
          (places_after pieces)
          (each_both (λ place. IsNode tree place.path × IsTextOf bytes tree place) (λ place. place.path ≡ here → place.end ≡ size pieces) (places_after pieces)
          (each_both (λ place. IsNode tree place.path) (IsTextOf bytes tree) (places_after pieces) (name_nodes pieces h) was.texts) ends_at))
          (λ e. (let f : false ≡ true = sym g.begins ∙ e in (cc)));
      last = λ deeper text. with_begun (λ place. place.path ≡ open_path (items_of (piece ∷ pieces)) ++ pred (child_count (items_of (piece ∷ pieces))) ∷ [] → place.end ≡ size (piece ∷ pieces))
          pieces piece
          (each_map (λ place. place.path ≡ here → place.end ≡ size pieces)
          (λ place. place.path ≡ open_path (items_of (piece ∷ pieces)) ++ pred (child_count (items_of (piece ∷ pieces))) ∷ [] → place.end ≡ size (piece ∷ pieces))
          (gone_on (path_of before piece.item) (size pieces) (size (piece ∷ pieces)))
          (λ place k e.
          let at : place.path ≡ here = sym (same_path (path_of before piece.item) (size pieces) (size (piece ∷ pieces)) place) ∙ e ∙ last_is in
          let f : Place → ℕ = λ p. p.end in
          ap f (gone_on_last (path_of before piece.item) (size pieces) (size (piece ∷ pieces)) place (at ∙ sym g.path) (k at)))
          (places_after pieces) ends_at)
          (λ e. (let f : false ≡ true = sym g.begins ∙ e in (cc)));
    }

-- All pieces.

abbrev first_text : Nodes → List ℕ
first_text (Text cs ⨾ nodes) = cs
first_text nodes = []

text_turn : (bytes : List ℕ) (pieces : List Piece) (text : List ℕ) (item : Item) → Follow (items_of ((one text item) ∷ pieces)) → Follow (items_of pieces) → (t : IsText (items_of pieces) item)
    → AreTexts (one text item ∷ []) → added_by item ≡ Text (text_added_by item) ⨾ no_nodes
    → (depth (items_of pieces) ≡ 0 → IsNothing pieces (one text item) × (added_at (depth (items_of pieces)) item ≡ no_nodes))
    → piece_at (drop (size pieces) bytes) ≡ Some (one text item, drop (size (one text item ∷ pieces)) bytes) → Turned bytes pieces → Turned bytes (one text item ∷ pieces)
text_turn bytes pieces text item n h t parts adds_text outside read was = by_depth (depth (items_of pieces)) refl
  where
    says : text_added_by item ≡ t.c ∷ t.cs
    says = ap first_text (sym adds_text ∙ t.adds)

    inside_turn : 0 < depth (items_of pieces) → (b : Bool) → is_in_text (items_of pieces) ≡ b → Turned bytes (one text item ∷ pieces)
    inside_turn inner true e =
        let adds : added_at (depth (items_of pieces)) item ≡ Text (t.c ∷ t.cs) ⨾ no_nodes = deep (depth (items_of pieces)) item inner ∙ t.adds in
        on_turn bytes pieces (one text item) h (goes_on_text pieces text item n h t inner e) parts
        (grows_item (items_of pieces) item h (adds ∙ ap (λ cs. Text cs ⨾ no_nodes) (sym says))) (inr (t.c ∷ t.cs, adds)) e read was
    inside_turn inner false e =
        let adds : added_at (depth (items_of pieces)) item ≡ Text (t.c ∷ t.cs) ⨾ no_nodes = deep (depth (items_of pieces)) item inner ∙ t.adds in
        let leaf = leaf_text pieces text item n h t inner e in
        begun_turn bytes pieces (one text item) (t.c ∷ t.cs) h adds says parts inner e leaf.new.begins leaf.outer leaf.count read was

    by_depth : (d : ℕ) → depth (items_of pieces) ≡ d → Turned bytes (one text item ∷ pieces)
    by_depth zero e =
        let o = outside e in
        quiet_turn bytes pieces (one text item) h (quiet_nothing (items_of pieces) item h o.1 o.0.path) o.0.begins
        (λ inner. absurd (let l = o.0.level in omega (arith, l, inner, e))) was
    by_depth (suc d) e = inside_turn (omega (arith, e)) (is_in_text (items_of pieces)) refl

section_turn : (bytes : List ℕ) (pieces : List Piece) (text : List ℕ) → Follow (items_of ((one text (cdata [])) ∷ pieces)) → Follow (items_of pieces)
    → piece_at (drop (size pieces) bytes) ≡ Some (one text (cdata []), drop (size (one text (cdata []) ∷ pieces)) bytes) → Turned bytes pieces → Turned bytes (one text (cdata []) ∷ pieces)
section_turn bytes pieces text n h read was = go (is_in_text (items_of pieces)) refl
  where
    none : added_at (depth (items_of pieces)) (cdata []) ≡ no_nodes
    none = deep (depth (items_of pieces)) (cdata []) n.0

    go : (b : Bool) → is_in_text (items_of pieces) ≡ b → Turned bytes (one text (cdata []) ∷ pieces)
    go true e = on_turn bytes pieces (one text (cdata [])) h (goes_on_section pieces text n e) (tt, tt) (grows_section (items_of pieces) h n.0) (inl none) e read was
    go false e =
        let i = is_nothing_section pieces text n e in
        quiet_turn bytes pieces (one text (cdata [])) h (quiet_nothing (items_of pieces) (cdata []) h none i.path) i.begins (λ inner. i.text n.0) was

no_element : {name : Name} {attributes : List Attribute} {inner : Nodes} → Some (Element name attributes inner) ≡ Some (Text []) → ⊥
no_element {name} {attributes} {inner} e = (let f : Element name attributes inner ≡ Text [] = same_Some _ _ e in (cc))

turn : (bytes : List ℕ) (pieces : List Piece) (text : List ℕ) (item : Item) → Follow (items_of ((one text item) ∷ pieces)) → Follow (items_of pieces)
    → piece_at (drop (size pieces) bytes) ≡ Some (one text item, drop (size (one text item ∷ pieces)) bytes) → Turned bytes pieces → Turned bytes (one text item ∷ pieces)
turn bytes pieces text declaration n h read was =
    let i = is_nothing_declaration pieces text n in
    quiet_turn bytes pieces (one text declaration) h (quiet_nothing (items_of pieces) declaration h (added_nothing (depth (items_of pieces))) i.path) i.begins
    (λ inner. absurd (let l = i.level in let f = n.0 in omega (arith, l, inner, f))) was
turn bytes pieces text (start_tag name attributes) n h read was =
    new_turn bytes pieces (one text (start_tag name attributes)) (Element name attributes no_nodes) h (added_start (depth (items_of pieces)) name attributes) refl refl no_element refl was
turn bytes pieces text (empty_tag name attributes) n h read was =
    new_turn bytes pieces (one text (empty_tag name attributes)) (Element name attributes no_nodes) h (added_whole (depth (items_of pieces)) name attributes) refl refl no_element refl was
turn bytes pieces text (end_tag name) n h read was =
    let e = ends pieces text name n in
    quiet_turn bytes pieces (one text (end_tag name)) h (quiet_nothing (items_of pieces) (end_tag name) h (added_end (depth (items_of pieces)) name) e.path) e.begins (λ inner. e.text) was
turn bytes pieces text (character c) n h read was =
    text_turn bytes pieces text (character c) n h (text_character (items_of pieces) c) (tt, tt) refl (λ flat. (is_nothing_outside pieces text c n flat, added_flat (depth (items_of pieces)) c flat)) read was
turn bytes pieces text (reference c) n h read was =
    text_turn bytes pieces text (reference c) n h (text_reference (items_of pieces) c) (tt, tt) refl (λ flat. let f = n.0 in absurd (omega (arith, f, flat))) read was
turn bytes pieces text (cdata []) n h read was = section_turn bytes pieces text n h read was
turn bytes pieces text (cdata (c ∷ cs)) n h read was =
    text_turn bytes pieces text (cdata (c ∷ cs)) n h (text_section (items_of pieces) c cs) (tt, tt) refl (λ flat. let f = n.0 in absurd (omega (arith, f, flat))) read was
turn bytes pieces text (comment cs) n h read was =
    new_turn bytes pieces (one text (comment cs)) (Comment cs) h (added_comment (depth (items_of pieces)) cs) refl refl (λ e. (let f : Comment cs ≡ Text [] = same_Some _ _ e in (cc))) refl was
turn bytes pieces text (instruction target content) n h read was =
    new_turn bytes pieces (one text (instruction target content)) (Instruction target content) h (added_instruction (depth (items_of pieces)) target content) refl refl
    (λ e. (let f : Instruction target content ≡ Text [] = same_Some _ _ e in (cc))) refl was

pub texts_turned : (bytes : List ℕ) (pieces : List Piece) (piece : Piece) → Follow (items_of (piece ∷ pieces)) → Follow (items_of pieces)
    → piece_at (drop (size pieces) bytes) ≡ Some (piece, drop (size (piece ∷ pieces)) bytes) → Turned bytes pieces → Turned bytes (piece ∷ pieces)
texts_turned bytes pieces piece n h read was = turn bytes pieces piece.text piece.item n h read was
