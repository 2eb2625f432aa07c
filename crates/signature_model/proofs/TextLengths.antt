-- The characters of a document's texts are no more than its bytes, so the place of a fault in base64 is no greater than what is read.
use Rattle.std.proofs.Common.{◌≡◌, ℕ, zero, suc, ◌+◌, ◌-◌, ◌≤◌, Bool, true, false, cond, ◌||◌, not, List, [], ◌∷◌, ◌++◌, length, take, drop, Option, Some, None, refl, sym, ◌∙◌, ap, subst, append_assoc, length-append, arith, nat_eq, codes}
use Rattle.std.proofs.lemmas.Bool.{and_parts}
use Rattle.std.proofs.lemmas.List.{append-nil, length-take, length-drop}
use Rattle.std.proofs.lemmas.Option.{none-some, same_Some}
use Rattle.std.proofs.lemmas.Str.{length-le-encodes, encodes-chars, IsUtf8-from_is_utf8}
use Rattle.std.specs.Prelude.{option_map}
use Rattle.std.specs.List.{list_all}
use Rattle.std.specs.Str.{chars, is_utf8}
use Rattle.document_model.specs.Characters.{characters, is_char, is_white, continues_name, span, between, begins_with, with_line_ends}
use Rattle.document_model.specs.Names.{Name, name_of}
use Rattle.document_model.specs.Items.{Attribute, Item, declaration, start_tag, empty_tag, end_tag, character, reference, cdata, comment, instruction, Piece, Kind, CommentKind, CdataKind, InstructionKind, EndTagKind, TagKind, ReferenceKind, CharacterKind, kind_at, cut, item_of, piece_at, or_else, ◌>>=◌, referred, pairs_of, most_attributes, each_of, attribute_of, without_space_behind, declaration_of, instruction_of, tag_of, character_of}
use Rattle.document_model.specs.Tree.{Node, Nodes, Path, Element, Text, Comment, Instruction, no_nodes, ◌⨾◌, nth, below, descend, node_at, joined, in_last, in_nodes_of, grown, depth, added_at, added_by, tree_after}
use Rattle.document_model.specs.Scopes.{Tag, elements_around}
use Rattle.document_model.specs.NodeSets.{NodeSet, kept, kept_node, apex_alone, part_from, part, has_in}
use Rattle.document_model.specs.Documents.{Limits, Run, limits, legal, legal_within, run_of, stopped, document_of}
use Rattle.document_model.proofs.Joins.{bind_some, when_some, by_test, by_option, legal_within_joins}
use Rattle.signature_model.specs.Chains.{texts, text_below}

-- Trees.

joined_texts : (a b : Nodes) → texts (joined a b) ≡ texts a ++ texts b
joined_texts no_nodes b = refl
joined_texts (Text cs ⨾ no_nodes) (Text ds ⨾ b) = append_assoc cs ds (texts b) ∙ ap (λ x. x ++ (ds ++ texts b)) (sym (append-nil cs))
joined_texts (node ⨾ nodes) b = ap (λ x. text_below node ++ x) (joined_texts nodes b) ∙ sym (append_assoc (text_below node) (texts nodes) (texts b))

abbrev Grows : (Node → Node) → ℕ → Type 0
Grows change k = (node : Node) → length (text_below (change node)) ≤ length (text_below node) + k

last_texts : (change : Node → Node) (k : ℕ) → Grows change k → (nodes : Nodes) → length (texts (in_last change nodes)) ≤ length (texts nodes) + k
last_texts change k h no_nodes = omega arith
last_texts change k h (node ⨾ no_nodes) = let g = h node in omega (arith, g, length-append (text_below (change node)) [], length-append (text_below node) [])
last_texts change k h (node ⨾ next ⨾ nodes) =
    let g = last_texts change k h (next ⨾ nodes) in
    omega (arith, g, length-append (text_below node) (texts (in_last change (next ⨾ nodes))), length-append (text_below node) (texts (next ⨾ nodes)))

inside_texts : (change : Nodes → Nodes) (k : ℕ) → ((nodes : Nodes) → length (texts (change nodes)) ≤ length (texts nodes) + k) → Grows (in_nodes_of change) k
inside_texts change k h (Element name attributes nodes) = h nodes
inside_texts change k h (Text cs) = omega arith
inside_texts change k h (Comment cs) = omega arith
inside_texts change k h (Instruction target content) = omega arith

grown_texts : (d : ℕ) (added nodes : Nodes) → length (texts (grown d added nodes)) ≤ length (texts nodes) + length (texts added)
grown_texts zero added nodes = omega (arith, ap length (joined_texts nodes added), length-append (texts nodes) (texts added))
grown_texts (suc d) added nodes =
    last_texts (in_nodes_of (grown d added)) (length (texts added)) (inside_texts (grown d added) (length (texts added)) (λ ns. grown_texts d added ns)) nodes

-- Items.

abbrev item_size : Item → ℕ
item_size (character c) = 1
item_size (reference c) = 1
item_size (cdata cs) = length cs
item_size item = 0

item_texts : (item : Item) → length (texts (added_by item)) ≤ item_size item
item_texts declaration = omega arith
item_texts (start_tag name attributes) = omega arith
item_texts (empty_tag name attributes) = omega arith
item_texts (end_tag name) = omega arith
item_texts (character c) = omega arith
item_texts (reference c) = omega arith
item_texts (cdata []) = omega arith
item_texts (cdata (c ∷ cs)) = omega (arith, length-append cs [])
item_texts (comment cs) = omega arith
item_texts (instruction target content) = omega arith

added_texts : (d : ℕ) (item : Item) → length (texts (added_at d item)) ≤ item_size item
added_texts zero (character c) = omega arith
added_texts zero declaration = item_texts declaration
added_texts zero (start_tag name attributes) = item_texts (start_tag name attributes)
added_texts zero (empty_tag name attributes) = item_texts (empty_tag name attributes)
added_texts zero (end_tag name) = item_texts (end_tag name)
added_texts zero (reference c) = item_texts (reference c)
added_texts zero (cdata cs) = item_texts (cdata cs)
added_texts zero (comment cs) = item_texts (comment cs)
added_texts zero (instruction target content) = item_texts (instruction target content)
added_texts (suc d) item = item_texts item

abbrev items_size : List Item → ℕ
items_size [] = 0
items_size (item ∷ before) = item_size item + items_size before

tree_texts : (before : List Item) → length (texts (tree_after before)) ≤ items_size before
tree_texts [] = omega arith
tree_texts (item ∷ before) =
    let g = grown_texts (depth before) (added_at (depth before) item) (tree_after before) in
    let a = added_texts (depth before) item in
    let t = tree_texts before in omega (arith, g, a, t)

-- The item of a piece has no more characters than the piece has bytes.

between_short : (front back whole inside : List ℕ) → between front back whole ≡ Some inside → length inside ≤ length whole
between_short front back whole inside e =
    let n : ℕ = length (drop (length front) whole) - length back in
    let same : take n (drop (length front) whole) ≡ inside = when_some _ _ _ e in
    subst (λ (x : List ℕ). length x ≤ length whole) same (omega (arith, length-take n (drop (length front) whole), length-drop (length front) whole))

line_ends_short : (cs : List ℕ) → length (with_line_ends cs) ≤ length cs
line_ends_short [] = omega arith
line_ends_short (c ∷ cs) =
    let h = line_ends_short cs in
    let P : List ℕ → Type 0 = λ x. length x ≤ suc (length cs) in
    by_test P (nat_eq c 0xD) (cond (begins_with 0xA cs) (with_line_ends cs) (0xA ∷ with_line_ends cs)) (c ∷ with_line_ends cs)
    (λ e. by_test P (begins_with 0xA cs) (with_line_ends cs) (0xA ∷ with_line_ends cs) (λ f. omega (arith, h)) (λ f. omega (arith, h))) (λ e. omega (arith, h))

test_true : {A : Type 0} (b : Bool) (x y : A) → cond b (Some x) None ≡ Some y → b ≡ true
test_true true x y e = refl
test_true false x y e = absurd (none-some _ e)

characters_short : (bytes text : List ℕ) → characters bytes ≡ Some text → length text ≤ length bytes
characters_short bytes text e =
    let tests = and_parts (is_utf8 bytes) (list_all is_char (chars bytes)) (test_true _ _ _ e) in
    let same : chars bytes ≡ text = when_some _ _ _ e in
    let spelled = ap length (encodes-chars bytes (IsUtf8-from_is_utf8 bytes tests.0)) in
    subst (λ (x : List ℕ). length x ≤ length bytes) same (omega (arith, length-le-encodes (chars bytes), spelled))

else_either : {A : Type 0} (P : A → Type 0) (x z : Option A) (y : A) → or_else x z ≡ Some y → (x ≡ Some y → P y) → (z ≡ Some y → P y) → P y
else_either P None z y e h k = k e
else_either P (Some x) z y e h k = h e

mapped_as : {A B : Type 0} (f : A → B) (o : Option A) (y : B) → option_map f o ≡ Some y → (a : A) × (f a ≡ y)
mapped_as f None y e = absurd (none-some _ e)
mapped_as f (Some a) y e = (a, same_Some (f a) y e)

tag_short : (make : Name → List Attribute → Item) (n : ℕ) → ((name : Name) (attributes : List Attribute) → item_size (make name attributes) ≤ n)
    → (text : List ℕ) (item : Item) → tag_of make text ≡ Some item → item_size item ≤ n
tag_short make n h text item e =
    let parts : List ℕ × List ℕ = span (λ c. continues_name c || nat_eq c 0x3A) (without_space_behind text) in
    let name = bind_some _ (name_of parts.0) item e in
    let pairs = bind_some _ (pairs_of most_attributes parts.1) item name.2 in
    let attributes = bind_some _ (each_of attribute_of pairs.0) item pairs.2 in
    subst (λ (x : Item). item_size x ≤ n) (same_Some (make name.0 attributes.0) item attributes.2) (h name.0 attributes.0)

character_short : (text : List ℕ) (item : Item) → character_of text ≡ Some item → item_size item ≤ length text
character_short [] item e = absurd (none-some _ e)
character_short (c ∷ []) item e =
    subst (λ (x : Item). item_size x ≤ 1) (when_some _ (character (cond (nat_eq c 0xD) 0xA c)) item e) (omega arith)
character_short (c ∷ d ∷ []) item e = subst (λ (x : Item). item_size x ≤ 2) (when_some _ (character 0xA) item e) (omega arith)
character_short (c ∷ d ∷ x ∷ cs) item e = absurd (none-some _ e)

has_one : (front back text inside : List ℕ) → length front ≡ 1 → between front back text ≡ Some inside → 1 ≤ length text
has_one front back [] inside o e = absurd (no_front front o e)
  where
    no_front : (start : List ℕ) → length start ≡ 1 → between start back [] ≡ Some inside → ⊥
    no_front [] o e = absurd (omega (arith, o))
    no_front (c ∷ cs) o e = none-some _ e
has_one front back (c ∷ text) inside o e = omega arith

abbrev IsShort : List ℕ → Item → Type 0
IsShort text item = item_size item ≤ length text

item_short : (kind : Kind) (text : List ℕ) (item : Item) → item_of kind text ≡ Some item → IsShort text item
item_short CommentKind text item e =
    let inside = bind_some _ (between (codes "<!--") (codes "-->") text) item e in
    subst (IsShort text) (when_some _ (comment (with_line_ends inside.0)) item inside.2) (omega arith)
item_short CdataKind text item e =
    let inside = bind_some _ (between (codes "<![CDATA[") (codes "]]>") text) item e in
    let short = between_short (codes "<![CDATA[") (codes "]]>") text inside.0 inside.1 in
    subst (IsShort text) (when_some _ (cdata (with_line_ends inside.0)) item inside.2) (let s = line_ends_short inside.0 in omega (arith, short, s))
item_short InstructionKind text item e =
    else_either (IsShort text) (between (codes "<?xml") (codes "?>") text >>= declaration_of) (between (codes "<?") (codes "?>") text >>= instruction_of) item e
    (λ f. declared text item f) (λ f. instructed text item f)
  where
    declared : (text : List ℕ) (item : Item) → (between (codes "<?xml") (codes "?>") text >>= declaration_of) ≡ Some item → IsShort text item
    declared text item f =
        let inside = bind_some _ (between (codes "<?xml") (codes "?>") text) item f in
        let pairs = bind_some _ (pairs_of 3 (without_space_behind inside.0)) item inside.2 in
        subst (IsShort text) (when_some _ declaration item pairs.2) (omega arith)

    instructed : (text : List ℕ) (item : Item) → (between (codes "<?") (codes "?>") text >>= instruction_of) ≡ Some item → IsShort text item
    instructed text item f =
        let inside = bind_some _ (between (codes "<?") (codes "?>") text) item f in
        let parts : List ℕ × List ℕ = span (λ c. not (is_white c)) inside.0 in
        subst (IsShort text) (when_some _ (instruction parts.0 (with_line_ends (span is_white parts.1).1)) item inside.2) (omega arith)
item_short EndTagKind text item e =
    let inside = bind_some _ (between (codes "</") (codes ">") text) item e in
    let name = mapped_as end_tag (name_of (without_space_behind inside.0)) item inside.2 in
    subst (IsShort text) name.1 (omega arith)
item_short TagKind text item e =
    else_either (IsShort text) (between (codes "<") (codes "/>") text >>= tag_of empty_tag) (between (codes "<") (codes ">") text >>= tag_of start_tag) item e
    (λ f. let inside = bind_some _ (between (codes "<") (codes "/>") text) item f in tag_short empty_tag (length text) (λ name attributes. omega arith) inside.0 item inside.2)
    (λ f. let inside = bind_some _ (between (codes "<") (codes ">") text) item f in tag_short start_tag (length text) (λ name attributes. omega arith) inside.0 item inside.2)
item_short ReferenceKind text item e =
    let inside = bind_some _ (between (codes "&") (codes ";") text) item e in
    let c = mapped_as reference (referred inside.0) item inside.2 in
    let one = has_one (codes "&") (codes ";") text inside.0 refl inside.1 in
    subst (IsShort text) c.1 (omega (arith, one))
item_short CharacterKind text item e = character_short text item e

piece_short : (bytes : List ℕ) (found : Piece × List ℕ) → piece_at bytes ≡ Some found → item_size found.0.item ≤ length found.0.text
unfolding piece_at
piece_short bytes found e =
    let text = bind_some _ (characters (cut (kind_at bytes) bytes).0) found e in
    let item = bind_some _ (item_of (kind_at bytes) text.0) found text.2 in
    let a = item_short (kind_at bytes) text.0 item.0 item.1 in
    let b = characters_short (cut (kind_at bytes) bytes).0 text.0 text.1 in
    subst (λ (x : Piece × List ℕ). item_size x.0.item ≤ length x.0.text) (same_Some _ found item.2) (omega (arith, a, b))

legal_short : (most : Limits) (before : List Item) (bytes : List ℕ) (found : Piece × List ℕ) → legal_within most before bytes ≡ Some found → item_size found.0.item ≤ length found.0.text
legal_short most before bytes found e =
    let outer = bind_some _ (legal before bytes) found e in
    let inner = bind_some _ (piece_at bytes) outer.0 outer.1 in
    let P : Piece × List ℕ → Type 0 = λ x. item_size x.0.item ≤ length x.0.text in
    subst P (when_some _ outer.0 found outer.2) (subst P (when_some _ inner.0 outer.0 inner.2) (piece_short bytes inner.0 inner.1))

-- Documents.

abbrev RunShort : List Item → List ℕ → Run → Type 0
RunShort before bytes run = items_size run.before + length run.rest ≤ items_size before + length bytes

run_short : (most : Limits) (n : ℕ) (before : List Item) (bytes : List ℕ) → RunShort before bytes (run_of most n before bytes)
run_short most zero before bytes = omega arith
run_short most (suc n) before bytes = by_option (RunShort before bytes) _ (legal_within most before bytes) (stopped before bytes)
    (λ found e. let a = legal_short most before bytes found e in
    let b = ap length (legal_within_joins most before bytes found e) in
    let c = run_short most n (found.0.item ∷ before) found.1 in
    omega (arith, a, b, c, length-append found.0.text found.1))
    (λ e. omega arith)

pub document_texts : (bytes : List ℕ) → length (texts (document_of bytes)) ≤ length bytes
unfolding document_of
document_texts bytes =
    let r : Run = run_of limits (length bytes) [] bytes in
    let a = run_short limits (length bytes) [] bytes in
    let b = tree_texts r.before in omega (arith, a, b)

-- Parts of documents.

mutual
  kept_texts : (test : List Tag → Path → Node → Bool) (outer : List Tag) (path : Path) (k : ℕ) (nodes : Nodes) → length (texts (kept test outer path k nodes)) ≤ length (texts nodes)
  kept_texts test outer path k no_nodes = omega arith
  kept_texts test outer path k (node ⨾ nodes) =
      let here = path ++ k ∷ [] in
      let a = kept_node_texts test outer here node in
      let b = kept_texts test outer path (suc k) nodes in
      by_test (λ (x : Nodes). length (texts x) ≤ length (text_below node ++ texts nodes)) (test outer here node)
      (kept_node test outer here node ⨾ kept test outer path (suc k) nodes) (kept test outer path (suc k) nodes)
      (λ e. omega (arith, a, b, length-append (text_below node) (texts nodes), length-append (text_below (kept_node test outer here node)) (texts (kept test outer path (suc k) nodes))))
      (λ e. omega (arith, b, length-append (text_below node) (texts nodes)))

  kept_node_texts : (test : List Tag → Path → Node → Bool) (outer : List Tag) (path : Path) (node : Node) → length (text_below (kept_node test outer path node)) ≤ length (text_below node)
  kept_node_texts test outer path (Element name attributes nodes) = kept_texts test (record { name = name; attributes = attributes } ∷ outer) path 0 nodes
  kept_node_texts test outer path (Text cs) = omega arith
  kept_node_texts test outer path (Comment cs) = omega arith
  kept_node_texts test outer path (Instruction target content) = omega arith

nth_texts : (k : ℕ) (nodes : Nodes) (node : Node) → nth k nodes ≡ Some node → length (text_below node) ≤ length (texts nodes)
nth_texts k no_nodes node e = absurd (none-some _ e)
nth_texts zero (first ⨾ nodes) node e =
    subst (λ (x : Node). length (text_below x) ≤ length (text_below first ++ texts nodes)) (same_Some first node e) (omega (arith, length-append (text_below first) (texts nodes)))
nth_texts (suc k) (first ⨾ nodes) node e = let a = nth_texts k nodes node e in omega (arith, a, length-append (text_below first) (texts nodes))

below_texts : (node : Node) → length (texts (below node)) ≤ length (text_below node)
below_texts (Element name attributes nodes) = omega arith
below_texts (Text cs) = omega arith
below_texts (Comment cs) = omega arith
below_texts (Instruction target content) = omega arith

descend_texts : (path : Path) (top node : Node) → descend path top ≡ Some node → length (text_below node) ≤ length (text_below top)
descend_texts [] top node e = subst (λ (x : Node). length (text_below x) ≤ length (text_below top)) (same_Some top node e) (omega arith)
descend_texts (k ∷ path) top node e =
    let next = bind_some _ (nth k (below top)) node e in
    let a = descend_texts path next.0 node next.2 in
    let b = nth_texts k (below top) next.0 next.1 in omega (arith, a, b, below_texts top)

at_texts : (document : Nodes) (path : Path) (node : Node) → node_at document path ≡ Some node → length (text_below node) ≤ length (texts document)
at_texts document [] node e = absurd (none-some _ e)
at_texts document (k ∷ path) node e =
    let top = bind_some _ (nth k document) node e in
    let a = descend_texts path top.0 node top.2 in
    let b = nth_texts k document top.0 top.1 in omega (arith, a, b)

alone_texts : (test : List Tag → Path → Node → Bool) (outer : List Tag) (path : Path) (node : Node) → length (texts (apex_alone test outer path node)) ≤ length (text_below node)
alone_texts test outer path node =
    let a = kept_node_texts test outer path node in
    by_test (λ (x : Nodes). length (texts x) ≤ length (text_below node)) (test outer path node) (kept_node test outer path node ⨾ no_nodes) no_nodes
    (λ e. omega (arith, a, length-append (text_below (kept_node test outer path node)) [])) (λ e. omega arith)

pub part_texts : (set : NodeSet) (document : Nodes) → length (texts (part set document)) ≤ length (texts document)
part_texts set document = by_path set.apex
  where
    by_path : (path : Path) → length (texts (part_from (has_in set) path document)) ≤ length (texts document)
    by_path [] = kept_texts (has_in set) [] [] 0 document
    by_path (k ∷ path) = by_option (λ (x : Nodes). length (texts x) ≤ length (texts document)) (apex_alone (has_in set) (elements_around document (k ∷ path)) (k ∷ path))
        (node_at document (k ∷ path)) no_nodes
        (λ node e. let a = alone_texts (has_in set) (elements_around document (k ∷ path)) (k ∷ path) node in let b = at_texts document (k ∷ path) node e in omega (arith, a, b))
        (λ e. omega arith)
