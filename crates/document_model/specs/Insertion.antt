-- Content that is put in: on the tree, on the bytes, and what stays.
use Rattle.std.specs.Prelude.{◌≡◌, ℕ, suc, ◌-◌, ◌<◌, Bool, true, false, ◌&&◌, IsTrue, IsFalse, if◌then◌else◌, List, [], ◌∷◌, ◌++◌, length, take, drop, codes, encode_utf8_all}
use Rattle.document_model.specs.Names.{Name, spelled}
use Rattle.document_model.specs.Items.{Attribute, Item, Piece, start_tag, empty_tag, end_tag}
use Rattle.document_model.specs.Tree.{Nodes, Element, no_nodes, ◌⨾◌, Path, put_last, IsElementAt, last_path, depth, tree_after, content_after}
use Rattle.document_model.specs.Characters.{◌is◌}
use Rattle.document_model.specs.Documents.{run, limits}
use Rattle.document_model.specs.Places.{path_of}
use Rattle.document_model.specs.Scopes.{Tag, tags_at, is_named}
use Rattle.document_model.specs.NodeSets.{NodeSet, signature_name, reaches, part, identified, target_of}
use Rattle.document_model.specs.Canonical.{Form, text_of}

-- b is a with bytes put in: each byte of a stands in b, in its order and unchanged
pub data Extends : List ℕ → List ℕ → Type 0 where
  nothing : Extends [] []
  kept_byte : {x : ℕ} {a b : List ℕ} → Extends a b → Extends (x ∷ a) (x ∷ b)
  new_byte : {x : ℕ} {a b : List ℕ} → Extends a b → Extends a (x ∷ b)

-- the path is the document or names an element
abbrev pub IsWholeOrElement : Nodes → Path → Type 0
IsWholeOrElement document [] = Unit {0}
IsWholeOrElement document (k ∷ path) = IsElementAt document (k ∷ path)

-- a set holds the same of two documents, and has the same canonical text of them, by each form
abbrev pub SameIn : NodeSet → Nodes → Nodes → Type 0
SameIn set a b = (part set a ≡ part set b) × ((form : Form) → text_of form set a ≡ text_of form set b)

-- The law: where content is put in as the last children of an element that a node set of the whole document, or with an element as apex,
-- doesn't reach, the set stays the same.
abbrev pub KeepsTexts : Type 0
KeepsTexts = (set : NodeSet) (document added : Nodes) (host : Path)
    → IsElementAt document host → IsWholeOrElement document set.apex → IsFalse (reaches set document host)
    → SameIn set (put_last added host document) document

-- the nodes are signatures, with elements around them
abbrev pub AreSignatures : List Tag → Nodes → Type 0
AreSignatures outer no_nodes = Unit {0}
AreSignatures outer (Element name attributes inner ⨾ nodes) =
    IsTrue (is_named outer signature_name (Element name attributes inner)) × AreSignatures outer nodes
AreSignatures outer (node ⨾ nodes) = ⊥

-- The law: a set without signatures stays the same wherever content that is signatures is put in.
abbrev pub KeepsTextsBeside : Type 0
KeepsTextsBeside = (set : NodeSet) (document added : Nodes) (host : Path)
    → IsElementAt document host → IsWholeOrElement document set.apex → IsFalse set.signatures → AreSignatures (tags_at document host) added
    → SameIn set (put_last added host document) document

-- no attribute of the nodes is an identifier
abbrev pub HasNoIdentifiers : Nodes → Type 0
HasNoIdentifiers nodes = (value : List ℕ) (path : Path) (k : ℕ) → identified value path k nodes ≡ []

-- The law: content without identifiers changes no target.
abbrev pub KeepsTargets : Type 0
KeepsTargets = (document added : Nodes) (host : Path) (value : List ℕ) → IsElementAt document host → HasNoIdentifiers added
    → target_of value (put_last added host document) ≡ target_of value document

-- Items that stand whole inside an element: none closes more than they opened. The last one stands first.
abbrev pub StandInside : List Item → Type 0
StandInside [] = Unit {0}
StandInside (end_tag name ∷ items) = (0 < depth items) × StandInside items
StandInside (item ∷ items) = StandInside items

-- The law: where items that stand whole inside an element are put in before its end tag, the tree of all the items is the old tree with
-- their nodes as last children of that element. All lists have the last item first.
abbrev pub PutsLast : Type 0
PutsLast = (front new behind : List Item) (name : Name) (d : ℕ)
    → depth front ≡ suc d → StandInside front → StandInside new → depth new ≡ 0
    → tree_after (behind ++ (end_tag name ∷ (new ++ front)))
    ≡ put_last (content_after new) (last_path (suc d) (tree_after front)) (tree_after (behind ++ (end_tag name ∷ front)))

-- And an empty tag has the tree of a start tag with its end tag.
abbrev pub OpensTag : Type 0
OpensTag = (front behind : List Item) (name other : Name) (attributes : List Attribute)
    → tree_after (behind ++ (empty_tag name attributes ∷ front)) ≡ tree_after (behind ++ (end_tag other ∷ start_tag name attributes ∷ front))

-- The bytes. The item that closes an element, with content put in front of it: of an empty tag, `>`, the content and `<` stand before its
-- `/`, and the element's name after it.
abbrev pub with_content : List ℕ → List ℕ → Item → List ℕ
with_content content text (empty_tag name attributes) = let slash = drop (length text - 2) text in
    take (length text - 2) text ++ codes ">" ++ content ++ codes "<" ++ take 1 slash ++ encode_utf8_all (spelled name) ++ drop 1 slash
with_content content text item = content ++ text

abbrev pub may_close : Item → Bool
may_close (empty_tag name attributes) = true
may_close (end_tag name) = true
may_close item = false

-- pieces behind items, with content put into the element that a path names
abbrev pub pieces_with : List ℕ → Path → List Item → List Piece → List ℕ
pieces_with content host before [] = []
pieces_with content host before (piece ∷ pieces) =
    (if may_close piece.item && (path_of before piece.item is host) then with_content content piece.text piece.item else piece.text)
    ++ pieces_with content host (piece.item ∷ before) pieces

-- the bytes of a document with content put last into an element
abbrev pub put_inside : List ℕ → Path → List ℕ → List ℕ
put_inside content host bytes = pieces_with content host [] (run limits bytes).pieces ++ (run limits bytes).rest

-- The law: nothing of the document is changed.
abbrev pub OnlyAdds : Type 0
OnlyAdds = (content bytes : List ℕ) (host : Path) → Extends bytes (put_inside content host bytes)

-- The law: a document extends itself.
abbrev pub ExtendsItself : Type 0
ExtendsItself = (a : List ℕ) → Extends a a

-- The law: what extends a document that extends another one extends that one.
abbrev pub ExtendsThrough : Type 0
ExtendsThrough = (a b c : List ℕ) → Extends a b → Extends b c → Extends a c
