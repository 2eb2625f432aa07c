-- Nodes in octets, piece by piece.
use Rattle.std.proofs.Common.{◌≡◌, ℕ, List, [], ◌∷◌, ◌++◌, refl, sym, ◌∙◌, ap, append_assoc, codes}
use Rattle.std.proofs.lemmas.List.{append-nil}
use Rattle.std.proofs.lemmas.Str.{encodes-append}
use Rattle.std.specs.Prelude.{encode_utf8_all, flat_map}
use Rattle.document_model.specs.Canonical.{value_character, text_character, attribute_text}
use Rattle.document_model.specs.Items.{Attribute}
use Rattle.document_model.specs.Names.{Name, spelled}
use Rattle.document_model.specs.Tree.{Node, Nodes, Element, Text, Comment, Instruction, no_nodes, ◌⨾◌, joined}
use Rattle.signature_model.specs.Fragments.{written, written_node, written_octets}
use Rattle.signature_drafts.specs.Properties.{attributes_octets}

abbrev pub quoted : List ℕ → List ℕ
quoted value = encode_utf8_all (flat_map value_character value)

-- a node before others
pub behind_octets : (node : Node) (nodes : Nodes) → written_octets (node ⨾ nodes) ≡ written_octets (node ⨾ no_nodes) ++ written_octets nodes
behind_octets node nodes =
    encodes-append (written_node node) (written nodes)
    ∙ ap (λ x. encode_utf8_all x ++ written_octets nodes) (sym (append-nil (written_node node)))

front_octets : (node : Node) (nodes b : Nodes) → written_octets (joined nodes b) ≡ written_octets nodes ++ written_octets b → written_octets (node ⨾ joined nodes b) ≡ written_octets (node ⨾ nodes) ++ written_octets b
front_octets node nodes b e =
    behind_octets node (joined nodes b)
    ∙ ap (λ x. written_octets (node ⨾ no_nodes) ++ x) e
    ∙ sym (append_assoc (written_octets (node ⨾ no_nodes)) (written_octets nodes) (written_octets b))
    ∙ ap (λ x. x ++ written_octets b) (sym (behind_octets node nodes))

text_joined : (cs ds : List ℕ) → flat_map text_character (cs ++ ds) ≡ flat_map text_character cs ++ flat_map text_character ds
text_joined [] ds = refl
text_joined (c ∷ cs) ds = ap (λ x. text_character c ++ x) (text_joined cs ds) ∙ sym (append_assoc (text_character c) (flat_map text_character cs) (flat_map text_character ds))

-- The texts of tags.
abbrev pub begin_octets : Name → List ℕ
begin_octets name = encode_utf8_all (codes "<" ++ spelled name)

abbrev pub end_octets : Name → List ℕ
end_octets name = encode_utf8_all (codes "</" ++ spelled name ++ codes ">")

abbrev pub attribute_octets : Attribute → List ℕ
attribute_octets a = encode_utf8_all (codes " " ++ spelled a.name ++ codes "=\"") ++ (quoted a.value ++ encode_utf8_all (codes "\""))

abbrev texts_of : List Attribute → List ℕ
texts_of attributes = flat_map (λ a. attribute_text (spelled a.name) a.value) attributes

abbrev pub each_attribute : List Attribute → List ℕ → List ℕ
each_attribute [] rest = rest
each_attribute (a ∷ attributes) rest = encode_utf8_all (codes " " ++ spelled a.name ++ codes "=\"") ++ (quoted a.value ++ (encode_utf8_all (codes "\"") ++ each_attribute attributes rest))

attribute_is : (name value : List ℕ) → encode_utf8_all (attribute_text name value) ≡ encode_utf8_all (codes " " ++ name ++ codes "=\"") ++ (quoted value ++ encode_utf8_all (codes "\""))
attribute_is name value =
    encodes-append (codes " " ++ name ++ codes "=\"" ++ flat_map value_character value) (codes "\"")
    ∙ ap (λ x. x ++ encode_utf8_all (codes "\"")) (encodes-append (codes " " ++ name ++ codes "=\"") (flat_map value_character value))
    ∙ append_assoc (encode_utf8_all (codes " " ++ name ++ codes "=\"")) (quoted value) (encode_utf8_all (codes "\""))

each_is : (attributes : List Attribute) (rest : List ℕ) → encode_utf8_all (texts_of attributes) ++ rest ≡ each_attribute attributes rest
each_is [] rest = refl
each_is (a ∷ attributes) rest =
    let front : List ℕ = encode_utf8_all (codes " " ++ spelled a.name ++ codes "=\"") in
    ap (λ x. x ++ rest) (encodes-append (attribute_text (spelled a.name) a.value) (texts_of attributes)
    ∙ ap (λ x. x ++ encode_utf8_all (texts_of attributes)) (attribute_is (spelled a.name) a.value))
    ∙ append_assoc (front ++ (quoted a.value ++ encode_utf8_all (codes "\""))) (encode_utf8_all (texts_of attributes)) rest
    ∙ append_assoc front (quoted a.value ++ encode_utf8_all (codes "\"")) (encode_utf8_all (texts_of attributes) ++ rest)
    ∙ ap (λ x. front ++ x) (append_assoc (quoted a.value) (encode_utf8_all (codes "\"")) (encode_utf8_all (texts_of attributes) ++ rest)
    ∙ ap (λ x. quoted a.value ++ (encode_utf8_all (codes "\"") ++ x)) (each_is attributes rest))

-- an element by its tags and what it holds
pub element_octets : (name : Name) (attributes : List Attribute) (inner : Nodes)
    → written_octets (Element name attributes inner ⨾ no_nodes)
    ≡ begin_octets name ++ each_attribute attributes (encode_utf8_all (codes ">") ++ (written_octets inner ++ end_octets name))
element_octets name attributes inner =
    ap encode_utf8_all (append-nil (written_node (Element name attributes inner)) ∙ regroup (spelled name) (texts_of attributes) (written inner))
    ∙ encodes-append (codes "<" ++ spelled name) (texts_of attributes ++ (codes ">" ++ (written inner ++ (codes "</" ++ spelled name ++ codes ">"))))
    ∙ ap (λ x. begin_octets name ++ x) (
    encodes-append (texts_of attributes) (codes ">" ++ (written inner ++ (codes "</" ++ spelled name ++ codes ">")))
    ∙ ap (λ x. encode_utf8_all (texts_of attributes) ++ x) (encodes-append (codes ">") (written inner ++ (codes "</" ++ spelled name ++ codes ">"))
    ∙ ap (λ x. encode_utf8_all (codes ">") ++ x) (encodes-append (written inner) (codes "</" ++ spelled name ++ codes ">")))
    ∙ each_is attributes (encode_utf8_all (codes ">") ++ (written_octets inner ++ end_octets name)))
  where
    regroup : (n a b : List ℕ) → codes "<" ++ n ++ a ++ codes ">" ++ b ++ codes "</" ++ n ++ codes ">" ≡ (codes "<" ++ n) ++ (a ++ (codes ">" ++ (b ++ (codes "</" ++ n ++ codes ">"))))
    regroup n a b = simp append_assoc

-- nodes before others
pub joined_octets : (a b : Nodes) → written_octets (joined a b) ≡ written_octets a ++ written_octets b
joined_octets no_nodes b = refl
joined_octets (Element name attributes inner ⨾ nodes) b = front_octets (Element name attributes inner) nodes b (joined_octets nodes b)
joined_octets (Comment cs ⨾ nodes) b = front_octets (Comment cs) nodes b (joined_octets nodes b)
joined_octets (Instruction target content ⨾ nodes) b = front_octets (Instruction target content) nodes b (joined_octets nodes b)
joined_octets (Text cs ⨾ next ⨾ nodes) b = front_octets (Text cs) (next ⨾ nodes) b (joined_octets (next ⨾ nodes) b)
joined_octets (Text cs ⨾ no_nodes) no_nodes = front_octets (Text cs) no_nodes no_nodes refl
joined_octets (Text cs ⨾ no_nodes) (Element name attributes inner ⨾ added) = front_octets (Text cs) no_nodes (Element name attributes inner ⨾ added) refl
joined_octets (Text cs ⨾ no_nodes) (Comment ds ⨾ added) = front_octets (Text cs) no_nodes (Comment ds ⨾ added) refl
joined_octets (Text cs ⨾ no_nodes) (Instruction target content ⨾ added) = front_octets (Text cs) no_nodes (Instruction target content ⨾ added) refl
joined_octets (Text cs ⨾ no_nodes) (Text ds ⨾ added) =
    ap (λ x. encode_utf8_all (x ++ written added)) (text_joined cs ds)
    ∙ ap encode_utf8_all (append_assoc (flat_map text_character cs) (flat_map text_character ds) (written added))
    ∙ encodes-append (flat_map text_character cs) (written (Text ds ⨾ added))
    ∙ ap (λ x. encode_utf8_all x ++ written_octets (Text ds ⨾ added)) (sym (append-nil (flat_map text_character cs)))

-- declarations before further attributes
pub each_joined : (a b : List Attribute) (rest : List ℕ) → each_attribute (a ++ b) rest ≡ attributes_octets a ++ each_attribute b rest
each_joined a b rest = split a b rest ∙ sym (each_is a (each_attribute b rest))
  where
    split : (a b : List Attribute) (rest : List ℕ) → each_attribute (a ++ b) rest ≡ each_attribute a (each_attribute b rest)
    split [] b rest = refl
    split (x ∷ a) b rest = ap (λ y. encode_utf8_all (codes " " ++ spelled x.name ++ codes "=\"") ++ (quoted x.value ++ (encode_utf8_all (codes "\"") ++ y))) (split a b rest)

-- Bytes that are appended one after another.

abbrev pub pushed : List ℕ → List (List ℕ) → List ℕ
pushed out [] = out
pushed out (piece ∷ pieces) = pushed (out ++ piece) pieces

abbrev pub joins : List (List ℕ) → List ℕ
joins [] = []
joins (piece ∷ pieces) = piece ++ joins pieces

pub pushed_is : (out : List ℕ) (pieces : List (List ℕ)) → pushed out pieces ≡ out ++ joins pieces
pushed_is out [] = sym (append-nil out)
pushed_is out (piece ∷ pieces) = pushed_is (out ++ piece) pieces ∙ append_assoc out piece (joins pieces)

-- one more piece behind what stands
pub one_more : (s t piece whole : List ℕ) → s ≡ whole → t ≡ s ++ piece → t ≡ whole ++ piece
one_more s t piece whole f g = g ∙ ap (λ x. x ++ piece) f

-- the pieces that were put are the octets of some nodes
pub put_whole : (out last piece : List ℕ) (pieces : List (List ℕ)) (nodes : Nodes) → last ++ piece ≡ pushed out pieces → written_octets nodes ≡ joins pieces → last ++ piece ≡ out ++ written_octets nodes
put_whole out last piece pieces nodes f e = f ∙ pushed_is out pieces ∙ ap (λ x. out ++ x) (sym e)
