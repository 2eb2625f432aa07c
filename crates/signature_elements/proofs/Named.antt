-- Names and attributes of an element by its spot are those of its node.
use Rattle.std.proofs.Common.{true, false, ◌≡◌, ℕ, List, [], ◌∷◌, Option, Some, None, refl, sym, ◌∙◌, ap}
use Rattle.std.proofs.lemmas.Str.{chars-IsAscii, chars-nil}
use Rattle.std.specs.Prelude.{option_map, option_and_then}
use Rattle.std.specs.Option.{option_map_or}
use Rattle.std.specs.Str.{chars}
use Rattle.document_model.specs.Names.{Expanded, same_expanded}
use Rattle.document_model.specs.Tree.{Node, Element, Text, Comment, Instruction}
use Rattle.document_model.specs.Scopes.{Tag, element_name, elements_around, value_among}
use Rattle.xml_items.proofs.AsciiTexts.{ascii_from}
use Rattle.doc_spans.specs.declared.documents.Doc.{Doc}
use Rattle.doc_spans.specs.declared.documents.NodeId.{NodeId}
use Rattle.doc_spans.specs.declared.rows.Kind.{Kind}
use Rattle.doc_spans.specs.declared.rows.Kind.TheVariants as kinds
use Rattle.doc_spans.specs.Seen.{document_in, path_in, node_in, tag_of, tag_of_node}
use Rattle.doc_spans.specs.Shown.{kind_of}
use Rattle.doc_spans.proofs.Elements.{element_of}
use Rattle.doc_spans.proofs.Outward.{own_tag}
use Rattle.node_sets.specs.Scopes.{scope_of, named_at, attribute_at, named}
use Rattle.node_sets.proofs.InScope.{named_of, attribute_of}
use Rattle.signature_model.specs.Spots.{is_called, name_in, attribute, attributes_in}
use Rattle.signature_model.specs.Vocabulary.{ds_space, xades_space, xadesv141_space}
use Rattle.signature_elements.specs.Standing.{spot_of, is_element, IsElement}

-- an element has a tag
pub record Tagged (doc : Doc) (node : NodeId) : Type 0 where
  pub tag : Tag
  pub is : Some tag ≡ tag_of doc node
  pub scope : scope_of doc node ≡ tag ∷ elements_around (document_in doc) (path_in doc node)

kind_code : Option Kind → ℕ
kind_code None = 0
kind_code (Some kinds.Element) = 1
kind_code (Some kinds.Text) = 2
kind_code (Some kinds.Comment) = 3
kind_code (Some kinds.Pi) = 4

some_tag : (found : Option Node) → option_map kind_of found ≡ Some kinds.Element → (tag : Tag) × (Some tag ≡ option_and_then tag_of_node found)
some_tag None e = (let n = ap kind_code e in cc)
some_tag (Some (Element name attributes nodes)) e = (record { name = name; attributes = attributes }, refl)
some_tag (Some (Text cs)) e = (let n = ap kind_code e in cc)
some_tag (Some (Comment cs)) e = (let n = ap kind_code e in cc)
some_tag (Some (Instruction target content)) e = (let n = ap kind_code e in cc)

pub tagged : (doc : Doc) (node : NodeId) → IsElement doc node → Tagged doc node
tagged doc node h =
    let t = some_tag (node_in doc node) h in
    let e = element_of (node_in doc node) t.0 t.1 in
    record { tag = t.0; is = t.1; scope = own_tag (document_in doc) (path_in doc node) _ e.is }

pub called_at : (doc : Doc) (node : NodeId) (name : Expanded) → IsElement doc node → named_at doc node name ≡ is_called name (spot_of doc node)
called_at doc node name h =
    let t = tagged doc node h in
    sym (named_of doc node t.tag name t.is)
    ∙ ap (λ tags. same_expanded name (element_name tags t.tag.name)) t.scope
    ∙ sym (ap (λ tags. same_expanded name (name_in tags)) t.scope)

pub attribute_there : (doc : Doc) (node : NodeId) (local : List ℕ) → IsElement doc node → attribute_at doc node (named [] local) ≡ attribute (chars local) (spot_of doc node)
attribute_there doc node local h =
    let t = tagged doc node h in
    let name : Expanded = record { space = []; local = chars local } in
    ap (λ space. attribute_at doc node (record { space = space; local = chars local })) chars-nil
    ∙ sym (attribute_of doc node t.tag name t.is)
    ∙ ap (λ tags. value_among tags name t.tag.attributes) t.scope
    ∙ sym (ap (λ tags. value_among tags name (attributes_in tags)) t.scope)

-- Texts of the namespace names.

pub ds_text : chars ds_space ≡ ds_space
ds_text = chars-IsAscii ds_space (ascii_from ds_space refl)

pub xades_text : chars xades_space ≡ xades_space
xades_text = chars-IsAscii xades_space (ascii_from xades_space refl)

pub xadesv141_text : chars xadesv141_space ≡ xadesv141_space
xadesv141_text = chars-IsAscii xadesv141_space (ascii_from xadesv141_space refl)

-- an element, by the test on its path
pub element_from : (found : Option Node) → option_map_or is_element found false ≡ true → option_map kind_of found ≡ Some kinds.Element
element_from None e = cc
element_from (Some (Element name attributes nodes)) e = refl
element_from (Some (Text cs)) e = cc
element_from (Some (Comment cs)) e = cc
element_from (Some (Instruction target content)) e = cc
