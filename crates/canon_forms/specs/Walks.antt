-- What is written of the nodes of a document in memory.
use Rattle.std.specs.Prelude.{ℕ, Bool, false, not, ◌||◌, List, [], encode_utf8_all}
use Rattle.std.specs.Option.{option_map_or}
use Rattle.document_model.specs.Tree.{Node, Path}
use Rattle.document_model.specs.Scopes.{elements_around}
use Rattle.document_model.specs.NodeSets.{NodeSet, has_in, is_comment, kept_node}
use Rattle.document_model.specs.Canonical.{Around, node_text}
use Rattle.doc_spans.specs.declared.documents.Doc.{Doc}
use Rattle.doc_spans.specs.declared.documents.NodeId.{NodeId}
use Rattle.doc_spans.specs.Seen.{document_in, path_in, node_in}
use Rattle.node_sets.specs.Sets.{set_in, doc_in}
use Rattle.canon_methods.specs.Rules.{rule_in}
use Rattle.canon_forms.specs.declared.walks.Walk.{Walk}
use Rattle.canon_forms.specs.Writing.{Test, is_element, held_top_text, apex_text, leaf_text}

abbrev pub doc_of : Walk → Doc
doc_of walk = doc_in walk.set

abbrev pub held_in : Walk → NodeSet
held_in walk = set_in walk.set

abbrev pub test_in : Walk → Test
test_in walk = has_in (held_in walk)

-- a node of the document by its path, where there is one
abbrev pub by_node : {A : Type 0} → (Path → Node → A) → A → Doc → NodeId → A
by_node f default doc node = option_map_or (f (path_in doc node)) (node_in doc node) default

-- whether the set holds the node
abbrev pub holds : Walk → NodeId → Bool
holds walk node = by_node (test_in walk []) false (doc_of walk) node

-- whether it is no comment, or the set has comments
abbrev pub keeps_kind : Walk → NodeId → Bool
keeps_kind walk node = by_node (λ path n. (held_in walk).comments || not (is_comment n)) false (doc_of walk) node

abbrev pub element_in : Doc → NodeId → Bool
element_in doc node = by_node (λ path n. is_element n) false doc node

-- the octets of a node with what of it the set holds
abbrev pub written_in : Walk → Around → NodeId → List ℕ
written_in walk around node = encode_utf8_all (by_node (λ path n. node_text (rule_in walk.rule) around (kept_node (test_in walk) [] path n)) [] (doc_of walk) node)

-- the same of a node that no element holds, where the set holds it
abbrev pub written_top : Walk → Bool → NodeId → List ℕ
written_top walk behind node = encode_utf8_all (by_node (held_top_text (rule_in walk.rule) (test_in walk) behind) [] (doc_of walk) node)

-- of an apex, with the elements around it
abbrev pub written_apex : Walk → NodeId → List ℕ
written_apex walk node = let outer = elements_around (document_in (doc_of walk)) (path_in (doc_of walk) node) in
    encode_utf8_all (by_node (apex_text (rule_in walk.rule) (test_in walk) outer) [] (doc_of walk) node)

-- and of a node that isn't an element
abbrev pub leaf_in : Doc → NodeId → List ℕ
leaf_in doc node = encode_utf8_all (by_node (λ path n. leaf_text n) [] doc node)
