-- What a URI names, once an identifier has been looked up: XML Signature 1.1, "Same-Document URI-References".
use Rattle.std.specs.Prelude.{Bool, false, true, [], Option, None, Some, option_and_then}
use Rattle.document_model.specs.Tree.{Nodes}
use Rattle.document_model.specs.NodeSets.{NodeSet, Target, target_of}
use Rattle.doc_spans.specs.declared.documents.Doc.{Doc}
use Rattle.node_sets.specs.Answers.{answer_in, HasAnswer}
use Rattle.signature_model.specs.Chains.{Place, Document, Named, External, apex_of, set_at}
use Rattle.reference_chains.specs.declared.places.Place as code
use Rattle.reference_chains.specs.declared.places.Place.TheVariants as places

-- the document, the target of an identifier, or what is outside
pub data Found : Type 0 where
  Whole : Found
  Sought : (target : Target) → Found
  Outside : Found

abbrev pub found : Nodes → Place → Found
found document Document = Whole
found document (Named identifier) = Sought (target_of identifier document)
found document External = Outside

-- as it is kept in memory
abbrev pub found_in : Doc → code.Place → Found
found_in doc places.Document = Whole
found_in doc (places.Named answer) = Sought (answer_in doc answer)
found_in doc places.External = Outside

-- where it names an element, the document has this one
abbrev pub HasPlace : Doc → code.Place → Type 0
HasPlace doc places.Document = Unit {0}
HasPlace doc (places.Named answer) = HasAnswer doc answer
HasPlace doc places.External = Unit {0}

-- the nodes that are named, where they are one set
abbrev pub set_found : Found → Option NodeSet
set_found Whole = Some (set_at [])
set_found (Sought target) = option_and_then (λ path. Some (set_at path)) (apex_of target)
set_found Outside = None

abbrev pub is_outside : Found → Bool
is_outside Whole = false
is_outside (Sought target) = false
is_outside Outside = true
