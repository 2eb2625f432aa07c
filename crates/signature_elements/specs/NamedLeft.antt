-- The child elements with a name that an iterator has left.
use Rattle.std.specs.Prelude.{List, filter}
use Rattle.doc_spans.specs.declared.documents.Doc.{Doc}
use Rattle.signature_model.specs.Spots.{Spot, is_called}
use Rattle.signature_elements.specs.declared.named_elements.NamedElements.{NamedElements}
use Rattle.signature_elements.specs.Names.{expanded}
use Rattle.signature_elements.specs.ElementsLeft.{elements_left}

-- the document whose elements they are
abbrev pub called_doc : NamedElements → Doc
called_doc it = it.doc

abbrev pub called_left : NamedElements → List Spot
called_left it = filter (is_called (expanded it.name)) (elements_left it.elements)
