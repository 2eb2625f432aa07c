-- The child elements that an iterator has left.
use Rattle.std.specs.Prelude.{List, map}
use Rattle.doc_spans.specs.declared.documents.Doc.{Doc}
use Rattle.doc_spans.specs.Rest.{rest}
use Rattle.doc_spans.specs.Seen.{document_in, shown_in}
use Rattle.doc_spans.specs.Shown.{path_at}
use Rattle.signature_model.specs.Spots.{Spot}
use Rattle.signature_elements.specs.declared.child_elements.ChildElements.{ChildElements}
use Rattle.signature_elements.specs.Standing.{spots_at}

-- the document whose elements they are
abbrev pub elements_doc : ChildElements → Doc
elements_doc it = it.doc

abbrev pub elements_left : ChildElements → List Spot
elements_left it = spots_at (document_in it.doc) (map (path_at (shown_in it.doc)) (rest it.children))
