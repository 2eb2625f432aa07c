-- The objects with qualifying properties that an iterator has left.
use Rattle.std.specs.Prelude.{List, filter}
use Rattle.doc_spans.specs.declared.documents.Doc.{Doc}
use Rattle.doc_spans.specs.Seen.{document_in}
use Rattle.signature_elements.specs.NamedLeft.{called_left}
use Rattle.signature_model.specs.Spots.{Spot}
use Rattle.signature_model.specs.Parts.{is_qualifying}
use Rattle.signature_parts.specs.declared.object_elements.QualifyingObjects.{QualifyingObjects}

-- the document whose elements they are
abbrev pub qualifying_doc : QualifyingObjects → Doc
qualifying_doc it = it.doc

abbrev pub qualifying_left : QualifyingObjects → List Spot
qualifying_left it = filter (is_qualifying (document_in it.doc)) (called_left it.objects)
