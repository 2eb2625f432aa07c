-- The time-stamps that an iterator has left.
use Rattle.std.specs.Prelude.{List, filter}
use Rattle.doc_spans.specs.declared.documents.Doc.{Doc}
use Rattle.signature_model.specs.Spots.{Spot}
use Rattle.signature_model.specs.Parts.{is_stamp}
use Rattle.signature_parts.specs.declared.stamp_elements.StampElements.{StampElements}
use Rattle.signature_parts.specs.ListsLeft.{all_left}

-- the document whose elements they are
abbrev pub stamps_doc : StampElements → Doc
stamps_doc it = it.doc

abbrev pub stamps_left : StampElements → List Spot
stamps_left it = filter is_stamp (all_left it.properties)
