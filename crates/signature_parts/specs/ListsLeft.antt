-- The elements that iterators over an element's elements have left, where the element may not exist.
use Rattle.std.specs.Prelude.{List, []}
use Rattle.std.specs.Option.{option_map_or}
use Rattle.doc_spans.specs.declared.documents.Doc.{Doc}
use Rattle.signature_model.specs.Spots.{Spot}
use Rattle.signature_elements.specs.ElementsLeft.{elements_left}
use Rattle.signature_elements.specs.NamedLeft.{called_left}
use Rattle.signature_parts.specs.declared.lists.NamedIn.{NamedIn}
use Rattle.signature_parts.specs.declared.lists.ElementsIn.{ElementsIn}

-- the document whose elements they are
abbrev pub named_doc : NamedIn → Doc
named_doc it = it.doc

abbrev pub named_left : NamedIn → List Spot
named_left it = option_map_or called_left it.held []

abbrev pub all_doc : ElementsIn → Doc
all_doc it = it.doc

abbrev pub all_left : ElementsIn → List Spot
all_left it = option_map_or elements_left it.held []
