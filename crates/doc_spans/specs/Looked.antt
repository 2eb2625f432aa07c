-- Declarations that are looked through.
use Rattle.std.specs.Prelude.{List}
use Rattle.document_model.specs.Items.{Attribute}
use Rattle.doc_spans.specs.declared.declarations.Declared.{Declared}
use Rattle.doc_spans.specs.Declarations.{nearest_first}

abbrev pub declared : Declared → List Attribute
declared ds = nearest_first ds.items.now
