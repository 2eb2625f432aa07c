-- Declarations in the code.
use Rattle.std.specs.Prelude.{List, []}
use Rattle.std.specs.Str.{chars}
use Rattle.document_model.specs.Items.{Attribute}
use Rattle.document_model.specs.Canonical.{declared_as}
use Rattle.xml_items.specs.Found.{value_in}
use Rattle.doc_spans.specs.Stacked.{stacked}
use Rattle.doc_spans.specs.declared.declarations.Declaration.{Declaration}

abbrev pub declaration_in : Declaration → Attribute
declaration_in d = declared_as (chars d.prefix.now) (value_in (chars d.value.now))

-- the nearest, which is the last one in the code, comes first
abbrev pub nearest_first : List Declaration → List Attribute
nearest_first ds = stacked declaration_in [] ds
