-- What a name in memory means: Namespaces in XML 1.0, "Basic Concepts".
use Rattle.std.specs.Str.{chars}
use Rattle.document_model.specs.Names.{Expanded}
use Rattle.signature_elements.specs.declared.names.ElementName.{ElementName}

abbrev pub expanded : ElementName → Expanded
expanded name = record { space = chars name.space.now; local = chars name.local.now }
