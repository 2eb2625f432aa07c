-- The prefixes that an element lists as `InclusiveNamespaces` does: Exclusive XML Canonicalization 1.0, "Use in XML Security".
use Rattle.std.specs.Prelude.{ℕ, List, [], codes}
use Rattle.std.specs.Option.{option_map_or}
use Rattle.document_model.specs.Methods.{prefixes_of}
use Rattle.doc_spans.specs.declared.documents.Doc.{Doc}
use Rattle.doc_spans.specs.declared.documents.NodeId.{NodeId}
use Rattle.node_sets.specs.Scopes.{attribute_at}

abbrev pub prefixes_listed : Doc → NodeId → List (List ℕ)
prefixes_listed doc node = option_map_or prefixes_of (attribute_at doc node (record { space = []; local = codes "PrefixList" })) []
