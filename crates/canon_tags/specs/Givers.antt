-- The elements around an apex that give it `xml:` attributes: Canonical XML 1.0, "Document Subsets".
use Rattle.std.specs.Prelude.{Bool, List, [], if◌then◌else◌}
use Rattle.document_model.specs.Canonical.{Rule, Inclusive, Exclusive}
use Rattle.doc_spans.specs.declared.opened.Opened.{Opened}

abbrev pub givers_by : Rule → Bool → List Opened → List Opened
givers_by Inclusive below tags = if below then [] else tags
givers_by (Exclusive prefixes) below tags = []
