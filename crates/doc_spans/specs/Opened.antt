-- Elements that are open, in the code.
use Rattle.std.specs.Prelude.{List, []}
use Rattle.document_model.specs.Scopes.{Tag}
use Rattle.doc_spans.specs.OpenTags.{tag_in}
use Rattle.doc_spans.specs.Stacked.{stacked}
use Rattle.doc_spans.specs.declared.opened.Opened.{Opened}

abbrev pub opened_tag : Opened → Tag
opened_tag o = tag_in o.tag

-- the innermost, which is the last one in the code, comes first
abbrev pub opened_in : List Opened → List Tag
opened_in os = stacked opened_tag [] os
