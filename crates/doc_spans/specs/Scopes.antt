-- The elements around a place, in the code.
use Rattle.std.specs.Prelude.{List}
use Rattle.document_model.specs.Scopes.{Tag}
use Rattle.doc_spans.specs.Opened.{opened_in}
use Rattle.doc_spans.specs.declared.stacks.Scopes.{Scopes}

abbrev pub tags_around : Scopes → List Tag
tags_around scopes = opened_in scopes.tags.items
