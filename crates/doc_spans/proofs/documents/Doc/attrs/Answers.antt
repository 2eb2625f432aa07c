use Rattle.std.proofs.Common.{◌∙◌, Some, None}
use Rattle.doc_spans.specs.OpenTags.{tag_in}
use Rattle.doc_spans.specs.Seen.{node_in}
use Rattle.doc_spans.proofs.Calls.{attributes_of_tag}
use Rattle.doc_spans.proofs.documents.Doc.attrs.Goals as goal

pub returns-in-Some : goal.returns-in-Some
returns-in-Some c = c.of.ensures ∙ attributes_of_tag (node_in c.args.self c.args.node) (Some (tag_in c.in-Some.tag)) c.in-Some.ensures

pub returns-in-None : goal.returns-in-None
returns-in-None c = c.none.ensures ∙ attributes_of_tag (node_in c.args.self c.args.node) None c.in-None.ensures
