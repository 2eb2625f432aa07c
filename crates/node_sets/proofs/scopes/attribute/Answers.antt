use Rattle.std.proofs.Common.{◌∙◌, ap}
use Rattle.document_model.specs.Scopes.{value_among}
use Rattle.doc_spans.specs.OpenTags.{tag_in}
use Rattle.node_sets.specs.Scopes.{scope_of, named}
use Rattle.node_sets.proofs.InScope.{attribute_of}
use Rattle.node_sets.proofs.scopes.attribute.Goals as goal

pub returns-in-Some : goal.returns-in-Some
returns-in-Some c =
    let name = named c.args.space.now c.args.local.now in
    c.attribute_among.ensures ∙ ap (value_among (scope_of c.args.doc c.args.node) name) c.of.ensures ∙ attribute_of c.args.doc c.args.node (tag_in c.in-Some.tag) name c.in-Some.ensures
