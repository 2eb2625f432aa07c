use Rattle.std.proofs.Common.{[], ◌∙◌, ap}
use Rattle.std.specs.Option.{option_map_or}
use Rattle.document_model.specs.Methods.{prefixes_of}
use Rattle.node_sets.specs.Scopes.{attribute_at}
use Rattle.canon_methods.proofs.Named.{prefix_list_text}
use Rattle.canon_methods.proofs.methods.prefix_list.Goals as goal

pub returns-in-Some : goal.returns-in-Some
returns-in-Some c =
    c.of_list.ensures ∙ ap (λ o. option_map_or prefixes_of o []) (c.in-Some.ensures ∙ ap (attribute_at c.args.doc c.args.node) prefix_list_text)

pub returns-in-None : goal.returns-in-None
returns-in-None c =
    c.none.ensures ∙ ap (λ o. option_map_or prefixes_of o []) (c.in-None.ensures ∙ ap (attribute_at c.args.doc c.args.node) prefix_list_text)
