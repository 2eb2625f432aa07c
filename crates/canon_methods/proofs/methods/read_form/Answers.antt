use Rattle.std.proofs.Common.{None, sym, ◌∙◌, ap}
use Rattle.std.specs.Option.{option_map_or}
use Rattle.document_model.specs.Methods.{form_named, prefixes_among}
use Rattle.doc_spans.specs.Pieces.{characters_left}
use Rattle.doc_spans.specs.Seen.{nodes_in}
use Rattle.node_sets.specs.Scopes.{scope_of, attribute_at}
use Rattle.canon_methods.proofs.Named.{algorithm_text, form_read}
use Rattle.canon_methods.proofs.methods.read_form.Goals as goal

pub returns-in-Some : goal.returns-in-Some
returns-in-Some c =
    c.form_of.ensures
    ∙ ap (λ prefixes. form_named prefixes (characters_left c.in-Some.name)) c.listed_prefixes.ensures
    ∙ ap (λ o. option_map_or (form_named (prefixes_among (scope_of c.args.doc c.args.method) (nodes_in c.args.doc c.args.method))) o None)
    (c.in-Some.ensures ∙ ap (attribute_at c.args.doc c.args.method) algorithm_text)
    ∙ sym (form_read c.args.doc c.args.method c.requires)

pub returns-in-None : goal.returns-in-None
returns-in-None c =
    ap (λ o. option_map_or (form_named (prefixes_among (scope_of c.args.doc c.args.method) (nodes_in c.args.doc c.args.method))) o None)
    (c.in-None.ensures ∙ ap (attribute_at c.args.doc c.args.method) algorithm_text)
    ∙ sym (form_read c.args.doc c.args.method c.requires)
