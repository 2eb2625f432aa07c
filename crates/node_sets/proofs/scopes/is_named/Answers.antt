use Rattle.std.proofs.Common.{◌≡◌, true, false, ◌&&◌, sym, ◌∙◌, ap}
use Rattle.std.specs.Str.{chars, bytes_eq}
use Rattle.document_model.specs.Scopes.{space_of, element_name}
use Rattle.doc_spans.specs.OpenTags.{tag_in}
use Rattle.doc_spans.specs.Pieces.{characters_left}
use Rattle.node_sets.specs.Scopes.{scope_of, named}
use Rattle.node_sets.proofs.InScope.{named_of, same_by_parts}
use Rattle.node_sets.proofs.scopes.is_named.Goals as goal

pub returns-then-same : goal.returns-then-same
returns-then-same c =
    let name = named c.args.space.now c.args.local.now in
    let tag = tag_in c.in-Some.tag in
    let other = element_name (scope_of c.args.doc c.args.node) tag.name in
    let space : characters_left c.of_value.result ≡ other.space =
    c.of_value.ensures ∙ c.space_of.ensures.value ∙ ap (λ p. space_of p (scope_of c.args.doc c.args.node)) (sym c.name_parts.ensures.prefix) in
    let local : true ≡ bytes_eq name.local other.local = c.if-same.ensures ∙ ap (bytes_eq (chars c.args.local.now)) (sym c.name_parts.ensures.local) in
    c.same-then-same.ensures ∙ (λ i. local i && bytes_eq (space i) name.space) ∙ same_by_parts name other ∙ named_of c.args.doc c.args.node tag name c.in-Some.ensures

pub returns-else-same : goal.returns-else-same
returns-else-same c =
    let name = named c.args.space.now c.args.local.now in
    let tag = tag_in c.in-Some.tag in
    let other = element_name (scope_of c.args.doc c.args.node) tag.name in
    let local : false ≡ bytes_eq name.local other.local = c.if-same.ensures ∙ ap (bytes_eq (chars c.args.local.now)) (sym c.name_parts.ensures.local) in
    c.if-same.false ∙ (λ i. local i && bytes_eq other.space name.space) ∙ same_by_parts name other ∙ named_of c.args.doc c.args.node tag name c.in-Some.ensures
