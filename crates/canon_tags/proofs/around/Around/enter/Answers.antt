use Rattle.std.proofs.Common.{◌∙◌, ◌≡◌, ◌+◌, ◌∷◌, [], ap, length, take, map, arith, length-append}
use Rattle.document_model.specs.Canonical.{sorted, with_inherited}
use Rattle.doc_spans.specs.OpenTags.{tag_in}
use Rattle.canon_tags.specs.Around.{around_in}
use Rattle.doc_spans.specs.Declarations.{nearest_first}
use Rattle.canon_tags.specs.Entries.{entries_text, is_named_before, named, plain_ones}
use Rattle.doc_spans.specs.Opened.{opened_in}
use Rattle.canon_methods.specs.Rules.{rule_in}
use Rattle.doc_spans.specs.Scoped.{scope_of}
use Rattle.doc_spans.specs.Scopes.{tags_around}
use Rattle.canon_tags.specs.Texts.{texts_in}
use Rattle.canon_tags.proofs.AttributeTexts.{written_attributes}
use Rattle.canon_tags.proofs.Entering.{found_declarations, shared_scope, given_attributes}
use Rattle.canon_tags.proofs.around.Around.enter.Goals as goal

pub arrange-requires-clause-givers : goal.arrange-requires-clause-givers
arrange-requires-clause-givers c =
    let inner = c.in_ok-outside.ensures.inner in
    let n : length c.push.new.self.tags.items ≡ length c.args.self.now.scopes.tags.items + 1 = ap length inner.1 ∙ length-append c.args.self.now.scopes.tags.items (inner.0 ∷ []) in
    omega (arith, c.givers-givers.ensures.bound, n)

pub returns-clause-declarations : goal.returns-clause-declarations
returns-clause-declarations c =
    let self = c.args.self.now in
    found_declarations (rule_in c.args.rule.now) (around_in self) (tag_in c.args.tag) c.push.new.self.declarations.items c.shared-shared.result (texts_in c.gather.new.found.items)
    (c.push.new.self.scoped ∙ ap scope_of c.in_ok-outside.ensures.tags)
    (shared_scope self.below c.in_ok-outside.outside c.shared-shared.result c.push.new.self.declarations.items self.scopes.declarations.items (tags_around self.scopes) c.shared-shared.ensures.shared c.in_ok-outside.ensures.outside self.scopes.scoped)
    c.in_ok-gather.ensures

pub returns-clause-attributes : goal.returns-clause-attributes
returns-clause-attributes c =
    let self = c.args.self.now in
    let rule = rule_in c.args.rule.now in
    let tag = tag_in c.args.tag in
    let n = c.givers-givers.result in
    let now = c.push.new.self.tags.items in
    let inner = c.in_ok-outside.ensures.inner in
    ap entries_text
    (c.in_ok-arrange.ensures
    ∙ ap (λ scope. sorted is_named_before (map (named scope) (with_inherited (plain_ones tag.attributes) (opened_in (take n now))))) (c.push.new.self.scoped ∙ ap scope_of c.in_ok-outside.ensures.tags))
    ∙ written_attributes rule (around_in self) tag (opened_in (take n now))
    (given_attributes rule self.below self.scopes.tags.items now inner.0 n (nearest_first self.rendered.items) tag (omega (arith, c.givers-givers.ensures.bound)) inner.1 c.givers-givers.ensures.givers)
