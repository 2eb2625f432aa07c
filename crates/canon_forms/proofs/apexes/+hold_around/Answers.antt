use Rattle.std.proofs.Common.{◌≡◌, ℕ, ◌<◌, List, ◌∷◌, length, Ok, Err, OnOk, Result, subst, sym, ◌∙◌, ap}
use Rattle.document_model.specs.Scopes.{Tag, elements_around}
use Rattle.document_model.specs.Canonical.{at_apex}
use Rattle.doc_spans.specs.Seen.{path_in, document_in}
use Rattle.doc_spans.specs.OpenTags.{tag_in}
use Rattle.doc_spans.proofs.Within.{parent_nearer}
use Rattle.canon_forms.proofs.Walked.{there}
use Rattle.canon_forms.proofs.ElementTexts.{around_of_holder, with_tag, without_tag}
use Rattle.canon_forms.proofs.apexes.+hold_around.Goals as goal

pub hold_around-requires : goal.hold_around-requires
hold_around-requires t c =
    let less = parent_nearer c.args.doc c.args.node c.in-Some.parent c.requires.has c.in-Some.ensures.some.1 in
    let P : ℕ → Type 0 = λ n. length (path_in c.args.doc c.in-Some.parent) < n in
    (subst P c.decreases less, (c.in-Some.ensures.some.0, c.requires.top))

if_ok : {X E : Type 0} {P Q : Type 0} (r : Result X E) → (P → Q) → OnOk r P → OnOk r Q
if_ok (Ok x) f p = f p
if_ok (Err e) f p = p

pub returns-in-Some-open_tag : goal.returns-in-Some-open_tag
returns-in-Some-open_tag t c =
    let doc = c.args.doc in
    let parent = c.in-Some.parent in
    let holder = there doc parent c.in-Some.ensures.some.0 in
    let outer : List Tag = elements_around (document_in doc) (path_in doc parent) in
    let same : elements_around (document_in doc) (path_in doc c.args.node) ≡ tag_in c.in-Some-open_tag.tag ∷ outer =
    around_of_holder doc c.args.node parent c.requires.has holder c.in-Some.ensures.some.1 ∙ with_tag doc parent (tag_in c.in-Some-open_tag.tag) outer holder c.in-Some-open_tag.ensures in
    if_ok c.hold.result (λ h. h outer c.in_ok-hold_around.ensures ∙ ap at_apex (sym same)) c.hold.ensures

pub returns-in-None-open_tag : goal.returns-in-None-open_tag
returns-in-None-open_tag t c =
    let doc = c.args.doc in
    let parent = c.in-Some.parent in
    let holder = there doc parent c.in-Some.ensures.some.0 in
    let outer : List Tag = elements_around (document_in doc) (path_in doc parent) in
    c.in_ok-hold_around.ensures
    ∙ ap at_apex (sym (around_of_holder doc c.args.node parent c.requires.has holder c.in-Some.ensures.some.1 ∙ without_tag doc parent outer holder c.in-None-open_tag.ensures))
