use Rattle.std.proofs.Common.{◌≡◌, ◌≤◌, ◌∙◌, length, None, Err, sym, ap, subst}
use Rattle.document_model.specs.Documents.{document_of, fault}
use Rattle.doc_spans.specs.Seen.{document_in}
use Rattle.doc_spans.specs.Shown.{path_at}
use Rattle.insertions.specs.Live.{longest}
use Rattle.insertions.proofs.Grafts.{no_fault}
use Rattle.policy_rules.specs.View.{rules}
use Rattle.reference_chains.specs.HandedIn.{handed_in}
use Rattle.augmenter.proofs.Outcomes.{answers_bytes, answers_large, answers_taken, extends_bytes, is_legal, is_prepared}
use Rattle.augmenter.proofs.Preparation.{refused_before, root_in}
use Rattle.augmenter.proofs.preparing.prepare.Goals as goal

pub returns-in-Err-clause-answer : goal.returns-in-Err-clause-answer
returns-in-Err-clause-answer c =
    let live = c.in_ok-live.live in
    let same = c.in_ok-live.ensures.bytes in
    let none : fault c.args.bytes.now ≡ None = subst (λ b. fault b ≡ None) same (no_fault live.bytes live.tree live.whole) in
    refused_before (rules c.args.policy.now) (handed_in c.args.externals.now) c.args.draft.now c.args.bytes.now (document_in c.doc.result) c.in-Err.refusal
    none (ap document_of (c.doc.ensures.bytes ∙ same)) c.in-Err.ensures.err

pub insert-requires-clause-content : goal.insert-requires-clause-content
insert-requires-clause-content c =
    let live = c.in_ok-live.live in
    is_legal (rules c.args.policy.now) (handed_in c.args.externals.now) c.args.draft.now c.args.bytes.now live.bytes c.as_slice.result.now (document_in c.doc.result) (path_at live.tree c.root-root.result.0)
    (record {
      same = c.in_ok-live.ensures.bytes;
      none = no_fault live.bytes live.tree live.whole;
      tree_is = ap document_of c.doc.ensures.bytes;
      opening = c.in-Ok.ensures.ok;
      content_is = c.as_slice.ensures.value ∙ c.in-Ok.ensures.content;
      path_is = root_in c.doc-2.result c.root-root.result live.bytes live.tree c.root-root.ensures.first c.root-root.ensures.element c.doc-2.ensures.bytes c.doc-2.ensures.tree;
    })
    c.requires.draft.writable

pub returns-in-Err-TooLarge-clause-answer : goal.returns-in-Err-TooLarge-clause-answer
returns-in-Err-TooLarge-clause-answer c =
    let live = c.in_ok-live.live in
    answers_large (rules c.args.policy.now) (handed_in c.args.externals.now) c.args.draft.now c.args.bytes.now live.bytes c.as_slice.result.now (document_in c.doc.result) (path_at live.tree c.root-root.result.0)
    (record {
      same = c.in_ok-live.ensures.bytes;
      none = no_fault live.bytes live.tree live.whole;
      tree_is = ap document_of c.doc.ensures.bytes;
      opening = c.in-Ok.ensures.ok;
      content_is = c.as_slice.ensures.value ∙ c.in-Ok.ensures.content;
      path_is = root_in c.doc-2.result c.root-root.result live.bytes live.tree c.root-root.ensures.first c.root-root.ensures.element c.doc-2.ensures.bytes c.doc-2.ensures.tree;
    })
    c.requires.draft.writable (c.in-Err-TooLarge.ensures.large (ap Err c.in-Err-TooLarge.field-0-is)) c.refuse.result c.refuse.ensures

pub returns-then-planned-clause-answer : goal.returns-then-planned-clause-answer
returns-then-planned-clause-answer c =
    let live = c.in_ok-live.live in
    answers_taken (rules c.args.policy.now) (handed_in c.args.externals.now) c.args.draft.now c.args.bytes.now live.bytes c.as_slice.result.now (document_in c.doc.result) (path_at live.tree c.root-root.result.0)
    (record {
      same = c.in_ok-live.ensures.bytes;
      none = no_fault live.bytes live.tree live.whole;
      tree_is = ap document_of c.doc.ensures.bytes;
      opening = c.in-Ok.ensures.ok;
      content_is = c.as_slice.ensures.value ∙ c.in-Ok.ensures.content;
      path_is = root_in c.doc-2.result c.root-root.result live.bytes live.tree c.root-root.ensures.first c.root-root.ensures.element c.doc-2.ensures.bytes c.doc-2.ensures.tree;
    })
    c.insert.new.self.bytes c.in-Ok-insert.ensures.bytes c.in-Ok-insert.ensures.small.0 c.in-Ok-insert.ensures.small.1 (sym c.in-Ok.ensures.taken ∙ c.if-planned.true) c.refuse-then-planned.result c.refuse-then-planned.ensures

pub returns-clause-answer : goal.returns-clause-answer
returns-clause-answer c =
    let live = c.in_ok-live.live in
    let small = c.in-Ok-insert.ensures.small in
    let short : length c.into_bytes.result ≤ longest = subst (λ b. length b ≤ longest) (sym c.into_bytes.ensures) small.0 in
    answers_bytes (rules c.args.policy.now) (handed_in c.args.externals.now) c.args.draft.now c.args.bytes.now live.bytes c.as_slice.result.now (document_in c.doc.result) (path_at live.tree c.root-root.result.0)
    (record {
      same = c.in_ok-live.ensures.bytes;
      none = no_fault live.bytes live.tree live.whole;
      tree_is = ap document_of c.doc.ensures.bytes;
      opening = c.in-Ok.ensures.ok;
      content_is = c.as_slice.ensures.value ∙ c.in-Ok.ensures.content;
      path_is = root_in c.doc-2.result c.root-root.result live.bytes live.tree c.root-root.ensures.first c.root-root.ensures.element c.doc-2.ensures.bytes c.doc-2.ensures.tree;
    })
    c.into_bytes.result (c.into_bytes.ensures ∙ c.in-Ok-insert.ensures.bytes) short (ap fault c.into_bytes.ensures ∙ small.1) (sym c.in-Ok.ensures.taken ∙ c.if-planned.false)

pub returns-clause-extends : goal.returns-clause-extends
returns-clause-extends c =
    let live = c.in_ok-live.live in
    extends_bytes (rules c.args.policy.now) (handed_in c.args.externals.now) c.args.draft.now c.args.bytes.now live.bytes c.as_slice.result.now (document_in c.doc.result) (path_at live.tree c.root-root.result.0)
    (record {
      same = c.in_ok-live.ensures.bytes;
      none = no_fault live.bytes live.tree live.whole;
      tree_is = ap document_of c.doc.ensures.bytes;
      opening = c.in-Ok.ensures.ok;
      content_is = c.as_slice.ensures.value ∙ c.in-Ok.ensures.content;
      path_is = root_in c.doc-2.result c.root-root.result live.bytes live.tree c.root-root.ensures.first c.root-root.ensures.element c.doc-2.ensures.bytes c.doc-2.ensures.tree;
    })
    c.into_bytes.result (c.into_bytes.ensures ∙ c.in-Ok-insert.ensures.bytes)

pub returns-clause-prepared : goal.returns-clause-prepared
returns-clause-prepared c =
    let live = c.in_ok-live.live in
    is_prepared (rules c.args.policy.now) (handed_in c.args.externals.now) c.args.draft.now c.args.bytes.now live.bytes c.as_slice.result.now (document_in c.doc.result) (path_at live.tree c.root-root.result.0)
    (record {
      same = c.in_ok-live.ensures.bytes;
      none = no_fault live.bytes live.tree live.whole;
      tree_is = ap document_of c.doc.ensures.bytes;
      opening = c.in-Ok.ensures.ok;
      content_is = c.as_slice.ensures.value ∙ c.in-Ok.ensures.content;
      path_is = root_in c.doc-2.result c.root-root.result live.bytes live.tree c.root-root.ensures.first c.root-root.ensures.element c.doc-2.ensures.bytes c.doc-2.ensures.tree;
    })
    c.requires.draft.writable c.requires.draft.complete c.requires.handed c.into_bytes.result (c.into_bytes.ensures ∙ c.in-Ok-insert.ensures.bytes) (ap fault c.into_bytes.ensures ∙ c.in-Ok-insert.ensures.small.1)
    (sym c.in-Ok.ensures.taken ∙ c.if-planned.false)
