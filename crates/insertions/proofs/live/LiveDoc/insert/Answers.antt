use Rattle.std.proofs.Common.{◌≡◌, None, ◌⊎◌, subst, sym, ap, ◌∙◌}
use Rattle.document_model.specs.Documents.{fault}
use Rattle.document_model.specs.Insertion.{put_inside}
use Rattle.doc_spans.specs.Shown.{path_at}
use Rattle.insertions.specs.Live.{IsPassed}
use Rattle.insertions.proofs.Grafts.{none_or_passed, too_large, has_content, same_error}
use Rattle.insertions.proofs.live.LiveDoc.insert.Goals as goal

pub read_new-requires-clause-whole : goal.read_new-requires-clause-whole
read_new-requires-clause-whole g c = subst (λ x. (fault x ≡ None) ⊎ IsPassed (fault x)) (sym c.as_slice-2.ensures.value)
    (none_or_passed c.args.self.now.bytes c.args.self.now.tree c.args.element.0 c.args.content.now c.in-Ok.new
    (record {
      whole = c.args.self.now.whole;
      element = c.requires.element;
      put = c.in-Ok.ensures ∙ (λ i. put_inside c.args.content.now (path_at (c.doc.ensures.tree i) c.args.element.0) (c.doc.ensures.bytes i));
    })
    c.requires.content)

pub returns-in-Err-read_new-clause-large : goal.returns-in-Err-read_new-clause-large
returns-in-Err-read_new-clause-large g c h =
    too_large c.args.self.now.bytes c.args.self.now.tree c.args.element.0 c.args.content.now c.in-Ok.new
    (record {
      whole = c.args.self.now.whole;
      element = c.requires.element;
      put = c.in-Ok.ensures ∙ (λ i. put_inside c.args.content.now (path_at (c.doc.ensures.tree i) c.args.element.0) (c.doc.ensures.bytes i));
    })
    (subst (λ x. IsPassed (fault x)) c.as_slice-2.ensures.value (c.in-Err-read_new.ensures.large (same_error c.in-Err-read_new.fault _ h)))

pub returns-clause-tree : goal.returns-clause-tree
returns-clause-tree g c =
    has_content c.args.self.now.bytes c.args.self.now.tree c.args.element.0 c.args.content.now c.in-Ok.new
    (record {
      whole = c.args.self.now.whole;
      element = c.requires.element;
      put = c.in-Ok.ensures ∙ (λ i. put_inside c.args.content.now (path_at (c.doc.ensures.tree i) c.args.element.0) (c.doc.ensures.bytes i));
    })
    (ap fault (sym c.as_slice-2.ensures.value) ∙ c.in-Ok-read_new.ensures.ok.tree.spelled)
