use Rattle.std.proofs.Common.{◌≡◌, refl, sym, ◌∙◌, ap, subst}
use Rattle.doc_spans.specs.declared.documents.Doc.{Doc}
use Rattle.doc_spans.specs.Seen.{Has, path_in}
use Rattle.doc_spans.specs.Shown.{outer_path}
use Rattle.canon_forms.specs.Writing.{is_at_top}
use Rattle.canon_forms.specs.Walks.{doc_of}
use Rattle.canon_forms.proofs.Walked.{is_deep}
use Rattle.canon_forms.proofs.walks.Walk.deep_apex.Goals as goal

pub returns-in-Some-parent-clause-some : goal.returns-in-Some-parent-clause-some
returns-in-Some-parent-clause-some c =
    let parent = c.in-Some-parent.field-0 in
    let P : Doc → Type 0 = λ doc. Has doc parent × (path_in doc parent ≡ outer_path (path_in doc c.in-Some.apex)) in
    let holder = subst P c.doc.ensures c.in-Some-parent.ensures.some in (
      c.in-Some.ensures.has c.in-Some.apex refl,
      c.in-Some.ensures.path,
      ap is_at_top (sym c.in-Some.ensures.path) ∙ is_deep (doc_of c.args.self.now) c.in-Some.apex parent holder.0 holder.1,
    )
