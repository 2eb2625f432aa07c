use Rattle.std.proofs.Common.{[], subst, sym, ◌∙◌, ap}
use Rattle.document_model.specs.Tree.{Path}
use Rattle.doc_spans.specs.Shown.{children_of}
use Rattle.doc_spans.proofs.Calls.{name_below}
use Rattle.doc_spans.proofs.Numbered.{AreNumbered}
use Rattle.doc_spans.proofs.documents.Doc.top.Goals as goal

pub returns : goal.returns
returns c =
    let P : Path → Type 0 = AreNumbered c.args.self.tree.now in
    name_below c.args.self [] _ (ap (children_of c.args.self.tree.now) (sym c.first_child.ensures.top) ∙ c.first_child.ensures.children) (subst P c.first_child.ensures.top c.first_child.ensures.numbered)
