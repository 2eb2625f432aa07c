use Rattle.std.proofs.Common.{List, ℕ, subst₂, codes}
use Rattle.document_model.specs.Documents.{document_of}
use Rattle.document_model.specs.Scopes.{tags_at}
use Rattle.doc_spans.specs.Seen.{path_in, bytes_in, shown_in}
use Rattle.doc_spans.specs.Shown.{Shown, path_at}
use Rattle.insertions.specs.Content.{IsContent}
use Rattle.insertions.proofs.ByCalls.{element_at}
use Rattle.insertion_tests.proofs.EmptyElement.{c_inside}
use Rattle.insertion_tests.proofs.lives.deepen.Goals as goal

pub insert-requires-clause-content : goal.insert-requires-clause-content
insert-requires-clause-content c =
    let doc = c.doc-doc.result in
    let path = path_in doc c.deepest-element.result in
    let P : List ℕ → Shown → Type 0 = λ bytes shown. IsContent (tags_at (document_of bytes) (path_at shown c.deepest-element.result.0)) (codes "<c/>") in
    subst₂ P c.doc-doc.ensures.bytes c.doc-doc.ensures.tree (c_inside (document_of (bytes_in doc)) path (element_at (document_of (bytes_in doc)) path c.in-Element.ensures))
