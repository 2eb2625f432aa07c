use Rattle.std.proofs.Common.{◌≤◌, ◌++◌, length, subst, sym, ap, ◌∙◌}
use Rattle.std.proofs.lemmas.Result.{IfOk-weaker}
use Rattle.document_model.specs.Documents.{document_of}
use Rattle.doc_spans.specs.Seen.{path_in, bytes_in}
use Rattle.insertions.specs.Placed.{last_place, with_all, placed_inside}
use Rattle.insertions.proofs.ByCalls.{element_at}
use Rattle.insertions.proofs.Grafts.{no_fault}
use Rattle.insertions.proofs.PlacedPut.{placed_is_put, placed_within}
use Rattle.insertions.proofs.putting.put.Goals as goal

pub apply-requires : goal.apply-requires
apply-requires c =
    let placed = c.in_ok-inside.ensures.ok ∙ ap (λ all. all ++ placed_inside c.args.content.now (path_in c.args.doc c.args.element) (bytes_in c.args.doc)) c.new-pieces.ensures in
    let within = placed_within c.args.content.now c.args.doc.bytes.now (path_in c.args.doc c.args.element) (no_fault c.args.doc.bytes.now c.args.doc.tree.now c.args.doc.whole)
    (element_at (document_of c.args.doc.bytes.now) (path_in c.args.doc c.args.element) c.requires.element) in
    subst (λ all. last_place all ≤ length c.bytes.result.now) (sym placed)
    (subst (λ x. last_place (placed_inside c.args.content.now (path_in c.args.doc c.args.element) (bytes_in c.args.doc)) ≤ length x) (sym c.bytes.ensures) within)

pub returns : goal.returns
returns c =
    let placed = c.in_ok-inside.ensures.ok ∙ ap (λ all. all ++ placed_inside c.args.content.now (path_in c.args.doc c.args.element) (bytes_in c.args.doc)) c.new-pieces.ensures in
    let put = placed_is_put c.args.content.now c.args.doc.bytes.now (path_in c.args.doc c.args.element) (no_fault c.args.doc.bytes.now c.args.doc.tree.now c.args.doc.whole)
    (element_at (document_of c.args.doc.bytes.now) (path_in c.args.doc c.args.element) c.requires.element) in
    IfOk-weaker c.apply.result _ _ (λ new e. e ∙ (λ i. with_all (placed i) (c.bytes.ensures i)) ∙ put) c.apply.ensures.all
