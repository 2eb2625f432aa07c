use Rattle.std.proofs.Common.{◌&&◌, ap, sym, ◌∙◌}
use Rattle.doc_spans.specs.declared.documents.NodeId.{NodeId}
use Rattle.doc_spans.specs.Seen.{document_in, path_in}
use Rattle.signature_elements.specs.Standing.{spot_of}
use Rattle.signature_model.specs.Covers.{is_reached}
use Rattle.references.proofs.covering.covers_value.Goals as goal

pub returns-then-is_open : goal.returns-then-is_open
returns-then-is_open c =
    let doc = c.args.doc in
    let document = document_in doc in
    let parts = c.args.parts.now in
    let spot = spot_of doc c.args.reference.node in
    c.is_reached.ensures
    ∙ ap (λ (n : NodeId). is_reached document (path_in doc n) (spot_of doc c.value_node.result) spot) c.signature.ensures
    ∙ ap (λ (n : NodeId). is_reached document (path_in doc parts.signature) (spot_of doc n) spot) c.value_node.ensures
    ∙ ap (λ b. b && is_reached document (path_in doc parts.signature) (spot_of doc parts.value_node) spot) (sym c.if-is_open.true)
