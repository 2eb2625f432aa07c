use Rattle.std.proofs.Common.{◌&&◌, ◌||◌, ap, sym, ◌∙◌}
use Rattle.doc_spans.specs.declared.documents.NodeId.{NodeId}
use Rattle.doc_spans.specs.Seen.{document_in, path_in}
use Rattle.signature_elements.specs.Standing.{spot_of}
use Rattle.signature_model.specs.Covers.{is_reached}
use Rattle.references.proofs.Covers.{covers_either}
use Rattle.references.proofs.covering.covers_place.Goals as goal

pub returns-then-covers_value : goal.returns-then-covers_value
returns-then-covers_value c =
    let doc = c.args.doc in
    let document = document_in doc in
    let parts = c.args.parts.now in
    let spot = spot_of doc c.args.reference.node in
    let value = is_reached document (path_in doc parts.signature) (spot_of doc parts.value_node) spot in
    let host = is_reached document (path_in doc parts.signature) (spot_of doc parts.host) spot in
    c.if-covers_value.true
    ∙ ap (λ b. b || host) (sym c.if-covers_value.true ∙ c.covers_value.ensures ∙ ap (λ b. b && value) c.requires.open)
    ∙ covers_either document (spot_of doc parts.signature) spot (spot_of doc parts.value_node) (spot_of doc parts.host) c.requires.parts.value_node.spot c.requires.parts.host.spot

pub returns-else-covers_value : goal.returns-else-covers_value
returns-else-covers_value c =
    let doc = c.args.doc in
    let document = document_in doc in
    let parts = c.args.parts.now in
    let spot = spot_of doc c.args.reference.node in
    let value = is_reached document (path_in doc parts.signature) (spot_of doc parts.value_node) spot in
    let host = is_reached document (path_in doc parts.signature) (spot_of doc parts.host) spot in
    c.is_reached.ensures
    ∙ ap (λ (n : NodeId). is_reached document (path_in doc n) (spot_of doc c.host.result) spot) c.signature.ensures
    ∙ ap (λ (n : NodeId). is_reached document (path_in doc parts.signature) (spot_of doc n) spot) c.host.ensures
    ∙ ap (λ b. b || host) (sym c.if-covers_value.false ∙ c.covers_value.ensures ∙ ap (λ b. b && value) c.requires.open)
    ∙ covers_either document (spot_of doc parts.signature) spot (spot_of doc parts.value_node) (spot_of doc parts.host) c.requires.parts.value_node.spot c.requires.parts.host.spot
