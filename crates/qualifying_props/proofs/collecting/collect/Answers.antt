use Rattle.std.proofs.Common.{◌∷◌, [], subst, sym, ap, ◌∙◌}
use Rattle.std.specs.List.{position}
use Rattle.doc_spans.specs.declared.documents.NodeId.{NodeId}
use Rattle.doc_spans.specs.Seen.{document_in}
use Rattle.signature_elements.specs.Standing.{spot_of, IsThere}
use Rattle.signature_model.specs.Parts.{octets_or_none}
use Rattle.qualifying_props.specs.Digests.{has_digest}
use Rattle.qualifying_props.proofs.Signing.{signer_is}
use Rattle.qualifying_props.proofs.collecting.collect.Goals as goal

pub returns-clause-parts : goal.returns-clause-parts
returns-clause-parts c =
    let doc = c.args.doc in
    let document = document_in doc in
    let spot = spot_of doc c.args.signature in
    let nodes = c.part_nodes.ensures in
    let values = c.in_ok-values.ensures.values in
    let signer = c.in_ok-signer.signer in
    let signs = c.in_ok-signer.ensures in
    let number = signs.number ∙ ap (position (has_digest signer.kind signer.digest)) c.as_slice.ensures.value in
    let T : NodeId → Type 0 = IsThere doc in
    record {
      node = nodes.node;
      are = record {
        counted = record { spot = ap (λ node. spot_of doc node ∷ []) nodes.node ∙ sym c.requires.only; there = subst T (sym nodes.node) c.requires.there };
        signed_info = nodes.others.signed_info;
        value_node = nodes.others.value;
        host = nodes.others.host;
        method_node = nodes.others.method;
        key_info = nodes.others.key_info;
        method = c.in_ok-method_name.ensures;
        value = c.in_ok-octets_or_none.ensures ∙ ap (octets_or_none document) c.value.ensures.spot;
        references = c.in_ok-reference_nodes.ensures;
        objects = c.in_ok-object_nodes.ensures;
        key_certs = values.key_certs;
        properties = values.properties;
        has_values = c.has_values.ensures;
        digest_kind = signs.kind;
        digest = signs.digest;
        number = number;
        signer = signer_is document spot c.in_ok-values.values.key_certs.items signer.kind signer.digest signer.number values.key_certs signs.kind signs.digest number;
      };
    }
