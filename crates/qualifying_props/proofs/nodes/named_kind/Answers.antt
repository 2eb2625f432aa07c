use Rattle.std.proofs.Common.{ap, sym, ◌∙◌}
use Rattle.doc_spans.specs.Seen.{document_in}
use Rattle.signature_elements.specs.Standing.{spot_of, spot_or_none}
use Rattle.signature_model.specs.Parts.{digest_kind, digest_methods}
use Rattle.signature_elements.specs.DigestKinds.{kind_in}
use Rattle.qualifying_props.specs.PartsOf.{cert_method}
use Rattle.qualifying_props.proofs.Shaped.{has_cert_method, has_digest_kind, part_there, map_there}
use Rattle.qualifying_props.proofs.nodes.named_kind.Goals as goal

pub unwrap-method-requires : goal.unwrap-method-requires
unwrap-method-requires c =
    let doc = c.args.doc in
    let document = document_in doc in
    let spot = spot_of doc c.args.signature in
    part_there doc (cert_method document spot) c.digest_method.result (has_cert_method document spot c.requires.shaped)
    (c.digest_method.ensures.spot ∙ ap (digest_methods document) c.certificate_digest.ensures.spot)

pub unwrap-requires : goal.unwrap-requires
unwrap-requires c =
    let doc = c.args.doc in
    let document = document_in doc in
    let spot = spot_of doc c.args.signature in
    let kind = has_digest_kind document spot c.requires.shaped in
    let method = ap (spot_or_none doc) (sym c.unwrap-method.ensures) ∙ c.digest_method.ensures.spot ∙ ap (digest_methods document) c.certificate_digest.ensures.spot in
    map_there kind_in c.digest_kind.result kind.0 (c.digest_kind.ensures ∙ ap digest_kind method ∙ kind.1)
