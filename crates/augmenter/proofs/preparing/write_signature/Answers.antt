use Rattle.std.proofs.Common.{◌≡◌, ◌++◌, ◌∙◌, ℕ, List, sym, ap}
use Rattle.algorithms.specs.Digests.{digest_of}
use Rattle.doc_spans.specs.Seen.{document_in}
use Rattle.qualifying_props.specs.Digests.{algorithm, digest}
use Rattle.reference_chains.specs.HandedIn.{handed_in}
use Rattle.signature_model.specs.Fragments.{written_octets}
use Rattle.signature_model.specs.Prepared.{first_certificate, named_octets, properties_octets, signature_nodes}
use Rattle.augmenter.proofs.NamedOctets.{own_kind}
use Rattle.augmenter.proofs.Preparation.{is_first}
use Rattle.augmenter.proofs.preparing.write_signature.Goals as goal

pub returns : goal.returns
returns c =
    let draft = c.args.draft.now in
    let made : List ℕ → List ℕ = digest draft.digest in
    let named : List ℕ → List ℕ = λ uri. made (named_octets (handed_in c.args.externals.now) (document_in c.args.doc) uri) in
    let kind : c.digest-kind.result ≡ algorithm draft.digest = own_kind c.digest-kind.result draft.digest c.digest-kind.ensures in
    let certificate : c.digest_of-certificate.result ≡ made (first_certificate draft) =
    c.digest_of-certificate.ensures ∙ ap (λ k. digest_of k c.cert.result.now) kind ∙ ap made (is_first draft c.cert.result.now c.cert.ensures) in
    let text : c.as_slice.result.now ≡ properties_octets made draft = c.as_slice.ensures.value ∙ c.in_ok-text.ensures made (sym certificate) in
    let properties : c.digest_of-properties.result ≡ made (properties_octets made draft) =
    c.digest_of-properties.ensures ∙ ap (λ k. digest_of k c.as_slice.result.now) kind ∙ ap made text in
    let put = c.in_ok-put_signature.ensures made named (made (properties_octets made draft)) (record {
      references = c.as_slice-2.ensures.value ∙ c.in_ok-references.ensures;
      certificate = certificate;
      properties = properties;
    }) in
    put ∙ ap (λ x. x ++ written_octets (signature_nodes made named (made (properties_octets made draft)) draft)) c.new-content.ensures
