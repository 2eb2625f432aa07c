use Rattle.std.proofs.Common.{◌≡◌, List, refl, sym, ◌∙◌, ap, codes, ◌++◌, append_assoc}
use Rattle.std.proofs.lemmas.List.{append-nil}
use Rattle.std.specs.Prelude.{Option, Some, None, drop, filter, flat_map}
use Rattle.document_model.specs.Names.{Expanded}
use Rattle.document_model.specs.Tree.{Path}
use Rattle.doc_spans.specs.declared.documents.Doc.{Doc}
use Rattle.doc_spans.specs.declared.documents.NodeId.{NodeId}
use Rattle.doc_spans.specs.Seen.{document_in}
use Rattle.signature_model.specs.Holding.{further, with_stray_text, without_value}
use Rattle.signature_model.specs.Parts.{certificate_digest, digest_methods, is_validation_data, properties, references, unsigned_signature, values_of}
use Rattle.signature_model.specs.Shape.{values_line}
use Rattle.signature_model.specs.Spots.{Spot, called, elements_in, has_stray_text, held_at, is_called, paths}
use Rattle.signature_model.specs.Vocabulary.{xades}
use Rattle.signature_elements.specs.Standing.{spot_of, spot_or_none}
use Rattle.inner_lines.specs.LineParts.{data_in_values, material_faults, revocation_lists, transform_faults}
use Rattle.signature_parts.proofs.Adding.{adds_as, adds_more}
use Rattle.signature_parts.proofs.AnyOrder.{alike_as}
use Rattle.signature_parts.proofs.Spread.{tested_more}
use Rattle.signature_parts.proofs.FromNone.{first_of_all, adds_part, adds_part_xades}
use Rattle.inner_lines.proofs.values.values_line.Goals as goal

-- those behind the first one, of the one element that holds them
later : (doc : Doc) (part : Option NodeId) (name : Expanded)
    → further (document_in doc) name (spot_or_none doc part) ≡ paths (drop 1 (filter (is_called name) (flat_map (elements_in (document_in doc)) (spot_or_none doc part))))
later doc None name = refl
later doc (Some node) name =
    let document = document_in doc in
    append-nil (paths (drop 1 (called document name (spot_of doc node))))
    ∙ ap (λ spots. paths (drop 1 (filter (is_called name) spots))) (sym (append-nil (elements_in document (spot_of doc node))))

order : (a b here holders lists values transforms digests all : List Path) → all ≡ (here ++ holders) ++ lists
    → (((a ++ b) ++ (here ++ ((holders ++ lists) ++ values))) ++ transforms) ++ digests ≡ ((((a ++ b) ++ all) ++ values) ++ transforms) ++ digests
order a b here holders lists values transforms digests all e =
    let flat : (((a ++ b) ++ (here ++ ((holders ++ lists) ++ values))) ++ transforms) ++ digests ≡ ((((a ++ b) ++ ((here ++ holders) ++ lists)) ++ values) ++ transforms) ++ digests = simp append_assoc in
    flat ∙ ap (λ middle. ((((a ++ b) ++ middle) ++ values) ++ transforms) ++ digests) (sym e)

pub returns : goal.returns
returns c =
    let document = document_in c.args.doc in
    let signature = spot_of c.args.doc c.args.signature in
    let all = properties document signature in
    let holders = flat_map (values_of document) all in
    let certificates = xades (codes "CertificateValues") in
    let lists = xades (codes "RevocationValues") in
    let stray = λ (spot : Spot). has_stray_text (held_at document spot.path) in
    let holder = unsigned_signature document signature in
    let behind = λ (name : Expanded). paths (drop 1 (filter (is_called name) all)) in
    let part = c.unsigned_signature-holder.ensures.spot in
    let more = λ (name : Expanded).
    sym (ap (further document name) part) ∙ later c.args.doc c.unsigned_signature-holder.result name ∙ ap (λ spots. paths (drop 1 (filter (is_called name) (flat_map (elements_in document) spots)))) part in
    first_of_all c.args.doc _ (values_line document signature) _ _ c.none-place.ensures
    (alike_as _ _ (order (behind certificates) (behind lists) (with_stray_text document (filter is_validation_data all)) (with_stray_text document holders)
    (with_stray_text document (flat_map (revocation_lists document) holders)) (without_value document (data_in_values document holders))
    (transform_faults document (references document signature)) (with_stray_text document (digest_methods document (certificate_digest document signature))) _
    (tested_more stray (filter is_validation_data all ++ holders) (flat_map (revocation_lists document) holders)
    ∙ ap (λ front. front ++ with_stray_text document (flat_map (revocation_lists document) holders)) (tested_more stray (filter is_validation_data all) holders))))
    (adds_more c.args.doc _ (with_stray_text document (digest_methods document (certificate_digest document signature))) _ _ _
    (adds_more c.args.doc _ (transform_faults document (references document signature)) _ _ _
    (adds_more c.args.doc _ (material_faults document all) _ _ _
    (adds_more c.args.doc (behind certificates) (behind lists) _ _ _
    (adds_as c.args.doc _ _ _ _ (more certificates) (adds_part_xades c.args.doc (further document) (codes "CertificateValues") _ _ _ _ _ refl c.xades.ensures part c.add_further.ensures))
    (adds_as c.args.doc _ _ _ _ (more lists) (adds_part_xades c.args.doc (further document) (codes "RevocationValues") _ _ _ _ _ refl c.xades-2.ensures part c.add_further-2.ensures)))
    c.add_properties.ensures) c.add_transforms.ensures)
    (adds_part c.args.doc (with_stray_text document) _ _ _ _ (c.digest_method.ensures.spot ∙ ap (digest_methods document) c.certificate_digest.ensures.spot) c.add_with_stray_text.ensures))
