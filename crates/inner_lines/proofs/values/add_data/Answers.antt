use Rattle.std.proofs.Common.{◌≡◌, Bool, true, false, List, cond, refl, sym, ◌∙◌, ap, codes, [], ◌∷◌}
use Rattle.std.proofs.lemmas.List.{append-nil}
use Rattle.std.specs.Prelude.{map}
use Rattle.document_model.specs.Tree.{Nodes}
use Rattle.doc_spans.specs.Seen.{document_in}
use Rattle.signature_elements.specs.Standing.{spot_of}
use Rattle.signature_model.specs.Holding.{without_value}
use Rattle.signature_model.specs.Parts.{Datum, DatumKind, Certificate, RevocationList, as_kind, data_of_values}
use Rattle.signature_model.specs.Spots.{Spot, called, called_in, is_called}
use Rattle.signature_model.specs.Vocabulary.{xades}
use Rattle.inner_lines.specs.LineParts.{data_in_values}
use Rattle.signature_parts.proofs.Adding.{adds_as}
use Rattle.signature_parts.proofs.Named.{xades_name, all_called}
use Rattle.inner_lines.proofs.values.add_data.Goals as goal

spots_of : (kind : DatumKind) (spots : List Spot) → map (λ (datum : Datum). datum.spot) (as_kind kind spots) ≡ spots
spots_of kind [] = refl
spots_of kind (spot ∷ spots) = ap (λ rest. spot ∷ rest) (spots_of kind spots)

chosen : (b : Bool) (certificates lists : List Spot) → map (λ (datum : Datum). datum.spot) (cond b (as_kind Certificate certificates) (as_kind RevocationList lists)) ≡ cond b certificates lists
chosen true certificates lists = spots_of Certificate certificates
chosen false certificates lists = spots_of RevocationList lists

data_are : (document : Nodes) (spot : Spot) → data_in_values document (spot ∷ [])
    ≡ cond (is_called (xades (codes "CertificateValues")) spot) (called document (xades (codes "EncapsulatedX509Certificate")) spot)
    (called_in document (xades (codes "EncapsulatedCRLValue")) (called document (xades (codes "CRLValues")) spot))
data_are document spot =
    ap (map (λ (datum : Datum). datum.spot)) (append-nil (data_of_values document spot))
    ∙ chosen (is_called (xades (codes "CertificateValues")) spot) (called document (xades (codes "EncapsulatedX509Certificate")) spot)
    (called_in document (xades (codes "EncapsulatedCRLValue")) (called document (xades (codes "CRLValues")) spot))

pub returns-then-is_certificate_values : goal.returns-then-is_certificate_values
returns-then-is_certificate_values c =
    let document = document_in c.args.doc in
    let spot = spot_of c.args.doc c.args.holder in
    let certificates = called document (xades (codes "EncapsulatedX509Certificate")) spot in
    let lists = called_in document (xades (codes "EncapsulatedCRLValue")) (called document (xades (codes "CRLValues")) spot) in
    let choice = λ (b : Bool). cond b certificates lists in
    let found = all_called c.args.doc _ (xades (codes "EncapsulatedX509Certificate")) spot _ (xades_name _ (codes "EncapsulatedX509Certificate") refl c.xades.ensures) c.called.ensures.spots in
    adds_as c.args.doc _ _ _ _ (ap (without_value document) (found ∙ sym (data_are document spot ∙ ap choice (sym c.is_certificate_values.ensures ∙ c.if-is_certificate_values.true))))
    c.add_each_without_value.ensures

pub returns-else-is_certificate_values : goal.returns-else-is_certificate_values
returns-else-is_certificate_values c =
    let document = document_in c.args.doc in
    let spot = spot_of c.args.doc c.args.holder in
    let certificates = called document (xades (codes "EncapsulatedX509Certificate")) spot in
    let lists = called_in document (xades (codes "EncapsulatedCRLValue")) (called document (xades (codes "CRLValues")) spot) in
    let choice = λ (b : Bool). cond b certificates lists in
    adds_as c.args.doc _ _ _ _ (ap (without_value document) (sym (data_are document spot ∙ ap choice (sym c.is_certificate_values.ensures ∙ c.if-is_certificate_values.false))))
    c.add_revocation_lists.ensures
