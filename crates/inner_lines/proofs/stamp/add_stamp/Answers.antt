use Rattle.std.proofs.Common.{List, refl, sym, ◌∙◌, ap, codes, [], ◌∷◌}
use Rattle.std.proofs.lemmas.List.{append-nil}
use Rattle.std.specs.Prelude.{filter, flat_map, not}
use Rattle.doc_spans.specs.Seen.{document_in}
use Rattle.signature_model.specs.Holding.{further, not_one, with_stray_text, without_value}
use Rattle.signature_model.specs.Parts.{token_elements}
use Rattle.signature_model.specs.Shape.{is_in_stamp}
use Rattle.signature_model.specs.Spots.{Spot, elements_in, first, paths}
use Rattle.signature_model.specs.Vocabulary.{ds, xades}
use Rattle.signature_elements.specs.Standing.{spot_of}
use Rattle.signature_parts.proofs.Adding.{adds_as, adds_more}
use Rattle.signature_parts.proofs.FromNone.{adds_part, adds_ds, adds_xades}
use Rattle.inner_lines.proofs.stamp.add_stamp.Goals as goal

pub returns : goal.returns
returns c =
    let document = document_in c.args.doc in
    let spot = spot_of c.args.doc c.args.stamp in
    let others = λ (spots : List Spot). paths (filter (λ child. not (is_in_stamp child)) spots) in
    let tokens = λ (holder : Spot). first (token_elements document holder) in
    adds_more c.args.doc _ (without_value document (flat_map tokens (spot ∷ []))) _ _ _
    (adds_more c.args.doc _ (others (flat_map (elements_in document) (spot ∷ []))) _ _ _
    (adds_more c.args.doc _ (not_one document (xades (codes "EncapsulatedTimeStamp")) (spot ∷ [])) _ _ _
    (adds_more c.args.doc (with_stray_text document (spot ∷ [])) (further document (ds (codes "CanonicalizationMethod")) (spot ∷ [])) _ _ _
    c.add_with_stray_text.ensures
    (adds_ds c.args.doc (λ name. further document name (spot ∷ [])) (codes "CanonicalizationMethod") _ _ _ refl c.ds.ensures c.add_further.ensures))
    (adds_xades c.args.doc (λ name. not_one document name (spot ∷ [])) (codes "EncapsulatedTimeStamp") _ _ _ refl c.xades.ensures c.add_not_one.ensures))
    (adds_as c.args.doc _ _ _ _ (ap others (sym (append-nil (elements_in document spot)))) c.add_others.ensures))
    (adds_part c.args.doc (without_value document) _ _ _ _ (c.token_element.ensures.spot ∙ sym (append-nil (tokens spot))) c.add_without_value.ensures)
