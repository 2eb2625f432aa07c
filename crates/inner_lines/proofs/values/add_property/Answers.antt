use Rattle.std.proofs.Common.{sym, ap, [], ◌∷◌}
use Rattle.std.proofs.lemmas.List.{append-nil}
use Rattle.std.specs.Prelude.{filter, flat_map}
use Rattle.doc_spans.specs.Seen.{document_in}
use Rattle.signature_model.specs.Holding.{with_stray_text}
use Rattle.signature_model.specs.Parts.{is_validation_data, values_of}
use Rattle.signature_elements.specs.Standing.{spot_of}
use Rattle.inner_lines.specs.LineParts.{values_faults}
use Rattle.signature_parts.proofs.Adding.{adds_as, adds_more}
use Rattle.inner_lines.proofs.values.add_property.Goals as goal

pub returns : goal.returns
returns c =
    let document = document_in c.args.doc in
    let spot = spot_of c.args.doc c.args.property in
    adds_more c.args.doc (with_stray_text document (filter is_validation_data (spot ∷ []))) (values_faults document (flat_map (values_of document) (spot ∷ []))) _ _ _ c.add_validation_data.ensures
    (adds_as c.args.doc _ _ _ _ (ap (values_faults document) (sym (append-nil (values_of document spot)))) c.add_values_of.ensures)
