use Rattle.std.proofs.Common.{sym, ap, [], ◌∷◌, ◌++◌}
use Rattle.std.proofs.lemmas.List.{append-nil}
use Rattle.std.specs.Prelude.{flat_map}
use Rattle.doc_spans.specs.Seen.{document_in}
use Rattle.signature_model.specs.Holding.{with_stray_text, without_value}
use Rattle.signature_elements.specs.Standing.{spot_of}
use Rattle.inner_lines.specs.LineParts.{revocation_lists, data_in_values}
use Rattle.signature_parts.proofs.Adding.{adds_as, adds_more}
use Rattle.inner_lines.proofs.values.add_values.Goals as goal

pub returns : goal.returns
returns c =
    let document = document_in c.args.doc in
    let spot = spot_of c.args.doc c.args.holder in
    let here = with_stray_text document (spot ∷ []) in
    let lists = with_stray_text document (flat_map (revocation_lists document) (spot ∷ [])) in
    adds_more c.args.doc (here ++ lists) (without_value document (data_in_values document (spot ∷ []))) _ _ _
    (adds_more c.args.doc here lists _ _ _ c.add_with_stray_text.ensures
    (adds_as c.args.doc _ _ _ _ (ap (with_stray_text document) (sym (append-nil (revocation_lists document spot)))) c.add_lists.ensures))
    c.add_data.ensures
