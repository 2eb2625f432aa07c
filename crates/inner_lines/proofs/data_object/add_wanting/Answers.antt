use Rattle.std.proofs.Common.{Bool, cond, refl, sym, ◌∙◌, ap, codes, [], ◌∷◌}
use Rattle.std.proofs.lemmas.Result.{on_ok_weaker}
use Rattle.doc_spans.specs.Seen.{document_in}
use Rattle.signature_elements.specs.Standing.{spot_of}
use Rattle.signature_model.specs.Spots.{has_attribute}
use Rattle.signature_elements.proofs.AsciiNames.{word}
use Rattle.signature_model.specs.Shape.{format_faults}
use Rattle.signature_parts.proofs.Adding.{adds_as}
use Rattle.inner_lines.proofs.data_object.add_wanting.Goals as goal

pub returns-then-has_attribute : goal.returns-then-has_attribute
returns-then-has_attribute c =
    let document = document_in c.args.doc in
    let signature = spot_of c.args.doc c.args.objects.now.signature in
    let spot = spot_of c.args.doc c.args.reference in
    let choice = λ (b : Bool). (cond b (format_faults document signature spot) (spot.path ∷ [])) in
    on_ok_weaker c.add_format_faults.result (λ h. adds_as c.args.doc _ _ _ _ (sym (ap choice (sym (c.has_attribute.ensures ∙ ap (λ local. has_attribute local spot) (word (codes "Id") refl)) ∙ c.if-has_attribute.true))) h) c.add_format_faults.ensures

pub returns : goal.returns
returns c =
    let document = document_in c.args.doc in
    let signature = spot_of c.args.doc c.args.objects.now.signature in
    let spot = spot_of c.args.doc c.args.reference in
    let choice = λ (b : Bool). (cond b (format_faults document signature spot) (spot.path ∷ [])) in
    adds_as c.args.doc _ _ _ _ (sym (ap choice (sym (c.has_attribute.ensures ∙ ap (λ local. has_attribute local spot) (word (codes "Id") refl)) ∙ c.if-has_attribute.false))) c.add.ensures
