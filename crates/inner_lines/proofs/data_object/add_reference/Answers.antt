use Rattle.std.proofs.Common.{Bool, cond, sym, ◌∙◌, ap, [], ◌∷◌}
use Rattle.doc_spans.specs.Seen.{document_in}
use Rattle.signature_elements.specs.Standing.{spot_of}
use Rattle.std.proofs.lemmas.List.{append-nil}
use Rattle.std.proofs.lemmas.Result.{on_ok_weaker}
use Rattle.std.specs.Prelude.{flat_map}
use Rattle.signature_model.specs.Shape.{data_object_line_of}
use Rattle.signature_parts.proofs.Adding.{adds_as, adds_none}
use Rattle.inner_lines.proofs.data_object.add_reference.Goals as goal

pub returns-then-wants_format : goal.returns-then-wants_format
returns-then-wants_format c =
    let document = document_in c.args.doc in
    let signature = spot_of c.args.doc c.args.objects.now.signature in
    let spot = spot_of c.args.doc c.args.reference in
    let choice = λ (b : Bool). flat_map (data_object_line_of document signature) (cond b (spot ∷ []) []) in
    on_ok_weaker c.add_wanting.result (λ h. adds_as c.args.doc _ _ _ _ (sym (ap choice (sym c.wants_format.ensures ∙ c.if-wants_format.true))) (adds_as c.args.doc _ _ _ _ (sym (append-nil (data_object_line_of document signature spot))) h)) c.add_wanting.ensures

pub returns : goal.returns
returns c =
    let document = document_in c.args.doc in
    let signature = spot_of c.args.doc c.args.objects.now.signature in
    let spot = spot_of c.args.doc c.args.reference in
    let choice = λ (b : Bool). flat_map (data_object_line_of document signature) (cond b (spot ∷ []) []) in
    adds_as c.args.doc _ _ _ _ (sym (ap choice (sym c.wants_format.ensures ∙ c.if-wants_format.false))) (adds_none c.args.doc c.args.place.now c.requires.within)
