use Rattle.std.proofs.Common.{Bool, true, false, not, cond, refl, sym, ◌∙◌, ap, codes, []}
use Rattle.document_model.specs.Characters.{is_empty}
use Rattle.doc_spans.specs.Seen.{document_in}
use Rattle.signature_elements.specs.Standing.{spot_of}
use Rattle.signature_model.specs.Holding.{lacking}
use Rattle.signature_model.specs.Parts.{references, signed_properties}
use Rattle.signature_model.specs.Vocabulary.{xades}
use Rattle.inner_lines.specs.LineParts.{wanting}
use Rattle.signature_parts.proofs.Adding.{adds_as, adds_none}
use Rattle.signature_parts.proofs.Named.{none_by}
use Rattle.signature_parts.proofs.FromNone.{adds_part_xades}
use Rattle.inner_lines.proofs.data_object.add_without_properties.Goals as goal

pub returns-then-wants_any : goal.returns-then-wants_any
returns-then-wants_any c =
    let document = document_in c.args.doc in
    let signature = spot_of c.args.doc c.args.objects.now.signature in
    let choice = λ (b : Bool). cond b [] (lacking document (xades (codes "SignedDataObjectProperties")) (signed_properties document signature)) in
    let empty = none_by (is_empty (wanting document signature (references document signature))) _ c.wants_any.ensures ∙ ap not c.if-wants_any.true in
    adds_as c.args.doc _ _ _ _ (sym (ap choice empty))
    (adds_part_xades c.args.doc (lacking document) (codes "SignedDataObjectProperties") _ _ _ _ _ refl c.xades.ensures c.signed_properties.ensures.spot c.add_lacking.ensures)

pub returns-else-wants_any : goal.returns-else-wants_any
returns-else-wants_any c =
    let document = document_in c.args.doc in
    let signature = spot_of c.args.doc c.args.objects.now.signature in
    let choice = λ (b : Bool). cond b [] (lacking document (xades (codes "SignedDataObjectProperties")) (signed_properties document signature)) in
    let empty = none_by (is_empty (wanting document signature (references document signature))) _ c.wants_any.ensures ∙ ap not c.if-wants_any.false in
    adds_as c.args.doc _ _ _ _ (sym (ap choice empty)) (adds_none c.args.doc c.args.place.now c.requires.within)
