use Rattle.std.proofs.Common.{ap, sym, ◌∙◌, is_none}
use Rattle.canon_methods.specs.Forms.{form_in}
use Rattle.doc_spans.specs.Seen.{document_in}
use Rattle.signature_model.proofs.FormsAgree.{forms_agree}
use Rattle.signature_elements.specs.Standing.{spot_of}
use Rattle.signature_elements.proofs.Laws.{is_spot}
use Rattle.signature_parts.proofs.Named.{none_by, none_mapped}
use Rattle.outer_lines.proofs.form.is_formless.Goals as goal

pub returns : goal.returns
returns c =
    none_by _ _ c.is_none.ensures ∙ none_mapped form_in c.read_form.result
    ∙ ap is_none (c.read_form.ensures ∙ sym (forms_agree (document_in c.args.doc) (spot_of c.args.doc c.args.method) (is_spot c.args.doc c.args.method c.requires.1)))
