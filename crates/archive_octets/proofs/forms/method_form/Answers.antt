use Rattle.std.proofs.Common.{sym, ◌∙◌, ap}
use Rattle.std.specs.Prelude.{unwrap_or}
use Rattle.doc_spans.specs.Seen.{document_in}
use Rattle.signature_model.specs.Parts.{plain_form}
use Rattle.signature_model.proofs.FormsAgree.{forms_agree}
use Rattle.signature_elements.specs.Standing.{spot_of}
use Rattle.signature_elements.proofs.Laws.{is_spot}
use Rattle.archive_octets.proofs.forms.method_form.Goals as goal

pub returns-in-Some : goal.returns-in-Some
returns-in-Some c =
    ap (λ o. unwrap_or o plain_form)
    (c.in-Some.ensures ∙ sym (forms_agree (document_in c.args.doc) (spot_of c.args.doc c.args.method) (is_spot c.args.doc c.args.method c.requires.1)))

pub returns-in-None : goal.returns-in-None
returns-in-None c =
    ap (λ o. unwrap_or o plain_form)
    (c.in-None.ensures ∙ sym (forms_agree (document_in c.args.doc) (spot_of c.args.doc c.args.method) (is_spot c.args.doc c.args.method c.requires.1)))
