use Rattle.std.proofs.Common.{not, sym, ◌∙◌, ap}
use Rattle.doc_spans.specs.Seen.{document_in, path_in}
use Rattle.signature_model.specs.Spots.{held_at}
use Rattle.signature_elements.proofs.Texted.{blank_text}
use Rattle.signature_elements.proofs.held_texts.is_blank.Goals as goal

pub returns : goal.returns
returns c = ap not c.has_stray_text.ensures ∙ sym (blank_text (held_at (document_in c.args.doc) (path_in c.args.doc c.args.node)))
