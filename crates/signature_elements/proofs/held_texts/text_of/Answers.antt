use Rattle.std.proofs.Common.{sym, ◌∙◌}
use Rattle.std.proofs.lemmas.Str.{chars-nil}
use Rattle.doc_spans.specs.Seen.{text_in}
use Rattle.signature_elements.proofs.Texted.{text_by_kind, no_text_kind}
use Rattle.signature_elements.proofs.held_texts.text_of.Goals as goal

pub returns-in_default : goal.returns-in_default
returns-in_default c =
    c.of.ensures ∙ chars-nil
    ∙ sym (text_by_kind c.args.doc c.args.node c.kind.result c.kind.ensures ∙ no_text_kind c.kind.result (text_in c.args.doc c.args.node) c.in_default.not-Text)
