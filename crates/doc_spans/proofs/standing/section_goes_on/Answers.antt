use Rattle.std.proofs.Common.{◌∙◌, not, sym, ap}
use Rattle.std.specs.Str.{chars}
use Rattle.document_model.specs.Characters.{with_line_ends}
use Rattle.doc_spans.proofs.Tags.{line_ends_empty, section_in, section_new}
use Rattle.doc_spans.proofs.standing.section_goes_on.Goals as goal

pub returns-then-in_text : goal.returns-then-in_text
returns-then-in_text c = section_in (with_line_ends (chars c.args.text.now)) c.args.in_text c.if-in_text.true

pub returns-else-in_text : goal.returns-else-in_text
returns-else-in_text c =
    ap not (c.is_empty.ensures ∙ sym (line_ends_empty (chars c.args.text.now))) ∙ section_new (with_line_ends (chars c.args.text.now)) c.args.in_text c.if-in_text.false
