use Rattle.std.proofs.Common.{◌∙◌, sym}
use Rattle.std.specs.Str.{chars}
use Rattle.document_model.specs.Characters.{with_line_ends}
use Rattle.doc_spans.proofs.Tags.{line_ends_empty, shape_of_none, shape_of_some}
use Rattle.doc_spans.proofs.reading.section_shape.Goals as goal

pub returns-then-is_empty : goal.returns-then-is_empty
returns-then-is_empty c = shape_of_none (with_line_ends (chars c.args.text.now)) (line_ends_empty (chars c.args.text.now) ∙ sym c.is_empty.ensures ∙ c.if-is_empty.true)

pub returns-else-is_empty : goal.returns-else-is_empty
returns-else-is_empty c = shape_of_some (with_line_ends (chars c.args.text.now)) (line_ends_empty (chars c.args.text.now) ∙ sym c.is_empty.ensures ∙ c.if-is_empty.false)
