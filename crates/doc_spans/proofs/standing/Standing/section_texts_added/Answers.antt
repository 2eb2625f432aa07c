use Rattle.std.proofs.Common.{◌∙◌, sym}
use Rattle.std.specs.Str.{chars}
use Rattle.doc_spans.specs.Kept.{standing_in}
use Rattle.doc_spans.proofs.Tags.{line_ends_empty, texts_of_none, texts_of_some}
use Rattle.doc_spans.proofs.standing.Standing.section_texts_added.Goals as goal

pub returns-then-is_empty-clause-count : goal.returns-then-is_empty-clause-count
returns-then-is_empty-clause-count c =
    sym (texts_of_none (standing_in c.args.self.now) _ (line_ends_empty (chars c.args.text.now) ∙ sym c.is_empty.ensures ∙ c.if-is_empty.true))

pub returns-else-is_empty-clause-count : goal.returns-else-is_empty-clause-count
returns-else-is_empty-clause-count c =
    c.texts_added.ensures.count ∙ sym (texts_of_some (standing_in c.args.self.now) _ (line_ends_empty (chars c.args.text.now) ∙ sym c.is_empty.ensures ∙ c.if-is_empty.false))
