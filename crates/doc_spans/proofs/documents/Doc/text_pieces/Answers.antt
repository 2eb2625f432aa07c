use Rattle.std.proofs.Common.{◌∙◌, ap}
use Rattle.std.specs.Str.{chars}
use Rattle.document_model.specs.Characters.{with_line_ends}
use Rattle.doc_spans.proofs.Calls.{start_within, node_within, text_hold, text_value, other_value, no_other_value}
use Rattle.doc_spans.proofs.documents.Doc.text_pieces.Goals as goal

pub of_items-requires-clause-within : goal.of_items-requires-clause-within
of_items-requires-clause-within c = node_within c.args.self.bytes.now c.args.self.tree.now c.args.node.0 c.row-row.result.now c.args.self.whole c.row-row.ensures

pub of_items-requires-clause-hold : goal.of_items-requires-clause-hold
of_items-requires-clause-hold c = text_hold c.args.self.bytes.now c.args.self.tree.now c.args.node.0 c.row-row.result.now c.args.self.whole c.row-row.ensures c.in-Text.is

pub returns-in-Text : goal.returns-in-Text
returns-in-Text c = c.of_items.ensures ∙ text_value c.args.self.bytes.now c.args.self.tree.now c.args.node.0 c.row-row.result.now c.args.self.whole c.row-row.ensures c.in-Text.is

pub next_item-requires : goal.next_item-requires
next_item-requires c = start_within c.args.self.bytes.now c.args.self.tree.now c.args.node.0 c.row-row.result.now c.args.self.whole c.row-row.ensures

pub returns-in-Some : goal.returns-in-Some
returns-in-Some c =
    c.with_line_ends.ensures
    ∙ ap (λ xs. with_line_ends (chars xs)) c.text_found.ensures
    ∙ other_value c.args.self.bytes.now c.args.self.tree.now c.args.node.0 c.row-row.result.now c.in-Some.scanned c.args.self.whole c.row-row.ensures c.in_default.not-Text c.in-Some.ensures.item

pub returns-in-None : goal.returns-in-None
returns-in-None c = no_other_value c.args.self.bytes.now c.args.self.tree.now c.args.node.0 c.row-row.result.now _ c.args.self.whole c.row-row.ensures c.in-None.ensures.item
