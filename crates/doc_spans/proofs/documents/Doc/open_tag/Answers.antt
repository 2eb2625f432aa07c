use Rattle.std.proofs.Common.{◌∙◌}
use Rattle.doc_spans.proofs.Calls.{start_within, item_stands, tag_value, no_tag_value, other_tag}
use Rattle.doc_spans.proofs.documents.Doc.open_tag.Goals as goal

pub known_item-requires-clause-at : goal.known_item-requires-clause-at
known_item-requires-clause-at c = start_within c.args.self.bytes.now c.args.self.tree.now c.args.node.0 c.row-row.result.now c.args.self.whole c.row-row.ensures

pub known_item-requires-clause-stands : goal.known_item-requires-clause-stands
known_item-requires-clause-stands c = item_stands c.args.self.bytes.now c.args.self.tree.now c.args.node.0 c.row-row.result.now c.args.self.whole c.row-row.ensures

pub returns-in-Some : goal.returns-in-Some
returns-in-Some c =
    c.tag_found.ensures ∙ tag_value c.args.self.bytes.now c.args.self.tree.now c.args.node.0 c.row-row.result.now c.in-Some.scanned c.args.self.whole c.row-row.ensures c.in-Some.ensures.item

pub returns-in-None : goal.returns-in-None
returns-in-None c = no_tag_value c.args.self.bytes.now c.args.self.tree.now c.args.node.0 c.row-row.result.now _ c.args.self.whole c.row-row.ensures c.in-None.ensures.item

pub returns-in_default : goal.returns-in_default
returns-in_default c = other_tag c.args.self.bytes.now c.args.self.tree.now c.args.node.0 c.row-row.result.now c.args.self.whole c.row-row.ensures c.in_default.not-Element
