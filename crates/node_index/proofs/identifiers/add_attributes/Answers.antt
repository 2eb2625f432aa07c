use Rattle.std.proofs.Common.{sym, ◌∙◌, ap}
use Rattle.std.specs.Str.{chars}
use Rattle.document_model.specs.NodeSets.{once_each}
use Rattle.xml_items.specs.Attributes.{attribute_in, attributes_left}
use Rattle.doc_spans.specs.Seen.{path_in}
use Rattle.node_sets.specs.Answers.{answer_in, with_more}
use Rattle.node_index.specs.Identifiers.{named_by}
use Rattle.node_index.proofs.IdentifierLaws.{attribute_passed}
use Rattle.node_index.proofs.identifiers.add_attributes.Goals as goal

pub attributes-preserved : goal.attributes-preserved
attributes-preserved c =
    let path = path_in c.args.doc c.args.node in
    let left = attributes_left c.in-Some.behind in (
      c.in_ok-add_attribute-in-Some.ensures.within,
      λ value u.
          let before = answer_in c.args.doc (named_by c.attributes.index value) in
          ap (with_more (once_each (chars value) path left)) (c.in_ok-add_attribute-in-Some.ensures.each value u)
          ∙ attribute_passed (chars value) path (attribute_in c.in-Some.a) left before
          ∙ ap (λ all. with_more (once_each (chars value) path all) before) (sym c.in-Some.ensures.first)
          ∙ c.attributes.invariant.1 value u,
    )
