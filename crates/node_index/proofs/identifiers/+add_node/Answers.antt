use Rattle.std.proofs.Common.{◌≡◌, ℕ, suc, ◌<◌, ◌++◌, ◌∷◌, [], length, subst}
use Rattle.std.specs.Str.{chars}
use Rattle.document_model.specs.NodeSets.{identified}
use Rattle.doc_spans.specs.Below.{nodes_from}
use Rattle.doc_spans.specs.OpenTags.{tag_in}
use Rattle.doc_spans.specs.Rest.{rest}
use Rattle.doc_spans.specs.Seen.{NameBelow, path_in, node_in, nodes_in}
use Rattle.doc_spans.specs.Sizes.{size_in}
use Rattle.doc_spans.proofs.ChildSteps.{one_more}
use Rattle.doc_spans.proofs.Elements.{element_of, child_of, smaller}
use Rattle.node_sets.specs.Answers.{answer_in, with_more}
use Rattle.node_sets.proofs.Targets.{next_node, all_nodes, whole_element}
use Rattle.node_index.specs.Identifiers.{named_by}
use Rattle.node_index.proofs.identifiers.+add_node.Goals as goal

pub add_node-requires : goal.add_node-requires
add_node-requires t c =
    let next = child_of c.args.doc (path_in c.args.doc c.args.node) (length c.loop-child.yielded) _ _ c.in-Some-child.child c.in-Some-child.ensures.steps c.loop-child.invariant.2 in
    let element = element_of (node_in c.args.doc c.args.node) (tag_in c.in-Some.tag) c.in-Some.ensures in
    let P : ℕ → Type 0 = λ n. size_in c.args.doc c.in-Some-child.child < n in
    (subst P c.decreases (smaller c.args.doc c.args.node c.in-Some-child.child _ _ (tag_in c.in-Some.tag) element next), (next.within, c.loop-child.invariant.3))

pub loop-child-preserved : goal.loop-child-preserved
loop-child-preserved t c =
    let i = length c.loop-child.yielded in
    let path = path_in c.args.doc c.args.node in
    let nodes = nodes_in c.args.doc c.args.node in
    let next = child_of c.args.doc path i _ _ c.in-Some-child.child c.in-Some-child.ensures.steps c.loop-child.invariant.2 in
    let more : suc i ≡ length (c.loop-child.yielded ++ c.in-Some-child.child ∷ []) = one_more c.loop-child.yielded c.in-Some-child.child in
    let P : ℕ → Type 0 = λ n. NameBelow c.args.doc path n (rest c.next.new.self) in (
      tt,
      tt,
      subst P more next.later,
      c.in_ok-add_node.ensures.within,
      λ value u.
          let now = answer_in c.args.doc (named_by c.add_node.new.index value) in
          let start = with_more (identified (chars value) path 0 nodes) (answer_in c.args.doc (named_by c.add_attributes.new.index value)) in
          let Q : ℕ → Type 0 = λ n. with_more (identified (chars value) path n (nodes_from n nodes)) now ≡ start in
          subst Q more
          (next_node (chars value) c.args.doc path i c.in-Some-child.child _ (answer_in c.args.doc (named_by c.loop-child.index value)) now start next (c.in_ok-add_node.ensures.each value u)
          (c.loop-child.invariant.4 value u)),
    )

pub returns-in-None : goal.returns-in-None
returns-in-None t c =
    let path = path_in c.args.doc c.args.node in
    record {
      each = λ value u.
          let before = answer_in c.args.doc (named_by c.args.index.now value) in
          let first = answer_in c.args.doc (named_by c.add_attributes.new.index value) in
          let now = answer_in c.args.doc (named_by c.loop-child.index value) in
          let start = with_more (identified (chars value) path 0 (nodes_in c.args.doc c.args.node)) first in
          whole_element (chars value) c.args.doc c.args.node (tag_in c.in-Some.tag) _ before first now c.in-Some.ensures c.of.ensures (c.in_ok-add_attributes.ensures.each value u)
          (all_nodes (chars value) c.args.doc path (length c.loop-child.yielded) _ now start c.in-None.ensures.steps.0 c.loop-child.invariant.2 (c.loop-child.invariant.4 value u));
      within = c.loop-child.invariant.3;
    }
