use Rattle.std.proofs.Common.{◌≡◌, ℕ, suc, ◌++◌, ◌∷◌, [], length, subst}
use Rattle.std.specs.Str.{chars}
use Rattle.document_model.specs.NodeSets.{Missing, identified}
use Rattle.doc_spans.specs.Below.{nodes_from}
use Rattle.doc_spans.specs.Rest.{rest}
use Rattle.doc_spans.specs.Seen.{NameBelow, document_in}
use Rattle.doc_spans.proofs.ChildSteps.{one_more}
use Rattle.doc_spans.proofs.Elements.{child_of}
use Rattle.node_sets.specs.Answers.{answer_in, with_more}
use Rattle.node_sets.proofs.Targets.{next_node, all_nodes, whole_document}
use Rattle.node_index.specs.Identifiers.{named_by}
use Rattle.node_index.proofs.identifiers.Identifiers.of.Goals as goal

pub loop-node-preserved : goal.loop-node-preserved
loop-node-preserved c =
    let i = length c.loop-node.yielded in
    let nodes = document_in c.args.doc in
    let next = child_of c.args.doc [] i _ _ c.in-Some.node c.in-Some.ensures.steps c.loop-node.invariant.2 in
    let more : suc i ≡ length (c.loop-node.yielded ++ c.in-Some.node ∷ []) = one_more c.loop-node.yielded c.in-Some.node in
    let P : ℕ → Type 0 = λ n. NameBelow c.args.doc [] n (rest c.next.new.self) in (
      tt,
      tt,
      subst P more next.later,
      c.in_ok-add_node.ensures.within,
      λ value u.
          let now = answer_in c.args.doc (named_by c.add_node.new.index value) in
          let start = with_more (identified (chars value) [] 0 nodes) Missing in
          let Q : ℕ → Type 0 = λ n. with_more (identified (chars value) [] n (nodes_from n nodes)) now ≡ start in
          subst Q more
          (next_node (chars value) c.args.doc [] i c.in-Some.node _ (answer_in c.args.doc (named_by c.loop-node.index value)) now start next (c.in_ok-add_node.ensures.each value u)
          (c.loop-node.invariant.4 value u)),
    )

pub returns : goal.returns
returns c = record {
  each = λ value u.
      let now = answer_in c.args.doc (named_by c.loop-node.index value) in
      whole_document (chars value) (document_in c.args.doc) now
      (all_nodes (chars value) c.args.doc [] (length c.loop-node.yielded) _ now (with_more (identified (chars value) [] 0 (document_in c.args.doc)) Missing) c.in-None.ensures.steps.0
      c.loop-node.invariant.2 (c.loop-node.invariant.4 value u));
  within = c.loop-node.invariant.3;
}
