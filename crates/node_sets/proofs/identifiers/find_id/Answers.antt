use Rattle.std.proofs.Common.{◌≡◌, ℕ, suc, ◌++◌, ◌∷◌, [], length, subst}
use Rattle.std.specs.Str.{chars}
use Rattle.document_model.specs.NodeSets.{Missing, identified}
use Rattle.doc_spans.specs.Below.{nodes_from}
use Rattle.doc_spans.specs.Rest.{rest}
use Rattle.doc_spans.specs.Seen.{NameBelow, document_in}
use Rattle.doc_spans.proofs.ChildSteps.{one_more}
use Rattle.doc_spans.proofs.Elements.{child_of}
use Rattle.node_sets.specs.Answers.{answer_in, with_more}
use Rattle.node_sets.proofs.Targets.{next_node, all_nodes, whole_document}
use Rattle.node_sets.proofs.identifiers.find_id.Goals as goal

pub loop-node-preserved : goal.loop-node-preserved
loop-node-preserved c =
    let value = chars c.args.value.now in
    let i = length c.loop-node.yielded in
    let nodes = document_in c.args.doc in
    let now = answer_in c.args.doc c.add_node.new.answer in
    let start = with_more (identified value [] 0 nodes) Missing in
    let next = child_of c.args.doc [] i _ _ c.in-Some.node c.in-Some.ensures.steps c.loop-node.invariant.2 in
    let more : suc i ≡ length (c.loop-node.yielded ++ c.in-Some.node ∷ []) = one_more c.loop-node.yielded c.in-Some.node in
    let P : ℕ → Type 0 = λ n. NameBelow c.args.doc [] n (rest c.next.new.self) in
    let Q : ℕ → Type 0 = λ n. with_more (identified value [] n (nodes_from n nodes)) now ≡ start in (
      tt,
      tt,
      subst P more next.later,
      c.add_node.ensures.has,
      subst Q more (next_node value c.args.doc [] i c.in-Some.node _ (answer_in c.args.doc c.loop-node.answer) now start next c.add_node.ensures.answer c.loop-node.invariant.4),
    )

pub returns-clause-answer : goal.returns-clause-answer
returns-clause-answer c =
    let value = chars c.args.value.now in
    let now = answer_in c.args.doc c.loop-node.answer in
    whole_document value (document_in c.args.doc) now
    (all_nodes value c.args.doc [] (length c.loop-node.yielded) _ now (with_more (identified value [] 0 (document_in c.args.doc)) Missing) c.in-None.ensures.steps.0 c.loop-node.invariant.2 c.loop-node.invariant.4)
