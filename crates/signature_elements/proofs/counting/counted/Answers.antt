use Rattle.std.proofs.Common.{◌≡◌, ℕ, suc, ◌++◌, ◌∷◌, [], length, subst}
use Rattle.doc_spans.specs.Rest.{rest}
use Rattle.doc_spans.specs.Seen.{NameBelow, document_in}
use Rattle.doc_spans.proofs.ChildSteps.{one_more}
use Rattle.doc_spans.proofs.Elements.{child_of}
use Rattle.signature_model.specs.Parts.{counted}
use Rattle.signature_elements.specs.Counts.{Nothing, tally_in, with_more}
use Rattle.signature_elements.proofs.Tallies.{signatures_left, next_signatures, all_signatures, count_is}
use Rattle.signature_elements.proofs.counting.counted.Goals as goal

pub loop-node-preserved : goal.loop-node-preserved
loop-node-preserved c =
    let doc = c.args.doc in
    let i = length c.loop-node.yielded in
    let now = tally_in doc c.add_node.new.found in
    let start = with_more (signatures_left doc [] 0) Nothing in
    let next = child_of doc [] i _ _ c.in-Some.node c.in-Some.ensures.steps c.loop-node.invariant.2 in
    let more : suc i ≡ length (c.loop-node.yielded ++ c.in-Some.node ∷ []) = one_more c.loop-node.yielded c.in-Some.node in
    let P : ℕ → Type 0 = λ n. NameBelow doc [] n (rest c.next.new.self) in
    let Q : ℕ → Type 0 = λ n. with_more (signatures_left doc [] n) now ≡ start in (
      tt,
      tt,
      subst P more next.later,
      c.add_node.ensures.there,
      subst Q more (next_signatures doc [] i c.in-Some.node _ (tally_in doc c.loop-node.found) now start next c.add_node.ensures.tally c.loop-node.invariant.4),
    )

pub returns : goal.returns
returns c =
    let doc = c.args.doc in
    count_is doc (counted (document_in doc)) c.loop-node.found
    (all_signatures doc [] (length c.loop-node.yielded) _ (tally_in doc c.loop-node.found) (with_more (signatures_left doc [] 0) Nothing) c.in-None.ensures.steps.0 c.loop-node.invariant.2 c.loop-node.invariant.4)
    c.loop-node.invariant.3
