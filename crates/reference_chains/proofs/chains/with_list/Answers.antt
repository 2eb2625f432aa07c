use Rattle.std.proofs.Common.{None, sym, ◌∙◌, ap}
use Rattle.std.specs.Prelude.{map, option_map}
use Rattle.doc_spans.specs.Seen.{document_in}
use Rattle.signature_model.specs.Chains.{transform_of}
use Rattle.signature_elements.specs.ElementsLeft.{elements_doc, elements_left}
use Rattle.signature_elements.specs.Standing.{spot_of}
use Rattle.signature_elements.proofs.Laws.{next_spot}
use Rattle.reference_chains.specs.ChainsIn.{chain_in, transform_in}
use Rattle.reference_chains.proofs.Steps.{none_stays, one_step}
use Rattle.reference_chains.proofs.chains.with_list.Goals as goal

pub returns-in_err-chain-clause-chain : goal.returns-in_err-chain-clause-chain
returns-in_err-chain-clause-chain c =
    let doc = c.args.doc in
    let next = next_spot elements_doc elements_left doc c.loop-node.node-iterator c.next.new.self c.in-Some.node c.loop-node.invariant.2 c.in-Some.ensures.steps in
    ap (option_map (chain_in doc)) c.from_residual.ensures
    ∙ sym (none_stays c.args.external (map (transform_of (document_in doc)) (elements_left c.next.new.self)))
    ∙ one_step c.args.external (transform_of (document_in doc)) (chain_in doc c.loop-node.chain) (transform_in doc c.transform_of.result) (spot_of doc c.in-Some.node)
    (elements_left c.loop-node.node-iterator) (elements_left c.next.new.self) None (c.in_err-chain.ensures.chain doc) c.transform_of.ensures.transform next.spots
    ∙ c.loop-node.invariant.4

pub loop-node-preserved : goal.loop-node-preserved
loop-node-preserved c =
    let doc = c.args.doc in
    let next = next_spot elements_doc elements_left doc c.loop-node.node-iterator c.next.new.self c.in-Some.node c.loop-node.invariant.2 c.in-Some.ensures.steps in (
      tt,
      tt,
      next.doc_is,
      c.in_ok-chain.ensures.has doc c.loop-node.invariant.3 c.transform_of.ensures.has,
      one_step c.args.external (transform_of (document_in doc)) (chain_in doc c.loop-node.chain) (transform_in doc c.transform_of.result) (spot_of doc c.in-Some.node)
          (elements_left c.loop-node.node-iterator) (elements_left c.next.new.self) _ (c.in_ok-chain.ensures.chain doc) c.transform_of.ensures.transform next.spots
          ∙ c.loop-node.invariant.4,
    )
