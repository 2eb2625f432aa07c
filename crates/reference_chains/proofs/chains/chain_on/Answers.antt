use Rattle.std.proofs.Common.{rules, ◌≡◌, List, None, Some, sym, ◌∙◌, ap, refl, codes}
use Rattle.std.specs.Prelude.{map, flat_map, option_map}
use Rattle.doc_spans.specs.Seen.{document_in}
use Rattle.document_model.specs.Names.{Expanded}
use Rattle.signature_model.specs.Chains.{Chain, Nothing, NodesAlone, transform_of}
use Rattle.signature_model.specs.Parts.{transforms}
use Rattle.signature_model.specs.Spots.{Spot, called, elements_in}
use Rattle.signature_model.specs.Vocabulary.{ds}
use Rattle.signature_elements.specs.Names.{expanded}
use Rattle.signature_elements.specs.NamedLeft.{called_doc, called_left}
use Rattle.signature_elements.specs.Standing.{spot_of}
use Rattle.signature_elements.proofs.Laws.{next_spot}
use Rattle.reference_chains.specs.ChainsIn.{chain_in}
use Rattle.reference_chains.specs.ChainSteps.{more_all}
use Rattle.reference_chains.proofs.Steps.{none_stays, list_step, all_steps}
use Rattle.signature_elements.proofs.AsciiNames.{word}
use Rattle.reference_chains.proofs.chains.chain_on.Goals as goal

pub loop-list-init : goal.loop-list-init
loop-list-init c =
    let document = document_in c.args.doc in
    let spot : Spot = spot_of c.args.doc c.args.reference in
    let start : Chain = record { taken = Nothing; made = NodesAlone } in
    let same : called_doc c.into_iter-list-iterator.result ≡ c.args.doc = search rules in
    let lists : called_left c.into_iter-list-iterator.result ≡ called document (expanded c.ds.result) spot = search rules in (
      tt,
      tt,
      same,
      tt,
      ap (λ (spots : List Spot). more_all c.args.external (Some start) (map (transform_of document) (flat_map (elements_in document) spots)))
          (lists ∙ ap (λ (name : Expanded). called document name spot) (c.ds.ensures ∙ ap ds (word (codes "Transforms") refl)))
          ∙ all_steps c.args.external (map (transform_of document) (transforms document spot)),
    )

pub returns-in_err-chain-clause-chain : goal.returns-in_err-chain-clause-chain
returns-in_err-chain-clause-chain c =
    let doc = c.args.doc in
    let document = document_in doc in
    let next = next_spot called_doc called_left doc c.loop-list.list-iterator c.next.new.self c.in-Some.list c.loop-list.invariant.2 c.in-Some.ensures.steps in
    ap (option_map (chain_in doc)) c.from_residual.ensures
    ∙ sym (none_stays c.args.external (map (transform_of document) (flat_map (elements_in document) (called_left c.next.new.self))))
    ∙ list_step c.args.external (transform_of document) (elements_in document) (chain_in doc c.loop-list.chain) (spot_of doc c.in-Some.list)
    (called_left c.loop-list.list-iterator) (called_left c.next.new.self) None c.in_err-chain.ensures.chain next.spots
    ∙ c.loop-list.invariant.4

pub loop-list-preserved : goal.loop-list-preserved
loop-list-preserved c =
    let doc = c.args.doc in
    let document = document_in doc in
    let next = next_spot called_doc called_left doc c.loop-list.list-iterator c.next.new.self c.in-Some.list c.loop-list.invariant.2 c.in-Some.ensures.steps in (
      tt,
      tt,
      next.doc_is,
      c.in_ok-chain.ensures.has,
      list_step c.args.external (transform_of document) (elements_in document) (chain_in doc c.loop-list.chain) (spot_of doc c.in-Some.list)
          (called_left c.loop-list.list-iterator) (called_left c.next.new.self) _ c.in_ok-chain.ensures.chain next.spots
          ∙ c.loop-list.invariant.4,
    )
