use Rattle.std.proofs.Common.{◌≡◌, Some}
use Rattle.std.specs.Prelude.{map}
use Rattle.doc_spans.specs.Seen.{document_in}
use Rattle.signature_model.specs.Chains.{transform_of}
use Rattle.signature_model.specs.Spots.{elements_in}
use Rattle.signature_elements.specs.ElementsLeft.{elements_doc, elements_left}
use Rattle.signature_elements.specs.Standing.{spot_of}
use Rattle.reference_chains.specs.ChainsIn.{chain_in, HasChain}
use Rattle.reference_chains.specs.ChainSteps.{more_all}
use Rattle.reference_chains.proofs.chains.with_list.Given as goal

-- the chain so far leads where the first one does
abbrev pub invariant-loop-node : goal.invariant-loop-node
invariant-loop-node l =
    (goal.iterator-loop-node).can_next l.node-iterator × (goal.iterator-loop-node).is_finite l.node-iterator
    × (elements_doc l.node-iterator ≡ l.doc)
    × HasChain l.doc l.chain
    × (more_all l.external (Some (chain_in l.doc l.chain)) (map (transform_of (document_in l.doc)) (elements_left l.node-iterator))
    ≡ more_all l.external (Some (chain_in l.doc l.fn.before)) (map (transform_of (document_in l.doc)) (elements_in (document_in l.doc) (spot_of l.doc l.fn.list))))
