use Rattle.std.proofs.Common.{◌≡◌, Some}
use Rattle.std.specs.Prelude.{map, flat_map}
use Rattle.doc_spans.specs.Seen.{document_in}
use Rattle.signature_model.specs.Chains.{transform_of, chain_on}
use Rattle.signature_model.specs.Parts.{transforms}
use Rattle.signature_model.specs.Spots.{elements_in}
use Rattle.signature_elements.specs.NamedLeft.{called_doc, called_left}
use Rattle.signature_elements.specs.Standing.{spot_of}
use Rattle.reference_chains.specs.ChainsIn.{chain_in, HasChain}
use Rattle.reference_chains.specs.ChainSteps.{more_all}
use Rattle.reference_chains.proofs.chains.chain_on.Given as goal

-- the chain so far leads to that of all transforms
abbrev pub invariant-loop-list : goal.invariant-loop-list
invariant-loop-list l =
    (goal.iterator-loop-list).can_next l.list-iterator × (goal.iterator-loop-list).is_finite l.list-iterator
    × (called_doc l.list-iterator ≡ l.doc)
    × HasChain l.doc l.chain
    × (more_all l.external (Some (chain_in l.doc l.chain)) (map (transform_of (document_in l.doc)) (flat_map (elements_in (document_in l.doc)) (called_left l.list-iterator)))
    ≡ chain_on l.external (map (transform_of (document_in l.doc)) (transforms (document_in l.doc) (spot_of l.doc l.fn.reference))))
