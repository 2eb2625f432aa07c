use Rattle.std.proofs.Common.{Bool, ◌∙◌, ap}
use Rattle.std.specs.Prelude.{map}
use Rattle.doc_spans.specs.Seen.{document_in}
use Rattle.signature_model.specs.Chains.{place, chain_on, transform_of}
use Rattle.signature_model.specs.Parts.{transforms}
use Rattle.signature_elements.specs.Standing.{spot_of}
use Rattle.reference_chains.proofs.Steps.{external_is}
use Rattle.reference_chains.proofs.chains.chain_of.Goals as goal

pub returns-clause-chain : goal.returns-clause-chain
returns-clause-chain c =
    let document = document_in c.args.doc in
    let spot = spot_of c.args.doc c.args.reference in
    c.chain_on.ensures.chain
    ∙ ap (λ (b : Bool). chain_on b (map (transform_of document) (transforms document spot)))
    (c.is_external.ensures c.args.doc ∙ external_is document (place spot) _ c.requires.found)
