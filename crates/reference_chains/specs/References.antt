-- A Reference in memory, with what was found of it.
use Rattle.std.specs.Prelude.{◌≡◌, Some}
use Rattle.doc_spans.specs.declared.documents.Doc.{Doc}
use Rattle.doc_spans.specs.Seen.{document_in}
use Rattle.signature_model.specs.Chains as model
use Rattle.signature_elements.specs.Standing.{spot_of, IsThere}
use Rattle.reference_chains.specs.declared.references.Reference.{Reference}
use Rattle.reference_chains.specs.Places.{found, found_in, HasPlace}
use Rattle.reference_chains.specs.ChainsIn.{chain_in, HasChain}

-- its place is what its URI names, and it has this chain
pub record IsReference (doc : Doc) (reference : Reference) : Type 0 where
  pub there : IsThere doc reference.node
  pub found_is : found_in doc reference.place ≡ found (document_in doc) (model.place (spot_of doc reference.node))
  pub has_place : HasPlace doc reference.place
  pub chain_is : model.chain (document_in doc) (spot_of doc reference.node) ≡ Some (chain_in doc reference.chain)
  pub has_chain : HasChain doc reference.chain
