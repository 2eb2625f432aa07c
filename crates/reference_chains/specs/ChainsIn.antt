-- What transforms and chains in memory mean.
use Rattle.std.specs.Prelude.{Bool, false, true, unwrap_or}
use Rattle.document_model.specs.Canonical.{Form}
use Rattle.doc_spans.specs.declared.documents.Doc.{Doc}
use Rattle.doc_spans.specs.declared.documents.NodeId.{NodeId}
use Rattle.doc_spans.specs.Seen.{document_in}
use Rattle.signature_model.specs.Parts.{form_in, plain_form}
use Rattle.signature_model.specs.Chains as model
use Rattle.signature_elements.specs.Standing.{spot_of, IsThere}
use Rattle.reference_chains.specs.declared.chains.Chain.{Chain}
use Rattle.reference_chains.specs.declared.chains.Made.{Made}
use Rattle.reference_chains.specs.declared.chains.Made.TheVariants as made
use Rattle.reference_chains.specs.declared.transforms.Transform.{Transform}
use Rattle.reference_chains.specs.declared.transforms.Transform.TheVariants as transforms

-- the form that a transform names; any one where it names none
abbrev pub form_of : Doc → NodeId → Form
form_of doc node = unwrap_or (form_in (document_in doc) (spot_of doc node)) plain_form

abbrev pub transform_in : Doc → Transform → model.Transform
transform_in doc transforms.Enveloped = model.Enveloped
transform_in doc (transforms.Canonical node) = model.Canonical (form_of doc node)
transform_in doc transforms.Base64 = model.Base64
transform_in doc transforms.Other = model.Other

abbrev pub taken_in : Bool → model.Taken
taken_in false = model.Nothing
taken_in true = model.OwnSignature

abbrev pub made_in : Doc → Made → model.Made
made_in doc made.NodesAlone = model.NodesAlone
made_in doc (made.InForm node) = model.InForm (form_of doc node)
made_in doc made.Decoded = model.Decoded

abbrev pub chain_in : Doc → Chain → model.Chain
chain_in doc chain = record { taken = taken_in chain.enveloped; made = made_in doc chain.made }

-- where one names an element, it is one of the document
abbrev pub HasTransform : Doc → Transform → Type 0
HasTransform doc transforms.Enveloped = Unit {0}
HasTransform doc (transforms.Canonical node) = IsThere doc node
HasTransform doc transforms.Base64 = Unit {0}
HasTransform doc transforms.Other = Unit {0}

abbrev pub HasMade : Doc → Made → Type 0
HasMade doc made.NodesAlone = Unit {0}
HasMade doc (made.InForm node) = IsThere doc node
HasMade doc made.Decoded = Unit {0}

abbrev pub HasChain : Doc → Chain → Type 0
HasChain doc chain = HasMade doc chain.made
