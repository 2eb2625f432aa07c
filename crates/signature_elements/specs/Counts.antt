-- How many signatures were counted.
use Rattle.std.specs.Prelude.{◌≡◌, ◌<◌, List, [], ◌∷◌, length, codes}
use Rattle.std.specs.Option.{option_map_or}
use Rattle.doc_spans.specs.declared.documents.Doc.{Doc}
use Rattle.doc_spans.specs.declared.documents.NodeId.{NodeId}
use Rattle.doc_spans.specs.Seen.{path_in, node_in, document_in}
use Rattle.document_model.specs.Scopes.{elements_around}
use Rattle.signature_model.specs.Spots.{Spot, outermost_in}
use Rattle.signature_model.specs.Vocabulary.{ds}
use Rattle.signature_elements.specs.declared.counting.SignatureCount.{SignatureCount}
use Rattle.signature_elements.specs.declared.counting.SignatureCount.TheVariants as counts
use Rattle.signature_elements.specs.Standing.{spot_of, IsThere}

-- a count of a list of signatures
abbrev pub IsCount : Doc → List Spot → SignatureCount → Type 0
IsCount doc spots counts.Nothing = spots ≡ []
IsCount doc spots (counts.One node) = IsThere doc node × (spots ≡ spot_of doc node ∷ [])
IsCount doc spots counts.Several = 1 < length spots

-- While they are counted.

pub data Tally : Type 0 where
  Nothing : Tally
  Single : Spot → Tally
  Many : Tally

abbrev pub tally_in : Doc → SignatureCount → Tally
tally_in doc counts.Nothing = Nothing
tally_in doc (counts.One node) = Single (spot_of doc node)
tally_in doc counts.Several = Many

-- a count names an element of the document, if any
abbrev pub AreThere : Doc → SignatureCount → Type 0
AreThere doc counts.Nothing = Unit {0}
AreThere doc (counts.One node) = IsThere doc node
AreThere doc counts.Several = Unit {0}

-- one more, and several more
abbrev pub with_one : Spot → Tally → Tally
with_one spot Nothing = Single spot
with_one spot (Single first) = Many
with_one spot Many = Many

abbrev pub with_more : List Spot → Tally → Tally
with_more [] tally = tally
with_more (spot ∷ spots) tally = with_more spots (with_one spot tally)

-- the signatures at a node and below it that have none around them there
abbrev pub outermost_at : Doc → NodeId → List Spot
outermost_at doc node =
    option_map_or (outermost_in (ds (codes "Signature")) (path_in doc node) (elements_around (document_in doc) (path_in doc node))) (node_in doc node) []
