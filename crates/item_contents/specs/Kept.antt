-- A document that is kept with its tree, and the parts of its signature. This project's own.
use Rattle.std.specs.Prelude.{◌≡◌, ℕ, ◌<◌, ◌⊎◌, List, length}
use Rattle.document_model.specs.Documents.{fault, document_of}
use Rattle.doc_spans.specs.declared.documents.Doc.{Doc}
use Rattle.doc_spans.specs.declared.documents.NodeId.{NodeId}
use Rattle.doc_spans.specs.Seen.{bytes_in, shown_in}
use Rattle.doc_spans.specs.Shown as trees
use Rattle.doc_spans.specs.Shown.{path_at}
use Rattle.insertions.specs.Live.{longest, IsPassed}
use Rattle.qualifying_props.specs.PartsOf.{AreParts}
use Rattle.qualifying_props.specs.Shown.{Shown}
use Rattle.signature_elements.specs.Standing.{spot_at}
use Rattle.signature_model.specs.Spots.{Spot}

-- the parts are those of the signature of the document with these bytes and this tree
abbrev pub ArePartsOf : List ℕ → trees.Shown → Shown → Type 0
ArePartsOf bytes tree parts = (doc : Doc) × (bytes_in doc ≡ bytes) × (shown_in doc ≡ tree) × AreParts doc parts

-- a node where it stands
abbrev pub spot_in : List ℕ → trees.Shown → NodeId → Spot
spot_in bytes tree node = spot_at (document_of bytes) (path_at tree node.0)

-- the bytes pass a limit on bytes, or their tree one on depth or nodes
abbrev pub PassesLimit : List ℕ → Type 0
PassesLimit bytes = (longest < length bytes) ⊎ IsPassed (fault bytes)
