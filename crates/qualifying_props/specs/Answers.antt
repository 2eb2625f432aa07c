-- What is returned for a document, by the answer of the definitions.
use Rattle.std.specs.Prelude.{◌≡◌, ℕ, Some, Result, Ok, Err}
use Rattle.document_model.specs.Tree.{Path}
use Rattle.doc_spans.specs.declared.documents.Doc.{Doc}
use Rattle.doc_spans.specs.Seen.{bytes_in, document_in}
use Rattle.signature_elements.specs.Standing.{spot_of}
use Rattle.signature_model.specs.Readable.{Answer, Read, NoSignature, Several, Shape, Include, PropertyData, answer}
use Rattle.signature_shape.specs.Faults.{what_in}
use Rattle.qualifying_props.specs.declared.faults.PartFault.{PartFault}
use Rattle.qualifying_props.specs.declared.faults.PartFault.TheVariants as faults
use Rattle.qualifying_props.specs.Begins.{begins_at}
use Rattle.qualifying_props.specs.PartsOf.{AreParts}
use Rattle.qualifying_props.specs.Shown.{Shown}
use Rattle.qualifying_props.specs.Whole.{is_whole}
use Rattle.qualifying_props.specs.Wholes.{AreWhole}

-- the answer is one that gives a place, and the element there begins at a byte
abbrev pub IsPlaced : Doc → (Path → Answer) → ℕ → Answer → Type 0
IsPlaced doc fault at found = (path : Path) × (found ≡ fault path) × (begins_at (bytes_in doc) path ≡ Some at)

-- the fault is the answer. Memory may always be wanting
abbrev pub IsFault : Doc → Answer → PartFault → Type 0
IsFault doc found faults.NoSignature = found ≡ NoSignature
IsFault doc found faults.Several = found ≡ Several
IsFault doc found (faults.Shape at what) = IsPlaced doc (λ path. Shape path (what_in what)) at found
IsFault doc found (faults.Include at) = IsPlaced doc Include at found
IsFault doc found (faults.PropertyData at) = IsPlaced doc PropertyData at found
IsFault doc found faults.OutOfMemory = Unit {0}

-- the parts are those of the signature that is read, and whole objects; or the fault is the answer
abbrev pub IsAnswer : Doc → Result Shown PartFault → Type 0
IsAnswer doc (Ok parts) = (answer is_whole (document_in doc) ≡ Read (spot_of doc parts.signature)) × AreParts doc parts × AreWhole parts
IsAnswer doc (Err fault) = IsFault doc (answer is_whole (document_in doc)) fault
