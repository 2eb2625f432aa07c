-- What stands against the signature of a document before anything else is asked: XML Signature 1.1, "Core Signature Syntax" and "The
-- Reference Element"; EN 319 132-1, clause 4. Codes and their order are this project's own.
use Rattle.std.specs.Prelude.{◌≡◌, ℕ, List, ◌∷◌, length, ◌≤◌, Option, None, Some, option_map, unwrap_or, Result, Ok, Err}
use Rattle.document_model.specs.Tree.{Nodes}
use Rattle.doc_spans.specs.declared.documents.Doc.{Doc}
use Rattle.doc_spans.specs.Seen.{bytes_in, document_in}
use Rattle.qualifying_props.specs.Begins.{begins_at}
use Rattle.qualifying_props.specs.PartsOf.{AreParts}
use Rattle.qualifying_props.specs.Shown.{Shown}
use Rattle.qualifying_props.specs.Whole.{is_whole}
use Rattle.qualifying_props.specs.Wholes.{AreWhole}
use Rattle.reference_chains.specs.Decoding.{last_told}
use Rattle.references.specs.RefsOf.{AreRefsOf}
use Rattle.references.specs.Shown as refs
use Rattle.signature_elements.specs.Standing.{spot_of}
use Rattle.signature_model.specs.Chains as chains
use Rattle.signature_model.specs.Chains.{Fault, Handed, NoChain, NotHandedIn, NotBase64, fault, when}
use Rattle.signature_model.specs.Covers.{self_cover}
use Rattle.signature_model.specs.Faults as lines
use Rattle.signature_model.specs.Parts.{is_signed, references}
use Rattle.signature_model.specs.Readable as read
use Rattle.signature_model.specs.Readable.{Answer, Read, answer}
use Rattle.signature_model.specs.Spots.{Spot}
use Rattle.signature_shape.specs.declared.what.What.{What}
use Rattle.signature_shape.specs.declared.what.What.TheVariants as what
use Rattle.signature_checks.specs.Codes.{first_code}
use Rattle.signature_checks.specs.declared.codes.Code.{Code}
use Rattle.signature_checks.specs.declared.codes.Code.TheVariants as codes
use Rattle.signature_checks.specs.declared.objections.Objection.{Objection}
use Rattle.signature_checks.specs.declared.objections.Objection.TheVariants as objections
use Rattle.signature_checks.specs.declared.opening.Opened.{Opened}

-- a line of a signature's shape in a code
abbrev pub line_named : lines.What → What
line_named lines.Parts = what.Parts
line_named lines.Info = what.Info
line_named lines.Form = what.Form
line_named lines.Method = what.Method
line_named lines.Reference = what.Reference
line_named lines.Qualifying = what.Qualifying
line_named lines.Properties = what.Properties
line_named lines.Covered = what.Covered
line_named lines.Signed = what.Signed
line_named lines.DataObject = what.DataObject
line_named lines.Key = what.Key
line_named lines.Value = what.Value
line_named lines.Stamp = what.Stamp
line_named lines.Values = what.Values

-- the place of an element's first byte
abbrev pub place_in : List ℕ → List ℕ → ℕ
place_in bytes path = unwrap_or (begins_at bytes path) 0

-- by the answer on the signature of a document in some bytes: its code, or what the tests on the signature find
abbrev pub code_by : (Spot → List (Option Code)) → List ℕ → Answer → Option Code
code_by tests bytes read.NoSignature = Some codes.NoSignature
code_by tests bytes read.Several = Some codes.Several
code_by tests bytes (read.Shape path line) = Some (codes.Shape (place_in bytes path) (line_named line))
code_by tests bytes (read.Include path) = Some (codes.Include (place_in bytes path))
code_by tests bytes (read.PropertyData path) = Some (codes.PropertyData (place_in bytes path))
code_by tests bytes (Read signature) = first_code (tests signature)

-- the code for a fault of the References
abbrev pub reference_code : Fault → Code
reference_code (chains.TargetMissing k) = codes.TargetMissing k
reference_code (chains.TargetTwice k) = codes.TargetTwice k
reference_code (NoChain k) = codes.Chain k
reference_code (chains.DigestName k) = codes.DigestName k
reference_code (NotHandedIn k) = codes.External k
reference_code (NotBase64 k at) = codes.Base64 k at

-- a Reference has a fault
abbrev pub reference_test : Handed → Nodes → Spot → Option Code
reference_test handed document signature = option_map reference_code (fault handed document signature.path (references document signature))

-- a Reference covers a place at which something is to be put in
abbrev pub place_test : Nodes → Spot → Option Code
place_test document signature = option_map codes.SelfCover (self_cover document signature)

-- the signature has a value
abbrev pub unsigned_test : Nodes → Spot → Option Code
unsigned_test document signature = when (is_signed document signature) codes.AlreadySigned

-- the code of the first test on a document that finds one: whether it has one signature with its parts, whether its References have a fault
-- or cover a place, and what further tests on the signature find
abbrev pub signature_code : Handed → List ℕ → Nodes → (Spot → List (Option Code)) → Option Code
signature_code handed bytes document tests =
    code_by (λ signature. reference_test handed document signature ∷ place_test document signature ∷ tests signature) bytes (answer is_whole document)

-- the code is this one whatever further tests find; want of memory is free
abbrev pub IsFound : ((Spot → List (Option Code)) → Option Code) → Objection → Type 0
IsFound code_with (objections.Found code) = (tests : Spot → List (Option Code)) → code_with tests ≡ Some code
IsFound code_with objections.OutOfMemory = Unit {0}

-- what was opened is the signature of the document, with its parts and References, against which nothing stands
pub record IsOpened (handed : Handed) (doc : Doc) (opened : Opened) : Type 0 where
  pub read : answer is_whole (document_in doc) ≡ Read (spot_of doc opened.parts.signature)
  pub parts : AreParts doc opened.parts
  pub whole : AreWhole opened.parts
  pub refs : AreRefsOf doc opened.parts opened.refs
  pub references : reference_test handed (document_in doc) (spot_of doc opened.parts.signature) ≡ None
  pub places : place_test (document_in doc) (spot_of doc opened.parts.signature) ≡ None

abbrev pub IsOpening : Handed → Doc → Result Opened Objection → Type 0
IsOpening handed doc (Ok opened) = IsOpened handed doc opened
IsOpening handed doc (Err objection) = IsFound (signature_code handed (bytes_in doc) (document_in doc)) objection

-- the same of the References of some parts
abbrev pub AreOpenRefs : Handed → Doc → Shown → Result refs.Shown Objection → Type 0
AreOpenRefs handed doc parts (Ok refs) =
    AreRefsOf doc parts refs × (reference_test handed (document_in doc) (spot_of doc parts.signature) ≡ None)
    × (place_test (document_in doc) (spot_of doc parts.signature) ≡ None)
AreOpenRefs handed doc parts (Err objection) = let document = document_in doc in let signature = spot_of doc parts.signature in
    IsFound (λ tests. first_code (reference_test handed document signature ∷ place_test document signature ∷ tests signature)) objection

-- no octets that are handed in are longer than such a file may be, so that each place in them is told as it is
abbrev pub AreShort : Handed → Type 0
AreShort handed = (name octets : List ℕ) → handed name ≡ Some octets → length octets ≤ 33554432

-- a fault's place in base64 is no greater than what is told
abbrev pub IsToldWhole : Option Fault → Type 0
IsToldWhole found = (k at : ℕ) → found ≡ Some (NotBase64 k at) → at ≤ last_told
