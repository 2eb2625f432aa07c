-- What is asked of a signature before octets are given for its value or its next time-stamp: XML Signature 1.1, "Signature Generation"; EN
-- 319 132-1, clauses 5.3 and 5.5.2. Codes and their order are this project's own.
use Rattle.std.specs.Prelude.{◌≡◌, ℕ, not, List, [], ◌∷◌, Option, None, Some, Result, Ok, Err}
use Rattle.archive_octets.specs.declared.kinds.StampKind.TheVariants as stamps
use Rattle.asked_octets.specs.declared.purposes.Purpose.{Purpose}
use Rattle.asked_octets.specs.declared.purposes.Purpose.TheVariants as purposes
use Rattle.document_model.specs.Tree.{Nodes}
use Rattle.qualifying_props.specs.Whole.{is_whole}
use Rattle.signature_checks.specs.Opening.{signature_code, unsigned_test}
use Rattle.signature_checks.specs.declared.codes.Code.{Code}
use Rattle.signature_checks.specs.declared.codes.Code.TheVariants as codes
use Rattle.signature_checks.specs.declared.objections.Objection.{Objection}
use Rattle.signature_checks.specs.declared.objections.Objection.TheVariants.{Found, OutOfMemory}
use Rattle.signature_model.specs.Chains.{Handed, when}
use Rattle.signature_model.specs.Octets.{next_octets, value_octets}
use Rattle.signature_model.specs.Parts.{SignatureStamp, ArchiveStamp, is_signed}
use Rattle.signature_model.specs.Readable as read
use Rattle.signature_model.specs.Readable.{Answer, Read, answer}
use Rattle.signature_model.specs.Spots.{Spot}
use Rattle.stamp_checks.specs.Orders.{has_stamp}

-- the signature has no value
abbrev pub signed_test : Nodes → Spot → Option Code
signed_test document signature = when (not (is_signed document signature)) codes.NotSigned

-- it has a time-stamp on the archive
abbrev pub archived_test : Nodes → Spot → Option Code
archived_test document signature = when (has_stamp stamps.Archive document signature) codes.AfterArchive

-- it has none on the signature
abbrev pub stamped_test : Nodes → Spot → Option Code
stamped_test document signature = when (not (has_stamp stamps.Signature document signature)) codes.NotStamped

-- what is asked for a purpose, behind what is asked of each signature
abbrev pub purpose_tests : Purpose → Nodes → Spot → List (Option Code)
purpose_tests purposes.Value document signature = unsigned_test document signature ∷ []
purpose_tests purposes.SignatureStamp document signature = signed_test document signature ∷ archived_test document signature ∷ []
purpose_tests purposes.ArchiveStamp document signature = signed_test document signature ∷ stamped_test document signature ∷ []

-- the code of the first test that stands against the purpose for a document in some bytes
abbrev pub octets_code : Purpose → Handed → List ℕ → Nodes → Option Code
octets_code purpose handed bytes document = signature_code handed bytes document (purpose_tests purpose document)

-- the octets over which it is to be made
abbrev pub octets_over : Purpose → Handed → Nodes → Spot → List ℕ
octets_over purposes.Value handed document signature = value_octets document signature
octets_over purposes.SignatureStamp handed document signature = next_octets SignatureStamp handed document signature
octets_over purposes.ArchiveStamp handed document signature = next_octets ArchiveStamp handed document signature

-- those of the signature that a document is read with; none where it isn't
abbrev pub asked_octets : Purpose → Handed → Nodes → Answer → List ℕ
asked_octets purpose handed document read.NoSignature = []
asked_octets purpose handed document read.Several = []
asked_octets purpose handed document (read.Shape path line) = []
asked_octets purpose handed document (read.Include path) = []
asked_octets purpose handed document (read.PropertyData path) = []
asked_octets purpose handed document (Read signature) = octets_over purpose handed document signature

-- The octets come exactly where no test stands against the purpose, else the first code. Want of memory is free.
abbrev pub IsAsked : Purpose → Handed → List ℕ → Nodes → Result (List ℕ) Objection → Type 0
IsAsked purpose handed bytes document (Ok octets) =
    (octets_code purpose handed bytes document ≡ None) × (octets ≡ asked_octets purpose handed document (answer is_whole document))
IsAsked purpose handed bytes document (Err (Found code)) = octets_code purpose handed bytes document ≡ Some code
IsAsked purpose handed bytes document (Err OutOfMemory) = Unit {0}
