-- The number of a status, and the line that it puts on err.
use Rattle.std.specs.Prelude.{◌≡◌, ◌⊎◌, ℕ, List, [], ◌++◌, length, Option, Some, codes, decimal, unwrap_or}
use Rattle.xa_io.specs.Shelf.{Files}
use Rattle.xa_io.specs.Sink.{appended, GaveFirst}
use Rattle.xa_io.specs.Causes.{Rose}
use Rattle.whole_files.specs.Wants.{Held, AreHeld}
use Rattle.signature_checks.specs.Codes.{code_number}
use Rattle.policy_rules.specs.declared.fault.PolicyFault.{PolicyFault}
use Rattle.policy_rules.specs.declared.fault.PolicyFault.TheVariants as policies
use Rattle.command_words.specs.Asked.{Asked}
use Rattle.command_words.specs.Files.{wants_of}
use Rattle.xades_cli.specs.Commands.{ComesTo}
use Rattle.xades_cli.specs.Outcomes.{RefusesDocument}
use Rattle.doc_spans.specs.Faults.{fault_number, fault_place}
use Rattle.xades_cli.specs.declared.status.Status.{Status}
use Rattle.xades_cli.specs.declared.status.Status.TheVariants.{Done, No, BadWords, NoSuchFile, ReadFault, WriteFault, TooLong, BadDocument, BadPolicy, BadData, Refused, OutOfMemory}

-- the number of a status, with which the process ends
abbrev pub status_number : Status → ℕ
status_number Done = 0
status_number No = 1
status_number (BadWords index) = 2
status_number (NoSuchFile name) = 3
status_number (ReadFault name) = 4
status_number WriteFault = 5
status_number (TooLong name got) = 6
status_number (BadDocument why) = 7
status_number (BadPolicy why) = 8
status_number (BadData name at) = 9
status_number (Refused item code) = 10
status_number OutOfMemory = 11

-- a line of four parts
abbrev pub parts_line : List ℕ → List ℕ → List ℕ → List ℕ → List ℕ
parts_line opening first middle second = (opening ++ first ++ middle) ++ (second ++ codes "\n")

-- the line for a fault of a document, by its number and its place; the place of a fault at the end is the document's length
abbrev pub fault_line : ℕ → ℕ → List ℕ
fault_line number place = parts_line (codes "xades: document fault ") (decimal number) (codes " at ") (decimal place)

-- the line for a fault of a policy: `toml`, the name of the field, or the number of the anchor
abbrev pub policy_line : PolicyFault → List ℕ
policy_line policies.Toml = parts_line (codes "xades: policy fault ") (codes "1") (codes ": ") (codes "toml")
policy_line (policies.Field name) = parts_line (codes "xades: policy fault ") (codes "2") (codes ": ") name
policy_line (policies.Anchor index) = parts_line (codes "xades: policy fault ") (codes "3") (codes ": ") (decimal index)
policy_line policies.OutOfMemory = parts_line (codes "xades: policy fault ") (codes "4") (codes ": ") (codes "memory")

-- the line for a file that isn't whole DER from a place on
abbrev pub data_line : List ℕ → ℕ → List ℕ
data_line name at = parts_line (codes "xades: data fault: ") name (codes " at ") (decimal at)

-- the line for an item that is refused
abbrev pub refusal_line : ℕ → ℕ → List ℕ
refusal_line item number = parts_line (codes "xades: item ") (decimal item) (codes " refused: A") (decimal number)

-- the line of a status, where the document is of this size
abbrev pub line_of : ℕ → Status → List ℕ
line_of size Done = []
line_of size No = []
line_of size (BadWords index) = codes "xades: word " ++ decimal index ++ codes " is not understood\n"
line_of size (NoSuchFile name) = codes "xades: no such file: " ++ name ++ codes "\n"
line_of size (ReadFault name) = codes "xades: read fault: " ++ name ++ codes "\n"
line_of size WriteFault = codes "xades: write fault\n"
line_of size (TooLong name got) = codes "xades: too long: " ++ name ++ codes "\n"
line_of size (BadDocument why) = fault_line (fault_number why) (unwrap_or (fault_place why) size)
line_of size (BadPolicy why) = policy_line why
line_of size (BadData name at) = data_line name at
line_of size (Refused item code) = refusal_line item (code_number code)
line_of size OutOfMemory = codes "xades: out of memory\n"

-- a text was given, or a first part of it where the faults rose
abbrev pub Gives : List ℕ → Option (List ℕ) → Option (List ℕ) → ℕ → ℕ → Type 0
Gives text before now faults_before faults_now = (now ≡ appended before text) ⊎ (Rose faults_before faults_now × GaveFirst text before now)

-- the size that goes with a fault of the document is the length of the document that the command refuses
abbrev pub IsSized : Asked → Files → Status → ℕ → Type 0
IsSized asked shelf (BadDocument fault) size =
    (files : List Held) (document : List ℕ) → AreHeld shelf (wants_of asked) files → ComesTo asked files (RefusesDocument document) → size ≡ length document
IsSized asked shelf status size = Unit {0}

-- the line of a status was given, where the document of a command is of the size that the shelf tells
pub record Tells (asked : Asked) (held : Option Files) (status : Status) (before now : Option (List ℕ)) (faults_before faults_now : ℕ) : Type 0 where
  pub size : ℕ
  pub told : (shelf : Files) → held ≡ Some shelf → IsSized asked shelf status size
  pub given : Gives (line_of size status) before now faults_before faults_now
