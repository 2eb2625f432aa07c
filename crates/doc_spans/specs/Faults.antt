-- The faults of a text in the code, their numbers and places.
use Rattle.std.specs.Prelude.{◌≡◌, ℕ, List, Option, Some, None}
use Rattle.document_model.specs.Documents as documents
use Rattle.document_model.specs.Documents.{Fault, BadItem, TooMany, fault}
use Rattle.doc_spans.specs.Standing.{Standing, legal_within_here, fault_here}
use Rattle.doc_spans.specs.declared.faults.DocFault.{DocFault}
use Rattle.doc_spans.specs.declared.faults.DocFault.TheVariants.{Item, Doctype, Depth, Nodes, End, OutOfMemory}

-- the number of a fault, for a line that tells of it
abbrev pub fault_number : DocFault → ℕ
fault_number (Item at) = 1
fault_number (Doctype at) = 2
fault_number (Depth at) = 3
fault_number (Nodes at) = 4
fault_number End = 5
fault_number OutOfMemory = 6

-- and its place
abbrev pub fault_place : DocFault → Option ℕ
fault_place (Item at) = Some at
fault_place (Doctype at) = Some at
fault_place (Depth at) = Some at
fault_place (Nodes at) = Some at
fault_place End = None
fault_place OutOfMemory = None

-- the fault of the bytes that a fault in the code says, where it says one
abbrev pub fault_in : DocFault → Option Fault
fault_in (Item at) = Some (BadItem at)
fault_in (Doctype at) = Some (documents.Doctype at)
fault_in (Depth at) = Some (documents.Depth at)
fault_in (Nodes at) = Some (TooMany at)
fault_in End = Some documents.End
fault_in OutOfMemory = None

-- what a fault says of the bytes: it is theirs, with its place
abbrev pub IsFirstFault : DocFault → List ℕ → Type 0
IsFirstFault (Item at) bytes = fault bytes ≡ Some (BadItem at)
IsFirstFault (Doctype at) bytes = fault bytes ≡ Some (documents.Doctype at)
IsFirstFault (Depth at) bytes = fault bytes ≡ Some (documents.Depth at)
IsFirstFault (Nodes at) bytes = fault bytes ≡ Some (TooMany at)
IsFirstFault End bytes = fault bytes ≡ Some documents.End
IsFirstFault OutOfMemory bytes = Unit {0}

-- no legal item within the limits stands at a place, and this is the fault
abbrev pub MissesItem : Standing → ℕ → List ℕ → DocFault → Type 0
MissesItem s place bytes e = (legal_within_here s bytes ≡ None) × (fault_in e ≡ Some (fault_here s place bytes))
