-- What is found of the signature of a document, with certificates and revocation lists that are handed in: the first fault that stands
-- against its judgement, or what it shows: XML Signature 1.1, "Core Validation". The order of the faults is this project's own.
use Rattle.std.specs.Prelude.{ℕ, Bool, true, false, nat_le, if◌then◌else◌, List, Option, Some, None, ℤ}
use Rattle.document_model.specs.Tree.{Nodes}
use Rattle.policy_rules.specs.Rules.{Rules}
use Rattle.signature_model.specs.Spots.{Spot}
use Rattle.signature_model.specs.Parts.{DatumKind, references, is_signed}
use Rattle.signature_model.specs.Readable as read
use Rattle.signature_model.specs.Readable.{Answer, Read, answer}
use Rattle.signature_model.specs.Chains.{Handed, Fault, fault}
use Rattle.signature_objects.specs.Objects.{Object, limited, most_objects}
use Rattle.signature_evidence.specs.Evidence.{Evidence, evidence_of}
use Rattle.signature_evidence.specs.Cases.{IsYesOf}

pub data Judged : Type 0 where
  -- there is no signature with parts: none, several, or its first fault
  IsUnread : (found : Answer) → Judged
  -- a Reference has a fault
  HasBadReference : (found : Fault) → Judged
  -- it has no value
  IsUnsigned : Judged
  -- there are too many certificates, revocation lists and tokens
  IsTooLarge : Judged
  Shows : (evidence : Evidence) → Judged

-- Each test goes on to the next where it finds nothing.

abbrev pub unless_large : Evidence → Judged
unless_large evidence = if nat_le (limited evidence.objects) most_objects then Shows evidence else IsTooLarge

abbrev pub unless_unsigned : Handed → Nodes → Spot → List Object → Bool → Judged
unless_unsigned handed document signature more false = IsUnsigned
unless_unsigned handed document signature more true = unless_large (evidence_of handed document signature more)

abbrev pub unless_bad : Handed → Nodes → Spot → List Object → Option Fault → Judged
unless_bad handed document signature more (Some found) = HasBadReference found
unless_bad handed document signature more None = unless_unsigned handed document signature more (is_signed document signature)

-- by the answer on the signature
abbrev pub by_answer : Handed → Nodes → List Object → Answer → Judged
by_answer handed document more read.NoSignature = IsUnread read.NoSignature
by_answer handed document more read.Several = IsUnread read.Several
by_answer handed document more (read.Shape place what) = IsUnread (read.Shape place what)
by_answer handed document more (read.Include place) = IsUnread (read.Include place)
by_answer handed document more (read.PropertyData place) = IsUnread (read.PropertyData place)
by_answer handed document more (Read signature) = unless_bad handed document signature more (fault handed document signature.path (references document signature))

abbrev pub judged : (DatumKind → List ℕ → Bool) → Handed → Nodes → List Object → Judged
judged is_whole handed document more = by_answer handed document more (answer is_whole document)

-- The verdict on a document is yes where no fault stands against its judgement, and what it shows is yes.
abbrev pub IsYesBy : Rules → Judged → ℤ → Type 0
IsYesBy policy (IsUnread found) now = ⊥
IsYesBy policy (HasBadReference found) now = ⊥
IsYesBy policy IsUnsigned now = ⊥
IsYesBy policy IsTooLarge now = ⊥
IsYesBy policy (Shows evidence) now = IsYesOf policy evidence now
