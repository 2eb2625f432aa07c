-- What a preparation answers.
use Rattle.std.specs.Prelude.{◌≡◌, ℕ, List, Option, None, Some, Result, Ok, Err}
use Rattle.document_model.specs.Documents.{fault, document_of}
use Rattle.doc_spans.specs.Faults.{IsFirstFault}
use Rattle.doc_spans.specs.declared.faults.DocFault.{DocFault}
use Rattle.doc_spans.specs.declared.faults.DocFault.TheVariants as documents
use Rattle.policy_rules.specs.Rules.{Rules}
use Rattle.signature_model.specs.Chains.{Handed}
use Rattle.signature_model.specs.Prepared.{Draft}
use Rattle.augmenter.specs.Preparing.{draft_code, drafted_bytes}
use Rattle.signature_checks.specs.declared.codes.Code.{Code}
use Rattle.augmenter.specs.declared.refusals.Refusal.{Refusal}
use Rattle.augmenter.specs.declared.refusals.Refusal.TheVariants.{BadDocument, Refused, OutOfMemory}

-- the fault tells why a document is refused, and isn't want of memory
abbrev pub IsFaultyDocument : List ℕ → DocFault → Type 0
IsFaultyDocument bytes documents.OutOfMemory = ⊥
IsFaultyDocument bytes fault = IsFirstFault fault bytes

-- a document that wasn't read has this fault; want of memory is free
abbrev pub IsUnread : List ℕ → Refusal → Type 0
IsUnread bytes (BadDocument fault) = IsFaultyDocument bytes fault
IsUnread bytes (Refused item code) = ⊥
IsUnread bytes OutOfMemory = Unit {0}

-- The prepared bytes come exactly where the document has no fault and no test stands against the draft; else the fault, or the first code.
-- Want of memory is free.
abbrev pub IsPreparation : Rules → Handed → Draft → List ℕ → (result : Result (List ℕ) Refusal) → Type 0
IsPreparation rules handed draft bytes (Ok new) =
    (fault bytes ≡ None) × (draft_code rules handed (document_of bytes) draft bytes ≡ None) × (new ≡ drafted_bytes handed (document_of bytes) draft bytes)
IsPreparation rules handed draft bytes (Err (BadDocument found)) = IsFaultyDocument bytes found
IsPreparation rules handed draft bytes (Err (Refused item code)) =
    (fault bytes ≡ None) × (item ≡ 0) × (draft_code rules handed (document_of bytes) draft bytes ≡ Some code)
IsPreparation rules handed draft bytes (Err OutOfMemory) = Unit {0}

-- it is refused for this code; want of memory is free
abbrev pub IsRefusedFor : Option Code → Refusal → Type 0
IsRefusedFor found (BadDocument fault) = ⊥
IsRefusedFor found (Refused item code) = (item ≡ 0) × (found ≡ Some code)
IsRefusedFor found OutOfMemory = Unit {0}
