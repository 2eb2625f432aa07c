-- What a validation answers by the bytes of a document. This project's own.
use Rattle.std.specs.Prelude.{◌≡◌, ℕ, List, ℤ, None, Result, Ok, Err}
use Rattle.doc_spans.specs.Faults.{IsFirstFault}
use Rattle.doc_spans.specs.declared.faults.DocFault.TheVariants as documents
use Rattle.document_model.specs.Documents.{document_of, fault}
use Rattle.policy_rules.specs.Rules.{Rules}
use Rattle.qualifying_props.specs.Whole.{is_whole}
use Rattle.signature_evidence.specs.Judging.{judged}
use Rattle.signature_evidence.specs.Material.{material_of}
use Rattle.signature_model.specs.Chains.{Handed}
use Rattle.xades_validator.specs.Reported.{IsReported}
use Rattle.xades_validator.specs.declared.faults.ValidateFault.{ValidateFault}
use Rattle.xades_validator.specs.declared.faults.ValidateFault.TheVariants.{BadDocument, OutOfMemory}
use Rattle.xades_validator.specs.declared.reports.Report.{Report}

-- the document has no fault and the report on it is right; or it has one, and this is the first; want of memory is free
abbrev pub IsValidated : Rules → Handed → (more : List ℕ) → (now : ℤ) → List ℕ → Result Report ValidateFault → Type 0
IsValidated policy handed more now bytes (Ok report) =
    (fault bytes ≡ None) × IsReported policy (judged is_whole handed (document_of bytes) (material_of more)) now report
IsValidated policy handed more now bytes (Err (BadDocument documents.OutOfMemory)) = ⊥
IsValidated policy handed more now bytes (Err (BadDocument found)) = IsFirstFault found bytes
IsValidated policy handed more now bytes (Err OutOfMemory) = Unit {0}
