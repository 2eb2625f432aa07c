-- The numbers of the codes of what stands against a judgement. This project's own.
use Rattle.std.specs.Prelude.{◌≡◌, ℕ, Option, Some}
use Rattle.signature_evidence.specs.Reporting.{answer_number, fault_number}
use Rattle.signature_model.specs.Chains.{Fault}
use Rattle.signature_model.specs.Readable.{Answer, Read}

-- there is no signature that is read, and this is the number of why
abbrev pub IsAnswerNumber : Answer → ℕ → Type 0
IsAnswerNumber (Read signature) number = ⊥
IsAnswerNumber found number = number ≡ answer_number found

-- the References have a fault, and this is its number
abbrev pub IsNumberOf : Option Fault → ℕ → Type 0
IsNumberOf found number = (fault : Fault) × (found ≡ Some fault) × (number ≡ fault_number fault)
