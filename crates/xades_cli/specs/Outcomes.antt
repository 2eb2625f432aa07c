-- What commands come to once their files are read, and what is given out or refused then.
use Rattle.std.specs.Prelude.{◌≡◌, ℕ, Bool, true, false, List, length, Option, Result, Ok, Err}
use Rattle.xa_io.specs.Sink.{appended, GaveFirst}
use Rattle.augmenter.specs.Answers.{IsFaultyDocument}
use Rattle.policy_rules.specs.declared.fault.PolicyFault.{PolicyFault}
use Rattle.policy_rules.specs.declared.fault.PolicyFault.TheVariants as policies
use Rattle.xades_cli.specs.declared.answers.Answer.{Answer}
use Rattle.xades_cli.specs.declared.answers.Answer.TheVariants.{Text, Report}
use Rattle.signature_checks.specs.declared.codes.Code.{Code}
use Rattle.xades_cli.specs.declared.stop.Refusal.{Refusal}
use Rattle.xades_cli.specs.declared.stop.Refusal.TheVariants as refusals
use Rattle.xades_cli.specs.declared.stop.Stop.{Stop}
use Rattle.xades_cli.specs.declared.stop.Stop.TheVariants as stops
use Rattle.xades_cli.specs.declared.status.Status.{Status}
use Rattle.xades_cli.specs.declared.status.Status.TheVariants.{Done, No, WriteFault, BadDocument, BadPolicy, BadData, Refused}

-- what a command comes to: it writes bytes, or a report with its verdict, or it refuses a document that spells no tree within the limits, a
-- text that is no policy, a file from a place on, or an item
pub data Outcome : Type 0 where
  Writes : (bytes : List ℕ) → Outcome
  Reports : (verdict : Bool) (bytes : List ℕ) → Outcome
  RefusesDocument : (document : List ℕ) → Outcome
  RefusesPolicy : (fault : PolicyFault) → Outcome
  RefusesData : (name : List ℕ) (at : ℕ) → Outcome
  RefusesItem : (item : ℕ) (code : Code) → Outcome

-- the fault of a policy isn't want of memory
abbrev pub IsToldOfPolicy : PolicyFault → Type 0
IsToldOfPolicy policies.OutOfMemory = ⊥
IsToldOfPolicy fault = Unit {0}

-- what is to be given out is the outcome's
abbrev pub Gives : Outcome → Answer → Type 0
Gives (Writes bytes) (Text text) = text ≡ bytes
Gives (Reports verdict bytes) (Report text told) = (text ≡ bytes) × (told ≡ verdict)
Gives outcome answer = ⊥

-- what is refused is the outcome's; none of it is want of memory
abbrev pub Refuses : Outcome → Refusal → Type 0
Refuses (RefusesDocument document) (refusals.Document fault size) = IsFaultyDocument document fault × (size ≡ length document)
Refuses (RefusesPolicy fault) (refusals.Policy told) = (told ≡ fault) × IsToldOfPolicy told
Refuses (RefusesData name at) (refusals.Data told place) = (told ≡ name) × (place ≡ at)
Refuses (RefusesItem item code) (refusals.Item number told) = (number ≡ item) × (told ≡ code)
Refuses outcome refusal = ⊥

-- what was computed is the outcome's; want of memory is free
abbrev pub IsOf : Outcome → Result Answer Stop → Type 0
IsOf outcome (Ok answer) = Gives outcome answer
IsOf outcome (Err stops.OutOfMemory) = Unit {0}
IsOf outcome (Err (stops.Refusal refusal)) = Refuses outcome refusal
IsOf outcome (Err (stops.Words index)) = ⊥
IsOf outcome (Err (stops.File name fault)) = ⊥

-- the status, and what was given, follow the outcome, but for a fault of the sink
abbrev pub Follows : Outcome → Status → Option (List ℕ) → Option (List ℕ) → Type 0
Follows (Writes bytes) Done before now = now ≡ appended before bytes
Follows (Writes bytes) WriteFault before now = GaveFirst bytes before now
Follows (Reports true bytes) Done before now = now ≡ appended before bytes
Follows (Reports false bytes) No before now = now ≡ appended before bytes
Follows (Reports verdict bytes) WriteFault before now = GaveFirst bytes before now
Follows (RefusesDocument document) (BadDocument fault) before now = IsFaultyDocument document fault
Follows (RefusesPolicy fault) (BadPolicy told) before now = told ≡ fault
Follows (RefusesData name at) (BadData told place) before now = (told ≡ name) × (place ≡ at)
Follows (RefusesItem item code) (Refused number told) before now = (number ≡ item) × (told ≡ code)
Follows outcome status before now = ⊥
