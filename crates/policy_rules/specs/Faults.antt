-- Why a text is no policy, and how what a function returned is compared with what is to be read.
use Rattle.std.specs.Prelude.{◌≡◌, ℕ, Bool, List, Option, Some, None, Result, Ok, Err}
use Rattle.policy_rules.specs.declared.fault.PolicyFault.{PolicyFault}
use Rattle.policy_rules.specs.declared.fault.PolicyFault.TheVariants as told
use Rattle.policy_rules.specs.declared.fault.FieldError.{FieldError}
use Rattle.policy_rules.specs.declared.fault.FieldError.TheVariants as errors

-- no TOML; a field, by its name, that is missing, unknown or not as it has to be; an anchor, by its number from 1, that is none
pub data Fault : Type 0 where
  toml : Fault
  field : List ℕ → Fault
  anchor : ℕ → Fault

-- the fault that is told is the one that the text has; want of memory tells nothing of the text
abbrev pub IsTold : {Y : Type 0} → PolicyFault → Result Y Fault → Type 0
IsTold told.Toml read = read ≡ Err toml
IsTold (told.Field name) read = read ≡ Err (field name)
IsTold (told.Anchor index) read = read ≡ Err (anchor index)
IsTold told.OutOfMemory read = Unit {0}

-- what was returned, seen by view, is what the text says
abbrev pub Gives : {X Y : Type 0} → (X → Y) → Result X PolicyFault → Result Y Fault → Type 0
Gives view (Ok x) read = read ≡ Ok (view x)
Gives view (Err e) read = IsTold e read

abbrev pub IsRefused : {Y : Type 0} → FieldError → Option Y → Type 0
IsRefused errors.Refused read = read ≡ None
IsRefused errors.OutOfMemory read = Unit {0}

-- the same of a field, which has a value or has none
abbrev pub GivesValue : {X Y : Type 0} → (X → Y) → Result X FieldError → Option Y → Type 0
GivesValue view (Ok x) read = read ≡ Some (view x)
GivesValue view (Err e) read = IsRefused e read

-- a field of this name has to have a value
abbrev pub of_field : {Y : Type 0} → List ℕ → Option Y → Result Y Fault
of_field name None = Err (field name)
of_field name (Some y) = Ok y

-- a field that is refused is told by its name
abbrev pub IsFieldFault : List ℕ → FieldError → PolicyFault → Type 0
IsFieldFault name errors.Refused fault = IsTold {Y = ℕ} fault (Err (field name))
IsFieldFault name errors.OutOfMemory fault = fault ≡ told.OutOfMemory

-- a test that only want of memory keeps from its answer
abbrev pub Answers : Result Bool FieldError → Bool → Type 0
Answers (Ok b) answer = b ≡ answer
Answers (Err e) answer = e ≡ errors.OutOfMemory
