-- What is judged before what: each test goes on to the next where it finds nothing. The order is this project's own.
use Rattle.std.specs.Prelude.{ℕ, List, Option, None, Some, Result, Ok, Err}
use Rattle.document_model.specs.Documents
use Rattle.policy_rules.specs.Faults as policies
use Rattle.policy_rules.specs.Rules.{Rules}
use Rattle.policy_rules.specs.declared.fault.PolicyFault.{PolicyFault}
use Rattle.policy_rules.specs.declared.fault.PolicyFault.TheVariants as told
use Rattle.signature_checks.specs.declared.codes.Code.{Code}
use Rattle.xades_cli.specs.Outcomes.{Outcome, Writes, RefusesDocument, RefusesPolicy, RefusesItem}

-- the fault of a policy, as it is told
abbrev pub policy_fault : policies.Fault → PolicyFault
policy_fault policies.toml = told.Toml
policy_fault (policies.field name) = told.Field name
policy_fault (policies.anchor index) = told.Anchor index

abbrev pub by_policy : Result Rules policies.Fault → (Rules → Outcome) → Outcome
by_policy (Err fault) later = RefusesPolicy (policy_fault fault)
by_policy (Ok rules) later = later rules

-- a document that has a fault is refused
abbrev pub unless_faulty : List ℕ → Option Documents.Fault → Outcome → Outcome
unless_faulty bytes (Some fault) later = RefusesDocument bytes
unless_faulty bytes None later = later

-- a command that has no items refuses as item 0
abbrev pub unless_against : List ℕ → Option Code → Outcome
unless_against new (Some code) = RefusesItem 0 code
unless_against new None = Writes new
