-- A text that is no policy stops a command.
use Rattle.std.proofs.Common.{◌≡◌, ℕ, List, [], refl}
use Rattle.std.specs.Prelude.{Result, Ok, Err}
use Rattle.policy_rules.specs.Faults as policies
use Rattle.policy_rules.specs.Rules.{Rules}
use Rattle.xades_cli.specs.Computed.{IsResultOf}
use Rattle.xades_cli.specs.Outcomes.{Outcome, IsOf, RefusesPolicy, Writes}
use Rattle.xades_cli.specs.Stages.{by_policy, policy_fault}
use Rattle.xades_cli.specs.declared.stop.Stop.{Stop}
use Rattle.xades_cli.specs.declared.stop.Stop.TheVariants as stops

pub stopped_by_policy : (policy : Result Rules policies.Fault) (Comes : Outcome → Type 0) (Says : List ℕ → Type 0) (stop : Stop)
    → ((found : policies.Fault) → policy ≡ Err found → Comes (RefusesPolicy (policy_fault found))) → ((later : Rules → Outcome) → IsOf (by_policy policy later) (Err stop))
    → IsResultOf Comes Says (Err stop)
stopped_by_policy (Err found) Comes Says (stops.Refusal refusal) fits of = record {
  outcome = RefusesPolicy (policy_fault found);
  comes = fits found refl;
  refuses = of (λ rules. Writes []);
}
stopped_by_policy (Ok rules) Comes Says (stops.Refusal refusal) fits of = absurd (of (λ rules. Writes []))
stopped_by_policy policy Comes Says stops.OutOfMemory fits of = tt
stopped_by_policy (Err found) Comes Says (stops.Words index) fits of = of (λ rules. Writes [])
stopped_by_policy (Ok rules) Comes Says (stops.Words index) fits of = of (λ rules. Writes [])
stopped_by_policy (Err found) Comes Says (stops.File name fault) fits of = of (λ rules. Writes [])
stopped_by_policy (Ok rules) Comes Says (stops.File name fault) fits of = of (λ rules. Writes [])
