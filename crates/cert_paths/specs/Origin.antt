-- What links are the links of.
use Rattle.std.specs.Prelude.{List}
use Rattle.policy_rules.specs.Rules.{Rules}
use Rattle.acceptance.specs.Certificates.{Part}

pub record Origin : Type 0 where
  pub pool : List Part
  pub policy : Rules
