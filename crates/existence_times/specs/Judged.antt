-- What of a token is accepted by the policy alone.
use Rattle.std.specs.Prelude.{ℤ}
use Rattle.policy_rules.specs.Rules.{Rules, AcceptsDigest}
use Rattle.acceptance.specs.Policy.{AcceptsSignature}
use Rattle.acceptance.specs.Tokens.{Token}

pub record AreKindsAccepted (policy : Rules) (token : Token) (at : ℤ) : Type 0 where
  pub imprint : AcceptsDigest policy token.imprint at
  pub content : AcceptsDigest policy token.content at
  pub cert_hash : AcceptsDigest policy token.cert_hash at
  pub kind : AcceptsSignature policy token.signature at
