-- When a time-stamp token is accepted, and the time that it proves.
use Rattle.std.specs.Prelude.{◌≡◌, List, ℤ, pos, ◌+ℤ◌, Some, if◌then◌else◌, ◌==◌}
use Rattle.policy_rules.specs.Rules.{Rules, AcceptsDigest}
use Rattle.acceptance.specs.Certificates.{Part, Member}
use Rattle.acceptance.specs.Policy.{AcceptsSignature}
use Rattle.acceptance.specs.Tokens.{Token}
use Rattle.acceptance.specs.Walks.{HasCertificate, IsAccepted}

-- the signer is in the pool, and is accepted from the token's time on
pub record HasSigner (pool : List Part) (policy : Rules) (times : List ℤ) (token : Token) (at : ℤ) : Type 0 where
  pub signer : Member
  pub named : token.signer ≡ Some signer.certificate.whole
  pub there : HasCertificate pool signer
  pub accepted : IsAccepted pool policy times signer token.gen_time at

pub record IsTokenAccepted (pool : List Part) (policy : Rules) (times : List ℤ) (token : Token) (at : ℤ) : Type 0 where
  pub imprint : AcceptsDigest policy token.imprint at
  pub content : AcceptsDigest policy token.content at
  pub cert_hash : AcceptsDigest policy token.cert_hash at
  pub kind : AcceptsSignature policy token.signature at
  pub signer : HasSigner pool policy times token at

-- the time before which everything that the token covers was there
abbrev pub proof_time : Rules → Token → ℤ
proof_time policy token = if policy.version == 2 then token.gen_time +ℤ pos token.accuracy else token.gen_time
