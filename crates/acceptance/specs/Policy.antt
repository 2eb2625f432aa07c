-- What a policy accepts: the rules of policy_rules, seen by the acceptance of certificates and tokens.
use Rattle.std.specs.Prelude.{◌≡◌, List, map, ℤ, Some}
use Rattle.algorithms.specs.declared.signature_kinds.SignatureKind.{SignatureKind}
use Rattle.policy_rules.specs.Rules.{Rules, AcceptsKind}
use Rattle.acceptance.specs.Certificates.{Certificate, Signature}
use Rattle.acceptance.specs.Objects.{certificate_of}

-- the trust anchors, each of which is the bytes of a certificate
abbrev pub anchors_of : Rules → List Certificate
anchors_of policy = map certificate_of policy.anchors

-- the signature is of a kind that the policy accepts at that time
abbrev pub AcceptsSignature : Rules → Signature → ℤ → Type 0
AcceptsSignature policy signature at = (kind : SignatureKind) × (signature.kind ≡ Some kind) × AcceptsKind policy kind at
