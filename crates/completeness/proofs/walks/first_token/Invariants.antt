use Rattle.std.specs.Prelude.{option_and_then, slice_get}
use Rattle.completeness.proofs.Passing.{Passed}
use Rattle.completeness.proofs.walks.first_token.Given as goal

abbrev pub invariant-loop-number : goal.invariant-loop-number
invariant-loop-number l = Passed l.links.pool l.links.policy (option_and_then (slice_get l.parts.key_certs) l.parts.signing_cert) l.parts.properties l.number l.before
