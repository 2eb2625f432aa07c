use Rattle.std.proofs.Common.{◌≡◌, ℕ, ◌<◌, false, [], get_or}
use Rattle.qualifying_props.specs.Digests.{has_digest}
use Rattle.qualifying_props.proofs.signer.signing_cert.Given as goal

-- those before have another digest
abbrev pub invariant-loop-number : goal.invariant-loop-number
invariant-loop-number l = (k : ℕ) → k < l.number → has_digest l.kind l.digest (get_or l.certs k []) ≡ false
