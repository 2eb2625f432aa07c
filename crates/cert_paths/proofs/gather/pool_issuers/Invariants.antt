use Rattle.std.proofs.Common.{◌≡◌, map, take}
use Rattle.cert_paths.specs.Rows.{member_of, issuer_of}
use Rattle.cert_paths.proofs.gather.pool_issuers.Given as goal

abbrev pub invariant-loop-cert : goal.invariant-loop-cert
invariant-loop-cert l = map issuer_of l.rows.items ≡ map (λ r. (member_of r).certificate) (take l.cert-index l.certs)
