use Rattle.std.proofs.Common.{◌≡◌, map, take}
use Rattle.cert_paths.specs.Rows.{dates_of}
use Rattle.cert_paths.proofs.gather.dates.Given as goal

abbrev pub invariant-loop-cert : goal.invariant-loop-cert
invariant-loop-cert l = map (λ d. d.items) l.all.items ≡ map (λ c. dates_of c l.rows) (take l.cert-index l.certs)
