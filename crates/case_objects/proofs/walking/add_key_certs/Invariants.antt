use Rattle.std.proofs.Common.{drop, map}
use Rattle.signature_objects.specs.Objects.{Certificate}
use Rattle.case_objects.proofs.Added.{Adds}
use Rattle.case_objects.proofs.walking.add_key_certs.Given as goal

abbrev pub invariant-loop-number : goal.invariant-loop-number
invariant-loop-number l =
    Adds (map (λ octets. Certificate octets) (drop l.number l.parts.key_certs)) (map (λ octets. Certificate octets) l.parts.key_certs) l.fn.case l.case
