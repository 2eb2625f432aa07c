use Rattle.std.proofs.Common.{map}
use Rattle.std.specs.List.{All}
use Rattle.der_values.specs.Fits.{IsObject}
use Rattle.tst_tokens.specs.View.{certificates_left}
use Rattle.x509_certs.specs.Layouts.{certificate}
use Rattle.signature_objects.specs.Held.{objects_of_token}
use Rattle.signature_objects.specs.Objects.{Certificate}
use Rattle.case_objects.proofs.Added.{Adds}
use Rattle.case_objects.proofs.adding.add_token.Given as goal

abbrev pub invariant-loop-certificate : goal.invariant-loop-certificate
invariant-loop-certificate l =
    Adds (map (λ octets. Certificate octets) (certificates_left l.certificate-iterator)) (objects_of_token l.token) l.fn.case l.case
    × All (IsObject certificate) (certificates_left l.certificate-iterator)
