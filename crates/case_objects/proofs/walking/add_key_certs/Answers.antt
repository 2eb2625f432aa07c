use Rattle.std.proofs.Common.{◌+◌, List, drop, map, subst}
use Rattle.signature_objects.specs.Objects.{Object, Certificate}
use Rattle.case_objects.proofs.Added.{Adds, adds_on, left_more}
use Rattle.case_objects.proofs.walking.add_key_certs.Goals as goal

pub loop-number-preserved : goal.loop-number-preserved
loop-number-preserved c =
    let keys = c.args.parts.now.key_certs in
    let number = c.loop-number.number in
    let key = c.key_cert.result.now in
    adds_on (Certificate key) (map (λ octets. Certificate octets) (drop (number + 1) keys)) (map (λ octets. Certificate octets) keys) c.args.case.now c.loop-number.case c.add_certificate.new.case
    c.in_ok-add_certificate.ensures.objects c.in_ok-add_certificate.ensures.stamps
    (subst (λ (left : List Object). Adds left (map (λ octets. Certificate octets) keys) c.args.case.now c.loop-number.case)
    (left_more (λ octets. Certificate octets) keys number key c.key_cert.ensures) c.loop-number.invariant)
