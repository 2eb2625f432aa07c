use Rattle.std.proofs.Common.{◌≡◌, Some, ◌∙◌}
use Rattle.x509_certs.specs.View.{certificate_bytes}
use Rattle.acceptance.specs.Certificates.{Member}
use Rattle.acceptance.specs.Objects.{certificate_of, token_of}
use Rattle.sample_cases.proofs.stamps.put_signer.Goals as goal

pub returns-clause-signer : goal.returns-clause-signer
unfolding certificate_of token_of
returns-clause-signer c whole is =
    let m : Member = record { number = c.in_ok-put_certificate.field-0.number; certificate = certificate_of c.whole.result.now } in
    let named : Some (certificate_bytes c.in-Some.signer) ≡ Some whole = c.in-Some.ensures ∙ is in
    let same : certificate_bytes c.in-Some.signer ≡ whole = cc in
    (m, c.in_ok-put_certificate.ensures.number, c.whole.ensures ∙ same)
