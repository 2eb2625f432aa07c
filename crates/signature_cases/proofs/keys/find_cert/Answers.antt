use Rattle.std.proofs.Common.{◌≡◌, ℕ, List, Some, slice_get, refl, sym, ap, ◌∙◌}
use Rattle.acceptance.specs.Certificates.{Member, Part, certificate}
use Rattle.acceptance.specs.Objects.{certificate_of}
use Rattle.existence_times.specs.Shown.{Shown}
use Rattle.x509_certs.specs.View.{certificate_bytes}
use Rattle.signature_objects.specs.Objects.{Certificate, number_of}
use Rattle.signature_evidence.proofs.Numbers.{number_there}
use Rattle.signature_cases.proofs.keys.find_cert.Goals as goal

pub returns-clause-found : goal.returns-clause-found
returns-clause-found c objects s had =
    let octets = c.args.octets.now in
    let n : ℕ = number_of objects (Certificate octets) in
    let there : slice_get c.args.case.now.pool n ≡ Some (certificate (certificate_of (certificate_bytes c.in-Ok.certificate))) =
    ap (λ (pool : List Part). slice_get pool n) s.pool ∙ number_there objects (Certificate octets) had
    ∙ ap (λ (bytes : List ℕ). Some (certificate (certificate_of bytes))) (sym c.in-Ok.ensures.ok) in
    let same = c.in_ok-object.ensures.there n there in
    let found : Member = record { number = c.in_ok-object.object.number; certificate = certificate_of (certificate_bytes c.in-Ok.certificate) } in
    let known : Member = record { number = n; certificate = certificate_of (certificate_bytes c.in-Ok.certificate) } in
    let pools = c.pool.ensures in
    let one = c.parts-distinct.ensures.distinct found known
    (ap (λ (pool : List Part). slice_get pool c.in_ok-object.object.number) pools ∙ c.in_ok-object.ensures.number)
    (ap (λ (pool : List Part). slice_get pool n) (pools ∙ ap (λ (case : Shown). case.pool) same) ∙ there) refl in
    (same, record { octets = refl; number = ap (λ (m : Member). m.number) one })
