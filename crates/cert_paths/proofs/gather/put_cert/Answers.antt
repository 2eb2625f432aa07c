use Rattle.std.proofs.Common.{ℕ, List, Some, sym, ap, ◌∙◌}
use Rattle.x509_certs.specs.declared.part.Part.{Part as X509Part}
use Rattle.acceptance.specs.Certificates.{certificate}
use Rattle.acceptance.specs.Objects.{certificate_of}
use Rattle.cert_paths.specs.declared.object.ObjectId.{ObjectId}
use Rattle.cert_paths.specs.Pool.{seen}
use Rattle.cert_paths.proofs.GatherLaws.{certificates_pushed}
use Rattle.cert_paths.proofs.gather.put_cert.Goals as goal

pub returns-in_ok-push-in-Cert : goal.returns-in_ok-push-in-Cert
returns-in_ok-push-in-Cert c pool n so_far number there =
    certificates_pushed pool c.args.rows.now.items c.push.new.self.items n c.args.object.number c.cert_row.result so_far c.in_ok-push-in-Cert.ensures.items number
    (ap (λ (o : ObjectId). o.number) c.cert_row.ensures.object)
    (there ∙ ap (λ (p : X509Part). Some (seen p)) c.in-Cert.is ∙ ap (λ (b : List ℕ). Some (certificate (certificate_of b))) (sym c.cert_row.ensures.certificate))
