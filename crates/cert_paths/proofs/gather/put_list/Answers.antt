use Rattle.std.proofs.Common.{ℕ, List, Some, sym, ap, ◌∙◌}
use Rattle.x509_certs.specs.declared.part.Part.{Part as X509Part}
use Rattle.acceptance.specs.Certificates.{crl}
use Rattle.acceptance.specs.Objects.{crl_of}
use Rattle.cert_paths.specs.declared.object.ObjectId.{ObjectId}
use Rattle.cert_paths.specs.Pool.{seen}
use Rattle.cert_paths.proofs.GatherLaws.{lists_pushed}
use Rattle.cert_paths.proofs.gather.put_list.Goals as goal

pub returns-in_ok-push-in-List : goal.returns-in_ok-push-in-List
returns-in_ok-push-in-List c pool n so_far number there =
    lists_pushed pool c.args.rows.now.items c.push.new.self.items n c.args.object.number c.list_row.result so_far c.in_ok-push-in-List.ensures.items number
    (ap (λ (o : ObjectId). o.number) c.list_row.ensures.object)
    (there ∙ ap (λ (p : X509Part). Some (seen p)) c.in-List.is ∙ ap (λ (b : List ℕ). Some (crl (crl_of b))) (sym c.list_row.ensures.list))
