use Rattle.std.proofs.Common.{List, Option, Some, sym, subst, ℕ}
use Rattle.doc_spans.specs.Seen.{document_in}
use Rattle.signature_elements.specs.Standing.{spot_of}
use Rattle.signature_objects.specs.Held.{objects}
use Rattle.signature_cases.specs.Signer.{IsCertOf}
use Rattle.signature_cases.proofs.Keyed.{signer_had, signer_is}
use Rattle.signature_cases.proofs.keys.signing_cert.Goals as goal

pub returns-in_ok-cert-in-Some-clause-found : goal.returns-in_ok-cert-in-Some-clause-found
returns-in_ok-cert-in-Some-clause-found c doc more p s =
    let document = document_in doc in
    let signature = spot_of doc c.args.parts.now.signature in
    let is = signer_is doc c.args.parts.now c.in-Some.number c.key_cert.result.now p c.in-Some.ensures c.key_cert.ensures in
    let found = c.in_ok-cert-in-Some.ensures.found (objects document signature more) s (signer_had document signature more c.key_cert.result.now is) in
    (found.0, subst (λ (o : Option (List ℕ)). IsCertOf (objects document signature more) o (Some c.in_ok-cert-in-Some.cert)) (sym is) found.1)
